-- Bytes spell one text of a plan, with the places of its tokens.
use Rattle.std.proofs.Common.{◌≡◌, ℕ, List, [], ◌∷◌, map, Option, None, Some, Result, Ok, Err, refl, sym, ap, ◌∙◌}
use Rattle.std.specs.Option.{option_map}
use Rattle.np_lex.specs.Tokens as tokens
use Rattle.np_lex.specs.Tokens.{Lexeme, Item, items_of, named, numeral}
use Rattle.np_read.specs.Marks.{Mark, IsMarked, Fits, each}
use Rattle.np_words.specs.declared.word.Word.{Word}
use Rattle.np_words.specs.declared.word.Decimal.{Decimal}
use Rattle.np_words.specs.Bare.{bare_word, bare_decimal}
use Rattle.np_words.specs.Text.{marked, right, name, decimal_text}
use Rattle.np_plan.specs.declared.plan.PlanLine.{PlanLine}
use Rattle.np_plan.specs.declared.plan.PlanText.{PlanText}
use Rattle.np_plan.specs.PlanForm.{colon, plan}
use Rattle.np_plan.specs.PlanText.{stamp, line, bare_line, bare_plan, SpellsText, IsPlaced}
use Rattle.np_plan.proofs.PlanLaws.{reads_plan, only_by}
use Rattle.np_plan.proofs.WholeTexts.{text_unspelled}
use Rattle.np_commands.proofs.Cuts.{heads, tails}

-- ---- up to places

module _ (bytes : List ℕ) (p q : PlanText) (first : SpellsText bytes p) (second : SpellsText bytes q) where
  read_as : (r : Result (PlanText × List Item) (List Item)) → plan (items_of bytes) ≡ r → bare_plan q ≡ bare_plan p
  read_as (Ok (a, rest)) e = only_by bytes a rest e q second ∙ sym (only_by bytes a rest e p first)
  read_as (Err rest) e = absurd (text_unspelled reads_plan bytes rest e p first.is_plan first.lexemes_are)

  pub one_text : bare_plan q ≡ bare_plan p
  one_text = read_as (plan (items_of bytes)) refl

-- ---- with places

-- what is left of the same items fits both
record FitBoth (ms ns : List Mark) (rest other : List Item) : Type 0 where
  items : List Item
  one : Fits items ms rest
  two : Fits items ns other

-- the same item is marked by both
record Token (m n : Mark) (ms ns : List Mark) (rest other : List Item) : Type 0 where
  item : Item
  one : IsMarked item m
  two : IsMarked item n
  after : FitBoth ms ns rest other

token_of : (m n : Mark) (ms ns : List Mark) (rest other : List Item) → FitBoth (m ∷ ms) (n ∷ ns) rest other → Token m n ms ns rest other
token_of m n ms ns rest other both = by both.items both.one both.two
  where
    by : (items : List Item) → Fits items (m ∷ ms) rest → Fits items (n ∷ ns) other → Token m n ms ns rest other
    by [] h k = absurd h
    by (item ∷ items) h k = record { item = item; one = h.0; two = k.0; after = record { items = items; one = h.1; two = k.1 } }

-- values are the same, and what is left fits both
record Same {A : Type 0} (a b : A) (ms ns : List Mark) (rest other : List Item) : Type 0 where
  same : a ≡ b
  after : FitBoth ms ns rest other

same_word : (v w : Word) → v.text ≡ w.text → v.place ≡ w.place → v ≡ w
same_word v w e f = λ i. record { text = e i; place = f i }

same_decimal : (d e : Decimal) → d.negative ≡ e.negative → d.whole ≡ e.whole → d.part ≡ e.part → d.place ≡ e.place → d ≡ e
same_decimal d e n w p f = λ i. record { negative = n i; whole = w i; part = p i; place = f i }

same_line : (l k : PlanLine) → l.stamp ≡ k.stamp → l.place ≡ k.place → l.action ≡ k.action → l.objects ≡ k.objects → l ≡ k
same_line l k s p a o = λ i. record { stamp = s i; place = p i; action = a i; objects = o i }

somes : {A : Type 0} (x y : A) → Some x ≡ Some y → x ≡ y
somes x y e = cc

module _ (rest other : List Item) where
  word : (v w : Word) (ms ns : List Mark) → bare_word v ≡ bare_word w → FitBoth (name marked v ms) (name marked w ns) rest other → Same v w ms ns rest other
  word v w ms ns e both =
      let t = token_of (marked (v.place ∷ []) (named v.text)) (marked (w.place ∷ []) (named w.text)) ms ns rest other both in
      record { same = same_word v w (ap (λ (x : Word). x.text) e) (t.one.places.0 ∙ sym t.two.places.0); after = t.after }

  words : (vs ws : List Word) (ms ns : List Mark) → map bare_word vs ≡ map bare_word ws → FitBoth (each (name marked) vs ms) (each (name marked) ws ns) rest other → Same vs ws ms ns rest other
  words [] [] ms ns e both = record { same = refl; after = both }
  words [] (w ∷ ws) ms ns e both = absurd cc
  words (v ∷ vs) [] ms ns e both = absurd cc
  words (v ∷ vs) (w ∷ ws) ms ns e both =
      let first = word v w (each (name marked) vs ms) (each (name marked) ws ns) (heads (bare_word v) (bare_word w) (map bare_word vs) (map bare_word ws) e) both in
      let more = words vs ws ms ns (tails (bare_word v) (bare_word w) (map bare_word vs) (map bare_word ws) e) first.after in
      let one : v ≡ w = first.same in
      let two : vs ≡ ws = more.same in
      record { same = λ i. one i ∷ two i; after = more.after }

  stamps : (s t : Option Decimal) (ms ns : List Mark) → option_map bare_decimal s ≡ option_map bare_decimal t → FitBoth (stamp marked s ms) (stamp marked t ns) rest other → Same s t ms ns rest other
  stamps None None ms ns e both = record { same = refl; after = both }
  stamps None (Some d) ms ns e both = absurd cc
  stamps (Some d) None ms ns e both = absurd cc
  stamps (Some d) (Some f) ms ns e both =
      let t = token_of (marked (d.place ∷ []) (numeral (decimal_text d))) (marked (f.place ∷ []) (numeral (decimal_text f))) (marked [] colon ∷ ms) (marked [] colon ∷ ns) rest other both in
      let u = token_of (marked [] colon) (marked [] colon) ms ns rest other t.after in
      let bare : bare_decimal d ≡ bare_decimal f = somes (bare_decimal d) (bare_decimal f) e in
      record {
        same = ap Some (same_decimal d f (ap (λ (x : Decimal). x.negative) bare) (ap (λ (x : Decimal). x.whole) bare) (ap (λ (x : Decimal). x.part) bare) (t.one.places.0 ∙ sym t.two.places.0));
        after = u.after;
      }

  a_line : (l k : PlanLine) (ms ns : List Mark) → bare_line l ≡ bare_line k → FitBoth (line marked l ms) (line marked k ns) rest other → Same l k ms ns rest other
  a_line l k ms ns e both =
      let closed_l : List Mark = right marked ms in
      let closed_k : List Mark = right marked ns in
      let named_l : List Mark = name marked l.action (each (name marked) l.objects closed_l) in
      let named_k : List Mark = name marked k.action (each (name marked) k.objects closed_k) in
      let s = stamps l.stamp k.stamp (marked (l.place ∷ []) tokens.left ∷ named_l) (marked (k.place ∷ []) tokens.left ∷ named_k) (ap (λ (x : PlanLine). x.stamp) e) both in
      let t = token_of (marked (l.place ∷ []) tokens.left) (marked (k.place ∷ []) tokens.left) named_l named_k rest other s.after in
      let a = word l.action k.action (each (name marked) l.objects closed_l) (each (name marked) k.objects closed_k) (ap (λ (x : PlanLine). x.action) e) t.after in
      let o = words l.objects k.objects closed_l closed_k (ap (λ (x : PlanLine). x.objects) e) a.after in
      let c = token_of (marked [] tokens.right) (marked [] tokens.right) ms ns rest other o.after in
      record { same = same_line l k s.same (t.one.places.0 ∙ sym t.two.places.0) a.same o.same; after = c.after }

  lines : (ls ks : List PlanLine) → map bare_line ls ≡ map bare_line ks → FitBoth (each (line marked) ls []) (each (line marked) ks []) rest other → ls ≡ ks
  lines [] [] e both = refl
  lines [] (k ∷ ks) e both = absurd cc
  lines (l ∷ ls) [] e both = absurd cc
  lines (l ∷ ls) (k ∷ ks) e both =
      let first = a_line l k (each (line marked) ls []) (each (line marked) ks []) (heads (bare_line l) (bare_line k) (map bare_line ls) (map bare_line ks) e) both in
      let one : l ≡ k = first.same in
      let two : ls ≡ ks = lines ls ks (tails (bare_line l) (bare_line k) (map bare_line ls) (map bare_line ks) e) first.after in
      λ i. one i ∷ two i

pub one_placed : (bytes : List ℕ) (p q : PlanText) → SpellsText bytes p → SpellsText bytes q → IsPlaced bytes p → IsPlaced bytes q → p.lines ≡ q.lines
one_placed bytes p q first second at_first at_second =
    lines at_first.rest at_second.rest p.lines q.lines (ap (λ (t : PlanText). t.lines) (one_text bytes q p second first))
    (record { items = items_of bytes; one = at_first.fits; two = at_second.fits })
