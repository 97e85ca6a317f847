-- A good reader of what is spelled refuses a text at its first fault.
use Rattle.std.proofs.Common.{map, ◌≡◌, ℕ, zero, suc, ◌-◌, List, [], ◌∷◌, ◌++◌, length, Option, None, Some, Ok, Err, refl, sym, ap, subst, ◌∙◌, append_assoc, arith}
use Rattle.std.specs.Option.{option_map}
use Rattle.std.proofs.lemmas.List.{append-nil, map-append}
use Rattle.np_lex.specs.declared.token.Place.{Place}
use Rattle.np_lex.specs.Tokens.{Lexeme, Piece, word, bad, end, Item, Next, taken, bad_at, ended, next_from, item_then, items_within, items_from, items_of, first_place}
use Rattle.np_read.specs.Lexemes.{lexeme_before, lexemes_in, lexemes}
use Rattle.np_read.specs.Faults.{pieces_in, onto, BeginsSpelling, IsFirstFault}
use Rattle.np_read.specs.Printers.{Printed}
use Rattle.np_read.specs.ItemReaders.{Outcome, Reader, and_then, pure, refuse, chosen, at_end, whole}
use Rattle.np_read.specs.ItemReaders as readers
use Rattle.np_read.proofs.Good.{Goes, Stopped, Good}
use Rattle.np_read.proofs.GoodParts.{at, good_before, starts_end}
use Rattle.np_read.proofs.Good.{good_of}
use Rattle.np_read.proofs.Spelled.{Gets, Finds, Spelled, Back, Reads, then_at, then_find, gets, head_is, tail_is}

-- ---- the end

end_at : (item : Item) (items : List Item) → item.piece ≡ end → at_end (item ∷ items) ≡ Ok (tt, items)
unfolding at_end
end_at item items is = ap (λ (p : Piece). chosen (readers.ended p) pure (refuse (item ∷ items)) items) is

ends_by : (item : Item) (items : List Item) (piece : Piece) → item.piece ≡ piece → Gets (λ u rest. item.piece ∷ pieces_in items ≡ end ∷ pieces_in rest) (chosen (readers.ended piece) pure (refuse (item ∷ items)) items)
ends_by item items (word lexeme) is = tt
ends_by item items bad is = tt
ends_by item items end is = ap (λ (p : Piece). p ∷ pieces_in items) is

end_sound : (items : List Item) → Gets (λ u rest. pieces_in items ≡ end ∷ pieces_in rest) (at_end items)
unfolding at_end
end_sound [] = tt
end_sound (item ∷ items) = ends_by item items item.piece refl

end_back : (items : List Item) (others : List Piece) → pieces_in items ≡ end ∷ others → Finds (λ u rest. pieces_in rest ≡ others) (at_end items)
end_back [] others e = absurd cc
end_back (item ∷ items) others e =
    subst (Finds (λ u rest. pieces_in rest ≡ others)) (sym (end_at item items (head_is item.piece end (pieces_in items) others e))) (tail_is item.piece end (pieces_in items) others e)

-- ---- a whole text

module _ {A : Type 0} {P : A → Type 0} {f : A → Printed} {S : A → A → Type 0} {p : Reader A} (reads : Reads P f S p) where
  abbrev spelling : A → List Lexeme
  spelling a = f a []

  pub whole_sound : (items : List Item) → Gets (λ a rest. P a × (pieces_in items ≡ onto (spelling a) (end ∷ pieces_in rest))) (whole p items)
  whole_sound items =
      then_at (Spelled P f items) (λ a rest. P a × (pieces_in items ≡ onto (spelling a) (end ∷ pieces_in rest))) (λ a rest. and_then (at_end rest) (λ _ more. Ok (a, more))) (p items) (reads.sound items)
      (λ a rest h. then_at (λ u more. pieces_in rest ≡ end ∷ pieces_in more) (λ b more. P b × (pieces_in items ≡ onto (spelling b) (end ∷ pieces_in more))) (λ _ more. Ok (a, more)) (at_end rest) (end_sound rest)
      (λ u more k. (h.good, h.spelled [] (end ∷ pieces_in more) k)))

  pub whole_back : (items : List Item) (a : A) (others : List Piece) → P a → pieces_in items ≡ onto (spelling a) (end ∷ others) → Finds (Back S a others) (whole p items)
  whole_back items a others h e =
      then_find (Back S a (end ∷ others)) (Back S a others) (λ b rest. and_then (at_end rest) (λ _ more. Ok (b, more))) (p items) (reads.back items a [] (end ∷ others) h e)
      (λ b rest m. then_find (λ u more. pieces_in more ≡ others) (Back S a others) (λ _ more. Ok (b, more)) (at_end rest) (end_back rest others m.left_are)
      (λ u more n. record { same = m.same; left_are = n }))

bare : List Piece → List Item
bare ps = map at ps

pieces_in-bare : (ps : List Piece) → pieces_in (bare ps) ≡ ps
unfolding bare
pieces_in-bare [] = refl
pieces_in-bare (p ∷ ps) = ap (λ (qs : List Piece). p ∷ qs) (pieces_in-bare ps)

pieces_in-append : (xs ys : List Item) → pieces_in (xs ++ ys) ≡ pieces_in xs ++ pieces_in ys
pieces_in-append xs ys = map-append (λ (item : Item). item.piece) xs ys

none_left : (items : List Item) → pieces_in items ≡ [] → items ≡ []
none_left [] e = refl
none_left (item ∷ items) e = absurd cc

module _ {A : Type 0} {P : A → Type 0} {f : A → Printed} {S : A → A → Type 0} {p : Reader A} (good : (k : ℕ) → Good k p) (reads : Reads P f S p) where
  good_whole : (k : ℕ) → Good k (whole p)
  good_whole k = good_before k p at_end (good k) (good_of k at_end (starts_end k))

  goes_on : (front : List Item) → Goes (whole p) front → BeginsSpelling P (λ a. f a []) (pieces_in front)
  goes_on front goes =
      let h = gets (λ a rest. P a × (pieces_in ((front ++ goes.more) ++ []) ≡ onto (f a []) (end ∷ pieces_in rest))) (whole p ((front ++ goes.more) ++ [])) goes.value [] (whole_sound reads ((front ++ goes.more) ++ [])) (goes.reads []) in
      record {
        value = goes.value;
        is_value = h.0;
        more = pieces_in goes.more;
        begins = sym h.1 ∙ ap pieces_in (append-nil (front ++ goes.more)) ∙ pieces_in-append front goes.more;
      }

  stops : (front : List Item) (fault : Item) → ((other : List Item) → whole p (front ++ fault ∷ other) ≡ Err (fault ∷ other)) → BeginsSpelling P (λ a. f a []) (pieces_in (front ++ fault ∷ [])) → ⊥
  stops front fault stopped begins =
      let items : List Item = front ++ fault ∷ bare begins.more in
      let cut : (front ++ fault ∷ []) ++ bare begins.more ≡ items = append_assoc front (fault ∷ []) (bare begins.more) in
      let pieces_are : pieces_in items ≡ onto (f begins.value []) (end ∷ []) =
      ap pieces_in (sym cut) ∙ pieces_in-append (front ++ fault ∷ []) (bare begins.more)
      ∙ ap (λ (ps : List Piece). pieces_in (front ++ fault ∷ []) ++ ps) (pieces_in-bare begins.more) ∙ sym begins.begins in
      subst (Finds (Back S begins.value [])) (stopped (bare begins.more)) (whole_back reads items begins.value [] begins.is_value pieces_are)

  fault_by : (items : List Item) (place : Place) (rest : List Item) → Stopped (whole p) items rest → first_place rest ≡ Some place → IsFirstFault P (λ a. f a []) items place
  fault_by items place [] stopped at_place = absurd cc
  fault_by items place (fault ∷ after) stopped at_place = record {
    front = stopped.front;
    fault = fault;
    after = after;
    items_are = stopped.cut;
    place_is = (let same : fault.place ≡ place = cc in same);
    goes_on = goes_on stopped.front stopped.goes;
    stops = stops stopped.front fault (λ other. stopped.same fault after other refl);
  }

  -- where reading stops, the first fault is
  pub first_fault : (items rest : List Item) (place : Place) → whole p items ≡ Err rest → first_place rest ≡ Some place → IsFirstFault P (λ a. f a []) items place
  first_fault items rest place e at_place = fault_by items place rest ((good_whole (length items)).stopped items rest (omega arith) e) at_place

-- ---- lexemes

-- the lexemes before an end
pub lexemes_onto : (items : List Item) (ls : List Lexeme) (others : List Piece) → pieces_in items ≡ onto ls (end ∷ others) → lexemes_in items ≡ Some ls
lexemes_onto [] [] others e = absurd cc
lexemes_onto [] (l ∷ ls) others e = absurd cc
lexemes_onto (item ∷ items) [] others e = ap (λ (p : Piece). lexeme_before p (lexemes_in items)) (head_is item.piece end (pieces_in items) others e)
lexemes_onto (item ∷ items) (l ∷ ls) others e =
    ap (λ (p : Piece). lexeme_before p (lexemes_in items)) (head_is item.piece (word l) (pieces_in items) (onto ls (end ∷ others)) e)
    ∙ ap (option_map (λ more. l ∷ more)) (lexemes_onto items ls others (tail_is item.piece (word l) (pieces_in items) (onto ls (end ∷ others)) e))

-- items end with the end or a bad byte, and have none before
pub data Closed : List Item → Type 0 where
  begun : (item : Item) (items : List Item) (lexeme : Lexeme) → item.piece ≡ word lexeme → Closed items → Closed (item ∷ items)
  last_bad : (item : Item) → item.piece ≡ bad → Closed (item ∷ [])
  last : (item : Item) → item.piece ≡ end → Closed (item ∷ [])

closed_then : (text : List ℕ) (next : Next) (f : ℕ → List Item) → ((offset : ℕ) → Closed (f offset)) → Closed (item_then text next f)
closed_then text (taken span) f closed = begun _ (f span.to) _ refl (closed span.to)
closed_then text (bad_at offset) f closed = last_bad _ refl
closed_then text ended f closed = last _ refl

closed_within : (most : ℕ) (text : List ℕ) (offset : ℕ) → Closed (items_within most text offset)
unfolding items_within
closed_within zero text offset = last _ refl
closed_within (suc most) text offset = closed_then text (next_from text offset) (items_within most text) (closed_within most text)

pub closed_of : (text : List ℕ) → Closed (items_of text)
unfolding items_from
closed_of text = closed_within (length text - 0) text 0

some_more : (lexeme : Lexeme) (others : Option (List Lexeme)) (ls : List Lexeme) → option_map (λ more. lexeme ∷ more) others ≡ Some ls → (more : List Lexeme) × (others ≡ Some more) × (lexeme ∷ more ≡ ls)
some_more lexeme None ls e = absurd cc
some_more lexeme (Some more) ls e = (more, refl, (let same : lexeme ∷ more ≡ ls = cc in same))

pub closed_onto : (items : List Item) → Closed items → (ls : List Lexeme) → lexemes_in items ≡ Some ls → pieces_in items ≡ onto ls (end ∷ [])
closed_onto _ (begun item items lexeme is closed) ls e =
    let h = some_more lexeme (lexemes_in items) ls (ap (λ (p : Piece). lexeme_before p (lexemes_in items)) (sym is) ∙ e) in
    ap (λ (p : Piece). p ∷ pieces_in items) is ∙ ap (λ (ps : List Piece). word lexeme ∷ ps) (closed_onto items closed h.0 h.1)
    ∙ ap (λ (all_of : List Lexeme). onto all_of (end ∷ [])) h.2
closed_onto _ (last_bad item is) ls e = absurd (let no : None ≡ Some ls = ap (λ (p : Piece). lexeme_before p (Some [])) (sym is) ∙ e in cc)
closed_onto _ (last item is) ls e =
    let same : [] ≡ ls = (let yes : Some [] ≡ Some ls = ap (λ (p : Piece). lexeme_before p (Some [])) (sym is) ∙ e in cc) in
    ap (λ (p : Piece). p ∷ []) is ∙ ap (λ (all_of : List Lexeme). onto all_of (end ∷ [])) same

module _ {A : Type 0} {P : A → Type 0} {f : A → Printed} {p : Reader A} (reads : Reads P f ◌≡◌ p) (text : List ℕ) where
  -- what is read of a text is spelled by it
  pub text_sound : (a : A) (rest : List Item) → whole p (items_of text) ≡ Ok (a, rest) → P a × (lexemes text ≡ Some (f a []))
  text_sound a rest e =
      let h = gets (λ b more. P b × (pieces_in (items_of text) ≡ onto (f b []) (end ∷ pieces_in more))) (whole p (items_of text)) a rest (whole_sound reads (items_of text)) e in
      (h.0, lexemes_onto (items_of text) (f a []) (pieces_in rest) h.1)

  -- what a text spells is read
  pub text_back : (a : A) → P a → lexemes text ≡ Some (f a []) → Finds (λ b rest. b ≡ a) (whole p (items_of text))
  text_back a h e = found (whole p (items_of text)) (whole_back reads (items_of text) a [] h (closed_onto (items_of text) (closed_of text) (f a []) e))
    where
      found : (x : Outcome A) → Finds (Back ◌≡◌ a []) x → Finds (λ b rest. b ≡ a) x
      found (Ok x) h = h.same
      found (Err rest) h = h

  same_by : (a b : A) (x : Outcome A) → Finds (λ c rest. c ≡ a) x → Finds (λ c rest. c ≡ b) x → a ≡ b
  same_by a b (Ok x) one two = sym one ∙ two
  same_by a b (Err rest) one two = absurd one

  -- no text spells two values
  pub text_only : (a b : A) → P a → lexemes text ≡ Some (f a []) → P b → lexemes text ≡ Some (f b []) → a ≡ b
  text_only a b h e k g = same_by a b (whole p (items_of text)) (text_back a h e) (text_back b k g)

  -- where reading stops, nothing is spelled
  pub text_refused : (rest : List Item) → whole p (items_of text) ≡ Err rest → (a : A) → P a → lexemes text ≡ Some (f a []) → ⊥
  text_refused rest e a h g = subst (Finds (λ b more. b ≡ a)) e (text_back a h g)
