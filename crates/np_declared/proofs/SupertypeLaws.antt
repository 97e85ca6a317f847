-- What types are listed under, one word after the other.
use Rattle.std.proofs.Common.{◌≡◌, ℕ, ◌+◌, ◌<◌, Bool, true, false, cond, List, [], ◌∷◌, ◌++◌, map, fold, length, get_or, take, Option, None, Some, refl, sym, ap, ◌∙◌, true≢false, if◌then◌else◌}
use Rattle.std.proofs.lemmas.Grind.{flat_map-append}
use Rattle.std.proofs.lemmas.List.{take_more, map-append}
use Rattle.std.proofs.lemmas.List.Sums.{fold-append}
use Rattle.std.proofs.lemmas.Slice.Eq.{bytes_eq-Decides}
use Rattle.std.specs.List.{flat_map}
use Rattle.std.specs.Borrow.{Bor}
use Rattle.std.specs.Prelude.{bytes_eq}
use Rattle.std.specs.HashMap.{HashMap, get}
use Rattle.std.specs.Option.{option_map_or}
use Rattle.np_words.specs.declared.word.Word.{Word}
use Rattle.np_words.specs.declared.word.Group.{Group}
use Rattle.np_syntax.specs.declared.domain.DomainSection.{DomainSection}
use Rattle.np_names.proofs.Lists.{flat_map_end}
use Rattle.np_names.specs.Declarations.{type_groups}
use Rattle.np_declared.specs.LookUps.{HasSupertypes}
use Rattle.np_names.specs.Names.{typed, typed_words, object, number_of, with_name, is_among, texts}
use Rattle.np_declared.specs.Types.{supertype_with, type_names, type_named, type_words}

abbrev Key : Type 0
Key = Bor (List ℕ)

-- the test doesn't care for the order of the two
bytes_eq_swapped : (a b : List ℕ) → bytes_eq a b ≡ bytes_eq b a
bytes_eq_swapped a b = by (bytes_eq a b) (bytes_eq b a) (λ e. (bytes_eq-Decides b a).1 (sym ((bytes_eq-Decides a b).0 e))) (λ e. (bytes_eq-Decides a b).1 (sym ((bytes_eq-Decides b a).0 e)))
  where
    by : (x y : Bool) → (bytes_eq a b ≡ true → bytes_eq b a ≡ true) → (bytes_eq b a ≡ true → bytes_eq a b ≡ true) → bytes_eq a b ≡ bytes_eq b a
    by x y f g = decide (bytes_eq a b) (bytes_eq b a) f g
      where
        decide : (x y : Bool) → (x ≡ true → y ≡ true) → (y ≡ true → x ≡ true) → x ≡ y
        decide true y f g = sym (f refl)
        decide false true f g = g refl
        decide false false f g = refl

-- what a map says of a name
abbrev over_in : {S : Type 0} → HashMap Key Key S → Key → List ℕ
over_in m q = option_map_or (λ (v : Key). v.now) (get (λ x y. bytes_eq x.now y.now) m q) object

-- one more word
pub supertypes_more : {S : Type 0} (old new : HashMap Key Key S) (before : List (Word × Option Word)) (w over : Word) (v : Key) → v.now ≡ over.text
    → ((q : Key) → get (λ x y. bytes_eq x.now y.now) new q ≡ cond (bytes_eq w.text q.now) (Some v) (get (λ x y. bytes_eq x.now y.now) old q))
    → HasSupertypes before old → HasSupertypes (before ++ (w, Some over) ∷ []) new
supertypes_more old new before w over v is updates h q =
    ap (λ o. option_map_or (λ (v : Key). v.now) o object) (updates q)
    ∙ (by (bytes_eq w.text q.now) (bytes_eq q.now w.text) (get (λ x y. bytes_eq x.now y.now) old q) (bytes_eq_swapped w.text q.now)
    ∙ (ap (λ rest. if bytes_eq q.now w.text then over.text else rest) (h q)
    ∙ sym (fold-append (supertype_with q.now) object before ((w, Some over) ∷ []))))
  where
    by : (b c : Bool) (o : Option Key) → b ≡ c
        → option_map_or (λ (v : Key). v.now) (cond b (Some v) o) object ≡ (if c then over.text else option_map_or (λ (v : Key). v.now) o object)
    by true true o e = is
    by true false o e = absurd (true≢false e)
    by false true o e = absurd (true≢false (sym e))
    by false false o e = refl

-- the words of a list so far, and one more
pub typed_word_more : (over : Word) (ws : List Word) (i : ℕ) (w : Word) → i < length ws → w ≡ get_or ws i w
    → typed (Some over) (take (i + 1) ws) ≡ typed (Some over) (take i ws) ++ (w, Some over) ∷ []
typed_word_more over ws i w within is =
    ap (typed (Some over)) (take_more ws i w within ∙ ap (λ x. take i ws ++ x ∷ []) (sym is)) ∙ map-append (λ w. (w, Some over)) (take i ws) (w ∷ [])

-- words without a supertype say nothing
pub untyped_fold : (q : List ℕ) (over : List ℕ) (ws : List Word) → fold (supertype_with q) over (typed None ws) ≡ over
untyped_fold q over [] = refl
untyped_fold q over (w ∷ ws) = untyped_fold q over ws

pub untyped_more : {S : Type 0} (m : HashMap Key Key S) (before : List (Word × Option Word)) (ws : List Word) → HasSupertypes before m → HasSupertypes (before ++ typed None ws) m
untyped_more m before ws h q = h q ∙ (sym (untyped_fold q.now (fold (supertype_with q.now) object before) ws) ∙ sym (fold-append (supertype_with q.now) object before (typed None ws)))

-- the words of two typed lists
pub typed_words_more : (xs ys : List Group) → typed_words (xs ++ ys) ≡ typed_words xs ++ typed_words ys
typed_words_more xs ys = flat_map-append (λ g. typed g.of g.words) xs ys

-- a map that says the same of equal lists
pub supertypes_like : {S : Type 0} (m : HashMap Key Key S) (xs ys : List (Word × Option Word)) → xs ≡ ys → HasSupertypes xs m → HasSupertypes ys m
supertypes_like m xs ys e h q = h q ∙ ap (fold (supertype_with q.now) object) e

-- ---- the number of `object`

number_self : (n : List ℕ) (names : List (List ℕ)) → number_of (n ∷ names) n ≡ 0
number_self n names = rw ((bytes_eq-Decides n n).1 refl) refl

number_kept : (n : List ℕ) (seen rest : List (List ℕ)) → number_of (fold with_name (n ∷ seen) rest) n ≡ 0
number_kept n seen [] = number_self n seen
number_kept n seen (m ∷ rest) = by (is_among m (n ∷ seen)) (number_kept n seen rest) (number_kept n (seen ++ m ∷ []) rest)
  where
    by : (b : Bool) → number_of (fold with_name (n ∷ seen) rest) n ≡ 0 → number_of (fold with_name (n ∷ (seen ++ m ∷ [])) rest) n ≡ 0
        → number_of (fold with_name (if b then n ∷ seen else (n ∷ seen) ++ m ∷ []) rest) n ≡ 0
    by true e f = e
    by false e f = f

pub object_number : (groups : List Group) → number_of (type_names groups) object ≡ 0
object_number groups = number_kept object [] (texts (flat_map type_words groups))

-- types of the names of keys
pub named_keys : (groups : List Group) (keys : List Key) → map (type_named groups) (map (λ k. k.now) keys) ≡ map (λ (k : Key). type_named groups k.now) keys
named_keys groups [] = refl
named_keys groups (k ∷ keys) = ap (λ ts. type_named groups k.now ∷ ts) (named_keys groups keys)

-- the words of the groups so far, and of the next
pub typed_words_next : (groups : List Group) (i : ℕ) (g : Group) → i < length groups → g ≡ get_or groups i g
    → typed_words (take (i + 1) groups) ≡ typed_words (take i groups) ++ typed g.of g.words
typed_words_next groups i g within is =
    ap typed_words (take_more groups i g within ∙ ap (λ x. take i groups ++ x ∷ []) (sym is)) ∙ flat_map_end (λ g. typed g.of g.words) (take i groups) g

-- and of the sections
pub typed_parts_next : (sections : List DomainSection) (i : ℕ) (s : DomainSection) → i < length sections → s ≡ get_or sections i s
    → typed_words (flat_map type_groups (take (i + 1) sections)) ≡ typed_words (flat_map type_groups (take i sections)) ++ typed_words (type_groups s)
typed_parts_next sections i s within is =
    ap typed_words (ap (flat_map type_groups) (take_more sections i s within ∙ ap (λ x. take i sections ++ x ∷ []) (sym is)) ∙ flat_map_end type_groups (take i sections) s)
    ∙ typed_words_more (flat_map type_groups (take i sections)) (type_groups s)
