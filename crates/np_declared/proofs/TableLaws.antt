-- Numbers, objects and symbols that typed lists give.
use Rattle.std.proofs.Common.{◌≡◌, ℕ, ◌+◌, ◌<◌, Bool, true, false, not, List, [], ◌∷◌, ◌++◌, map, filter, fold, length, get_or, drop, Option, refl, sym, ap, ◌∙◌, if◌then◌else◌}
use Rattle.std.proofs.lemmas.List.{map-append}
use Rattle.std.proofs.lemmas.Grind.{flat_map-append}
use Rattle.std.proofs.lemmas.Slice.Eq.{bytes_eq-Decides}
use Rattle.std.specs.Prelude.{bytes_eq, ◌||◌}
use Rattle.std.specs.List.{flat_map}
use Rattle.np_words.specs.declared.word.Word.{Word}
use Rattle.np_words.specs.declared.word.Group.{Group}
use Rattle.np_syntax.specs.declared.domain.Declared.{Declared}
use Rattle.np_model.specs.declared.task.TypeName.{TypeName}
use Rattle.np_declared.specs.TypeRules.{unknown_in, cyclic_words, is_cyclic}
use Rattle.np_names.specs.Names.{given_word, typed, typed_words, is_among, with_name, firsts}
use Rattle.np_declared.specs.Symbols.{signature}
use Rattle.np_declared.specs.Types.{type_number, numbers_in, object_in, objects_in, type_words}
use Rattle.np_names.proofs.Lists.{flat_map_next}

-- words of one type
typed_numbers : (types : List (List ℕ)) (of : Option Word) (ws : List Word) → map (λ x. type_number types x.1) (typed of ws) ≡ map (λ _. type_number types of) ws
typed_numbers types of [] = refl
typed_numbers types of (w ∷ ws) = ap (λ ns. type_number types of ∷ ns) (typed_numbers types of ws)

typed_objects : (types : List (List ℕ)) (of : Option Word) (ws : List Word) → map (object_in types) (typed of ws) ≡ map (λ w. record { name = w.text; of = type_number types of }) ws
typed_objects types of [] = refl
typed_objects types of (w ∷ ws) = ap (λ os. record { name = w.text; of = type_number types of } ∷ os) (typed_objects types of ws)

-- two typed lists
pub numbers_more : (types : List (List ℕ)) (xs ys : List Group) → numbers_in types (xs ++ ys) ≡ numbers_in types xs ++ numbers_in types ys
numbers_more types xs ys = ap (map (λ x. type_number types x.1)) (flat_map-append (λ g. typed g.of g.words) xs ys) ∙ map-append (λ x. type_number types x.1) (typed_words xs) (typed_words ys)

pub objects_more : (types : List (List ℕ)) (xs ys : List Group) → objects_in types (xs ++ ys) ≡ objects_in types xs ++ objects_in types ys
objects_more types xs ys = ap (map (object_in types)) (flat_map-append (λ g. typed g.of g.words) xs ys) ∙ map-append (object_in types) (typed_words xs) (typed_words ys)

module _ (types : List (List ℕ)) (groups : List Group) (i : ℕ) (g : Group) (within : i < length groups) (is : g ≡ get_or groups i g) where
  -- the group at a place, and those after it
  pub numbers_next : numbers_in types (drop i groups) ≡ map (λ _. type_number types g.of) g.words ++ numbers_in types (drop (i + 1) groups)
  numbers_next =
      ap (map (λ x. type_number types x.1)) (flat_map_next (λ g. typed g.of g.words) groups i g within is)
      ∙ (map-append (λ x. type_number types x.1) (typed g.of g.words) (typed_words (drop (i + 1) groups))
      ∙ ap (λ ns. ns ++ numbers_in types (drop (i + 1) groups)) (typed_numbers types g.of g.words))

  pub objects_next : objects_in types (drop i groups) ≡ map (λ w. record { name = w.text; of = type_number types g.of }) g.words ++ objects_in types (drop (i + 1) groups)
  objects_next =
      ap (map (object_in types)) (flat_map_next (λ g. typed g.of g.words) groups i g within is)
      ∙ (map-append (object_in types) (typed g.of g.words) (typed_words (drop (i + 1) groups))
      ∙ ap (λ os. os ++ objects_in types (drop (i + 1) groups)) (typed_objects types g.of g.words))

pub unknown_more : (types : List (List ℕ)) (xs ys : List Group) → unknown_in types (xs ++ ys) ≡ unknown_in types xs ++ unknown_in types ys
unknown_more types xs ys = flat_map-append (λ g. filter (λ w. not (is_among w.text types)) (given_word g.of)) xs ys

pub cyclic_more : (types : List TypeName) (xs ys : List Group) → cyclic_words types (xs ++ ys) ≡ cyclic_words types xs ++ cyclic_words types ys
cyclic_more types xs ys = flat_map-append (λ g. filter (is_cyclic types g.of) g.words) xs ys

pub type_words_more : (xs ys : List Group) → flat_map type_words (xs ++ ys) ≡ flat_map type_words xs ++ flat_map type_words ys
type_words_more xs ys = flat_map-append type_words xs ys

pub signatures_more : (types named : List (List ℕ)) (xs ys : List Declared) → map (signature types named) (xs ++ ys) ≡ map (signature types named) xs ++ map (signature types named) ys
signatures_more types named xs ys = map-append (signature types named) xs ys

-- ---- names once are among the names

private_or : (a b c : Bool) → ((a || b) || c) ≡ (a || (b || c))
private_or true b c = refl
private_or false b c = refl

or_swap : (a b : Bool) → (a || b) ≡ (b || a)
or_swap true true = refl
or_swap true false = refl
or_swap false true = refl
or_swap false false = refl

among_more : (n : List ℕ) (xs ys : List (List ℕ)) → is_among n (xs ++ ys) ≡ (is_among n xs || is_among n ys)
among_more n [] ys = refl
among_more n (x ∷ xs) ys = ap (λ b. bytes_eq n x || b) (among_more n xs ys) ∙ sym (private_or (bytes_eq n x) (is_among n xs) (is_among n ys))

-- a name that equals one that is among names is among them
among_like : (n m : List ℕ) (names : List (List ℕ)) → bytes_eq n m ≡ true → is_among m names ≡ true → is_among n names ≡ true
among_like n m names e h = ap (λ x. is_among x names) ((bytes_eq-Decides n m).0 e) ∙ h

with_among : (n m : List ℕ) (names : List (List ℕ)) → is_among n (with_name names m) ≡ (is_among n names || bytes_eq n m)
with_among n m names = by (is_among m names) refl
  where
    there : (b : Bool) → bytes_eq n m ≡ b → is_among m names ≡ true → is_among n names ≡ (is_among n names || b)
    there true e h = let a = among_like n m names e h in rw a refl
    there false e h = or_swap false (is_among n names)

    empty : (b : Bool) → (b || false) ≡ b
    empty true = refl
    empty false = refl

    by : (b : Bool) → is_among m names ≡ b → is_among n (if b then names else names ++ m ∷ []) ≡ (is_among n names || bytes_eq n m)
    by true h = there (bytes_eq n m) refl h
    by false h = among_more n names (m ∷ []) ∙ ap (λ b. is_among n names || b) (empty (bytes_eq n m))

fold_among : (n : List ℕ) (seen names : List (List ℕ)) → is_among n (fold with_name seen names) ≡ (is_among n seen || is_among n names)
fold_among n seen [] = by (is_among n seen)
  where
    by : (b : Bool) → b ≡ (b || false)
    by true = refl
    by false = refl
fold_among n seen (m ∷ names) =
    fold_among n (with_name seen m) names
    ∙ (ap (λ b. b || is_among n names) (with_among n m seen) ∙ private_or (is_among n seen) (bytes_eq n m) (is_among n names))

pub firsts_among : (n : List ℕ) (names : List (List ℕ)) → is_among n (firsts names) ≡ is_among n names
firsts_among n names = fold_among n [] names

-- so symbols are static where effects don't name them
pub signatures_like : (types names : List (List ℕ)) (xs : List Declared) → map (signature types (firsts names)) xs ≡ map (signature types names) xs
signatures_like types names [] = refl
signatures_like types names (x ∷ xs) =
    ap (λ b. record { name = x.name.text; parameters = numbers_in types x.parameters; fixed = not b } ∷ map (signature types (firsts names)) xs) (firsts_among x.name.text names)
    ∙ ap (λ ss. signature types names x ∷ ss) (signatures_like types names xs)
