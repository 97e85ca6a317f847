-- Short lists: what holds of all their items, and that no two are the same.
use Rattle.std.proofs.Common.{◌≡◌, ◌≢◌, ℕ, false, arith, get_or, List, [], ◌∷◌}
use Rattle.std.specs.Prelude.{All, bytes_eq}
use Rattle.std.specs.List.{IsDistinct}
use Rattle.std.proofs.lemmas.Bool.{both_ways}
use Rattle.std.proofs.lemmas.List.Elements.{All-cons, All-nil}
use Rattle.std.proofs.lemmas.List.Kept.{AllPairs-cons}
use Rattle.std.proofs.lemmas.Map.Keys.{apart_from_distinct}
use Rattle.std.proofs.lemmas.Slice.Eq.{bytes_eq-Decides}
use Rattle.np_model.specs.Tasks.{AreDistinct}

-- what holds of no items, of one and of two
pub none : {A : Type 0} (P : A → Type 0) → All P []
none P = All-nil P

pub alone : {A : Type 0} (P : A → Type 0) (a : A) → P a → All P (a ∷ [])
alone P a h = All-cons P a [] h (All-nil P)

pub two : {A : Type 0} (P : A → Type 0) (a b : A) → P a → P b → All P (a ∷ b ∷ [])
two P a b h k = All-cons P a (b ∷ []) h (alone P b k)

-- lists of no items, of one, of one more, and of two
pub distinct_none : {A : Type 0} → AreDistinct {A = A} []
distinct_none i j d less within = absurd (omega arith)

pub distinct_one : {A : Type 0} (a : A) → AreDistinct (a ∷ [])
distinct_one a = AllPairs-cons (λ x y. x ≢ y) a [] (none (λ y. a ≢ y)) distinct_none

pub distinct_cons : {A : Type 0} (a : A) (xs : List A) → All (λ x. a ≢ x) xs → AreDistinct xs → AreDistinct (a ∷ xs)
distinct_cons a xs others rest = AllPairs-cons (λ x y. x ≢ y) a xs others rest

pub distinct_two : {A : Type 0} (a b : A) → a ≢ b → AreDistinct (a ∷ b ∷ [])
distinct_two a b h = distinct_cons a (b ∷ []) (alone (λ y. a ≢ y) b h) (distinct_one b)

-- texts that differ by their bytes are different
pub texts_differ : (xs ys : List ℕ) → bytes_eq xs ys ≡ false → xs ≢ ys
texts_differ xs ys e same = both_ways (bytes_eq xs ys) e ((bytes_eq-Decides xs ys).1 same)

pub distinct_texts : (xs : List (List ℕ)) → IsDistinct bytes_eq xs → AreDistinct xs
distinct_texts xs distinct i j d less within e =
    both_ways (bytes_eq (get_or xs i d) (get_or xs j d)) (apart_from_distinct bytes_eq xs i j d distinct less within) ((bytes_eq-Decides (get_or xs i d) (get_or xs j d)).1 e)
