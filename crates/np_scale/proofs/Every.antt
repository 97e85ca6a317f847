-- What holds of each item of a list, by recursion on the list.
use Rattle.std.proofs.Common.{◌≡◌, ◌≢◌, ℕ, zero, suc, ◌<◌, Bool, true, false, ◌||◌, refl, sym, subst, arith, List, [], ◌∷◌, ◌++◌, map, length, slice_get, All, Decides, Some}
use Rattle.std.specs.List.{AllByRecursion, flat_map, list_any, list_all}
use Rattle.std.proofs.lemmas.Bool.{or_right, or_left, and_parts, false≢true}
use Rattle.std.proofs.lemmas.Option.{none-some, same_Some}
use Rattle.std.proofs.lemmas.List.Elements.{recursion_from_All}
use Rattle.np_model.specs.Tasks.{AreDistinct}

pub each_weaker : {A : Type 0} (P Q : A → Type 0) → ((x : A) → P x → Q x) → (xs : List A) → AllByRecursion P xs → AllByRecursion Q xs
each_weaker P Q f [] all = tt
each_weaker P Q f (x ∷ xs) all = (f x all.0, each_weaker P Q f xs all.1)

pub each_both : {A : Type 0} (P Q : A → Type 0) (xs : List A) → AllByRecursion P xs → AllByRecursion Q xs → AllByRecursion (λ x. P x × Q x) xs
each_both P Q [] p q = tt
each_both P Q (x ∷ xs) p q = ((p.0, q.0), each_both P Q xs p.1 q.1)

pub each_map : {A B : Type 0} (P : B → Type 0) (f : A → B) (xs : List A) → AllByRecursion (λ x. P (f x)) xs → AllByRecursion P (map f xs)
each_map P f [] all = tt
each_map P f (x ∷ xs) all = (all.0, each_map P f xs all.1)

pub each_append : {A : Type 0} (P : A → Type 0) (xs ys : List A) → AllByRecursion P xs → AllByRecursion P ys → AllByRecursion P (xs ++ ys)
each_append P [] ys p q = q
each_append P (x ∷ xs) ys p q = (p.0, each_append P xs ys p.1 q)

pub each_front : {A : Type 0} (P : A → Type 0) (xs ys : List A) → AllByRecursion P (xs ++ ys) → AllByRecursion P xs
each_front P [] ys all = tt
each_front P (x ∷ xs) ys all = (all.0, each_front P xs ys all.1)

pub each_back : {A : Type 0} (P : A → Type 0) (xs ys : List A) → AllByRecursion P (xs ++ ys) → AllByRecursion P ys
each_back P [] ys all = all
each_back P (x ∷ xs) ys all = each_back P xs ys all.1

-- of the parts that items come to, item by item
pub each_flat : {A B : Type 0} (P : B → Type 0) (f : A → List B) (xs : List A) → AllByRecursion P (flat_map f xs) → AllByRecursion (λ x. AllByRecursion P (f x)) xs
each_flat P f [] all = tt
each_flat P f (x ∷ xs) all = (each_front P (f x) (flat_map f xs) all, each_flat P f xs (each_back P (f x) (flat_map f xs) all))

pub each_flat_from : {A B : Type 0} (P : B → Type 0) (f : A → List B) (xs : List A) → AllByRecursion (λ x. AllByRecursion P (f x)) xs → AllByRecursion P (flat_map f xs)
each_flat_from P f [] all = tt
each_flat_from P f (x ∷ xs) all = each_append P (f x) (flat_map f xs) all.0 (each_flat_from P f xs all.1)

-- of what passes a test that all pass
pub each_passes : {A : Type 0} (test : A → Bool) (xs : List A) → list_all test xs ≡ true → AllByRecursion (λ x. test x ≡ true) xs
each_passes test [] e = tt
each_passes test (x ∷ xs) e = let both = and_parts (test x) (list_all test xs) e in (both.0, each_passes test xs both.1)

-- each item is among the list's items
pub each_is_among : {A : Type 0} (same : A → A → Bool) → ((x y : A) → Decides (same x y) (x ≡ y)) → (xs : List A) → AllByRecursion (λ x. list_any (same x) xs ≡ true) xs
each_is_among same decides [] = tt
each_is_among same decides (x ∷ xs) = (
  or_left (same x x) (list_any (same x) xs) ((decides x x).1 refl),
  each_weaker (λ y. list_any (same y) xs ≡ true) (λ y. list_any (same y) (x ∷ xs) ≡ true) (λ y e. or_right (same y x) (list_any (same y) xs) e) xs (each_is_among same decides xs),
)

-- the first of distinct items differs from the others, which are distinct
pub first_differs : {A : Type 0} (x : A) (xs : List A) → AreDistinct (x ∷ xs) → AllByRecursion (λ y. x ≢ y) xs
first_differs x xs distinct = recursion_from_All (λ y. x ≢ y) xs others
  where
    others : All (λ y. x ≢ y) xs
    others k d h = let within : suc k < length (x ∷ xs) = omega arith in distinct 0 (suc k) d (omega arith) within

pub others_distinct : {A : Type 0} (x : A) (xs : List A) → AreDistinct (x ∷ xs) → AreDistinct xs
others_distinct x xs distinct i j d less h = let within : suc j < length (x ∷ xs) = omega arith in distinct (suc i) (suc j) d (omega arith) within

-- of what a function gives, item by item
pub each_unmap : {A B : Type 0} (P : B → Type 0) (f : A → B) (xs : List A) → AllByRecursion P (map f xs) → AllByRecursion (λ x. P (f x)) xs
each_unmap P f [] all = tt
each_unmap P f (x ∷ xs) all = (all.0, each_unmap P f xs all.1)

-- so of a thing that is among them
pub each_all : {A : Type 0} (same : A → A → Bool) → ((x y : A) → Decides (same x y) (x ≡ y)) → (P : A → Type 0) (xs : List A) → AllByRecursion P xs → (y : A) → list_any (same y) xs ≡ true → P y
each_all same decides P [] all y there = absurd (false≢true there)
each_all same decides P (x ∷ xs) all y there = by (same y x) refl there (each_all same decides P xs all.1 y)
  where
    by : (b : Bool) → same y x ≡ b → (b || list_any (same y) xs) ≡ true → (list_any (same y) xs ≡ true → P y) → P y
    by true is e later = subst P (sym ((decides y x).0 is)) all.0
    by false is e later = later e

-- and of the one at a place
pub each_at : {A : Type 0} (P : A → Type 0) (xs : List A) → AllByRecursion P xs → (n : ℕ) (x : A) → slice_get xs n ≡ Some x → P x
each_at P [] all n x e = absurd (none-some x e)
each_at P (y ∷ ys) all zero x e = subst P (same_Some y x e) all.0
each_at P (y ∷ ys) all (suc n) x e = each_at P ys all.1 n x e
