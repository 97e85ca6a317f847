-- Lists that have each thing once, and the numbers of things in them.
use Rattle.std.proofs.Common.{◌≡◌, ◌≢◌, ℕ, zero, suc, ◌<◌, Bool, true, false, ◌||◌, refl, sym, ◌∙◌, ap, subst, List, [], ◌∷◌, ◌++◌, length, get_or, slice_get, All, Decides, Some}
use Rattle.std.specs.Prelude.{if◌then◌else◌}
use Rattle.std.specs.List.{list_any, AllByRecursion}
use Rattle.std.proofs.Math.Bool.{or-false}
use Rattle.std.proofs.lemmas.Bool.{false≢true, both_ways, or_right}
use Rattle.std.proofs.lemmas.Option.{none-some, same_Some, slice_get_within}
use Rattle.std.proofs.lemmas.List.Elements.{All-push}
use Rattle.std.proofs.lemmas.List.Folds.{list_any-append, list_any_at}
use Rattle.std.proofs.lemmas.List.Quantifiers.{all_pairs_push}
use Rattle.np_model.specs.Tasks.{AreDistinct}
use Rattle.np_scale.specs.Tables.{each_once, number_of}
use Rattle.np_scale.proofs.Every.{each_weaker, each_is_among, first_differs, others_distinct}

-- ---- each thing once

absorbed : (k s r : Bool) → (s ≡ true → k ≡ true) → (k || r) ≡ (k || (s || r))
absorbed true s r f = refl
absorbed false true r f = absurd (false≢true (f refl))
absorbed false false r f = refl

regrouped : (k s r : Bool) → ((k || (s || false)) || r) ≡ (k || (s || r))
regrouped true s r = refl
regrouped false true r = refl
regrouped false false r = refl

-- it has what was known and what was read
pub once_has : {A : Type 0} (same : A → A → Bool) → ((x y : A) → Decides (same x y) (x ≡ y)) → (y : A) (known xs : List A)
    → list_any (same y) (each_once same known xs) ≡ (list_any (same y) known || list_any (same y) xs)
once_has same decides y known [] = sym (or-false (list_any (same y) known))
once_has same decides y known (x ∷ xs) =
    by (list_any (same x) known) refl (once_has same decides y known xs) (once_has same decides y (known ++ x ∷ []) xs)
  where
    by : (b : Bool) → list_any (same x) known ≡ b
        → list_any (same y) (each_once same known xs) ≡ (list_any (same y) known || list_any (same y) xs)
        → list_any (same y) (each_once same (known ++ x ∷ []) xs) ≡ (list_any (same y) (known ++ x ∷ []) || list_any (same y) xs)
        → list_any (same y) (each_once same (if b then known else known ++ x ∷ []) xs) ≡ (list_any (same y) known || (same y x || list_any (same y) xs))
    by true there stays grows =
        stays ∙ absorbed (list_any (same y) known) (same y x) (list_any (same y) xs) (λ e. subst (λ z. list_any (same z) known ≡ true) (sym ((decides y x).0 e)) there)
    by false new stays grows =
        grows ∙ ap (λ c. c || list_any (same y) xs) (list_any-append (same y) known (x ∷ [])) ∙ regrouped (list_any (same y) known) (same y x) (list_any (same y) xs)

-- so each thing that is read is in it
pub each_in_once : {A : Type 0} (same : A → A → Bool) → ((x y : A) → Decides (same x y) (x ≡ y)) → (xs : List A)
    → AllByRecursion (λ x. list_any (same x) (each_once same [] xs) ≡ true) xs
each_in_once same decides xs =
    each_weaker (λ x. list_any (same x) xs ≡ true) (λ x. list_any (same x) (each_once same [] xs) ≡ true) (λ x e. once_has same decides x [] xs ∙ e) xs (each_is_among same decides xs)

-- it has no thing twice
pub once_distinct : {A : Type 0} (same : A → A → Bool) → ((x y : A) → Decides (same x y) (x ≡ y)) → (known xs : List A) → AreDistinct known → AreDistinct (each_once same known xs)
once_distinct same decides known [] distinct = distinct
once_distinct same decides known (x ∷ xs) distinct =
    by (list_any (same x) known) refl (once_distinct same decides known xs distinct) (once_distinct same decides (known ++ x ∷ []) xs)
  where
    by : (b : Bool) → list_any (same x) known ≡ b → AreDistinct (each_once same known xs) → (AreDistinct (known ++ x ∷ []) → AreDistinct (each_once same (known ++ x ∷ []) xs))
        → AreDistinct (each_once same (if b then known else known ++ x ∷ []) xs)
    by true there stays grows = stays
    by false new stays grows =
        grows (all_pairs_push (λ p q. p ≢ q) known x distinct (λ k d within e. both_ways (list_any (same x) known) new (list_any_at (same x) known k d within ((decides x (get_or known k d)).1 (sym e)))))

-- what holds of the known things and of those that are read holds of all
pub once_all : {A : Type 0} (same : A → A → Bool) (P : A → Type 0) (known xs : List A) → All P known → AllByRecursion P xs → All P (each_once same known xs)
once_all same P known [] all more = all
once_all same P known (x ∷ xs) all more =
    by (list_any (same x) known) (once_all same P known xs all more.1) (once_all same P (known ++ x ∷ []) xs (All-push P known x all more.0) more.1)
  where
    by : (b : Bool) → All P (each_once same known xs) → All P (each_once same (known ++ x ∷ []) xs) → All P (each_once same (if b then known else known ++ x ∷ []) xs)
    by true stays grows = stays
    by false stays grows = grows

-- things that are read after others
pub once_append : {A : Type 0} (same : A → A → Bool) (known xs ys : List A) → each_once same known (xs ++ ys) ≡ each_once same (each_once same known xs) ys
once_append same known [] ys = refl
once_append same known (x ∷ xs) ys = once_append same (if list_any (same x) known then known else known ++ x ∷ []) xs ys

-- ---- numbers

-- the number of a thing that is there names it
pub number_names : {A : Type 0} (same : A → A → Bool) → ((x y : A) → Decides (same x y) (x ≡ y)) → (xs : List A) (y : A) → list_any (same y) xs ≡ true → slice_get xs (number_of same xs y) ≡ Some y
number_names same decides [] y e = absurd (false≢true e)
number_names same decides (x ∷ xs) y e = by (same y x) refl e (number_names same decides xs y)
  where
    by : (b : Bool) → same y x ≡ b → (b || list_any (same y) xs) ≡ true → (list_any (same y) xs ≡ true → slice_get xs (number_of same xs y) ≡ Some y)
        → slice_get (x ∷ xs) (if b then 0 else suc (number_of same xs y)) ≡ Some y
    by true is there later = ap (λ z. Some z) (sym ((decides y x).0 is))
    by false is there later = later there

-- and is below their count
pub number_within : {A : Type 0} (same : A → A → Bool) → ((x y : A) → Decides (same x y) (x ≡ y)) → (xs : List A) (y : A) → list_any (same y) xs ≡ true → number_of same xs y < length xs
number_within same decides xs y e = slice_get_within xs (number_of same xs y) y (number_names same decides xs y e)

-- things of one number are one
pub same_number : {A : Type 0} (same : A → A → Bool) → ((x y : A) → Decides (same x y) (x ≡ y)) → (xs : List A) (y z : A) → list_any (same y) xs ≡ true → list_any (same z) xs ≡ true
    → number_of same xs y ≡ number_of same xs z → y ≡ z
same_number same decides xs y z p q e = same_Some y z (sym (number_names same decides xs y p) ∙ ap (slice_get xs) e ∙ number_names same decides xs z q)

-- a thing that is at a place is there
pub there_at : {A : Type 0} (same : A → A → Bool) → ((x y : A) → Decides (same x y) (x ≡ y)) → (xs : List A) (n : ℕ) (y : A) → slice_get xs n ≡ Some y → list_any (same y) xs ≡ true
there_at same decides [] n y e = absurd (none-some y e)
there_at same decides (x ∷ xs) zero y e = first (same y x) ((decides y x).1 (sym (same_Some x y e)))
  where
    first : (b : Bool) → b ≡ true → (b || list_any (same y) xs) ≡ true
    first b e = rw e refl
there_at same decides (x ∷ xs) (suc n) y e = or_right (same y x) (list_any (same y) xs) (there_at same decides xs n y e)

-- where each is there once, its place is its number
pub number_at : {A : Type 0} (same : A → A → Bool) → ((x y : A) → Decides (same x y) (x ≡ y)) → (xs : List A) → AreDistinct xs → (n : ℕ) (y : A) → slice_get xs n ≡ Some y → number_of same xs y ≡ n
number_at same decides [] distinct n y e = absurd (none-some y e)
number_at same decides (x ∷ xs) distinct zero y e = first (same y x) ((decides y x).1 (sym (same_Some x y e)))
  where
    first : (b : Bool) → b ≡ true → (if b then 0 else suc (number_of same xs y)) ≡ 0
    first b e = rw e refl
number_at {A} same decides (x ∷ xs) distinct (suc n) y e = later (same y x) refl (number_at same decides xs (others_distinct x xs distinct) n y e)
  where
    other : x ≡ y → ⊥
    other same_one = apart xs n e (first_differs x xs distinct)
      where
        apart : (ys : List A) (k : ℕ) → slice_get ys k ≡ Some y → AllByRecursion (λ z. x ≢ z) ys → ⊥
        apart [] k at differs = absurd (none-some y at)
        apart (z ∷ ys) zero at differs = differs.0 (same_one ∙ sym (same_Some z y at))
        apart (z ∷ ys) (suc k) at differs = apart ys k at differs.1

    later : (b : Bool) → same y x ≡ b → number_of same xs y ≡ n → (if b then 0 else suc (number_of same xs y)) ≡ suc n
    later true is rest = absurd (other (sym ((decides y x).0 is)))
    later false is rest = ap suc rest
