-- The number of a name among others, and the names of a list each once.
use Rattle.std.proofs.Common.{◌≡◌, ℕ, zero, suc, ◌+◌, ◌<◌, ◌≤◌, Bool, true, false, refl, sym, ◌∙◌, ap, arith, List, [], ◌∷◌, ◌++◌, length, length-append, Some, true≢false}
use Rattle.std.specs.Prelude.{◌||◌, ◌⊎◌, bytes_eq, fold, slice_get, if◌then◌else◌}
use Rattle.std.specs.List.{list_any, IsDistinct, AllByRecursion}
use mathlib.Core.Logic.{inl, inr}
use Rattle.std.proofs.lemmas.Bool.{both_ways, or_cases, or_left, or_right}
use Rattle.std.proofs.lemmas.Cmp.{nat_list_eq_equiv}
use Rattle.std.proofs.lemmas.List.Folds.{list_any-append}
use Rattle.std.proofs.lemmas.Map.Keys.{IsDistinct-head, IsDistinct-tail, IsDistinct-push, any_passes_from_place}
use Rattle.std.proofs.lemmas.Option.{none-some, same_Some}
use Rattle.std.proofs.lemmas.Slice.Eq.{bytes_eq-Decides}
use Rattle.np_names.specs.Names.{is_among, number_of, with_name, firsts}

-- ---- texts

pub same_text : (a b : List ℕ) → bytes_eq a b ≡ true → a ≡ b
same_text a b e = (bytes_eq-Decides a b).0 e

pub text_same : (a : List ℕ) → bytes_eq a a ≡ true
text_same a = (bytes_eq-Decides a a).1 refl

-- ---- the number of a name

pub number_below : (names : List (List ℕ)) (n : List ℕ) → is_among n names ≡ true → number_of names n < length names
number_below [] n e = cc
number_below (m ∷ names) n e = by (bytes_eq n m) (number_below names n) e
  where
    by : (b : Bool) → (is_among n names ≡ true → number_of names n < length names) → (b || is_among n names) ≡ true
        → (if b then 0 else suc (number_of names n)) < length (m ∷ names)
    by true h e = omega arith
    by false h e = let less = h e in omega arith

-- the name of that number is the name
pub number_gets : (names : List (List ℕ)) (n : List ℕ) → is_among n names ≡ true → slice_get names (number_of names n) ≡ Some n
number_gets [] n e = cc
number_gets (m ∷ names) n e = by (bytes_eq n m) refl (number_gets names n) e
  where
    by : (b : Bool) → bytes_eq n m ≡ b → (is_among n names ≡ true → slice_get names (number_of names n) ≡ Some n) → (b || is_among n names) ≡ true
        → slice_get (m ∷ names) (if b then 0 else suc (number_of names n)) ≡ Some n
    by true is h e = ap Some (sym (same_text n m is))
    by false is h e = h e

-- a name at a place is among the names
pub among_at : (names : List (List ℕ)) (k : ℕ) (n : List ℕ) → slice_get names k ≡ Some n → is_among n names ≡ true
among_at names k n e = any_passes_from_place (bytes_eq n) names k n e (text_same n)

-- of a name at a place in distinct names it is the place
pub number_at : (names : List (List ℕ)) (k : ℕ) (n : List ℕ) → IsDistinct bytes_eq names → slice_get names k ≡ Some n → number_of names n ≡ k
number_at [] k n distinct e = absurd (none-some n e)
number_at (m ∷ names) zero n distinct e = by (bytes_eq n m) (ap (bytes_eq n) (same_Some m n e) ∙ text_same n)
  where
    by : (b : Bool) → b ≡ true → (if b then 0 else suc (number_of names n)) ≡ 0
    by true is = refl
    by false is = cc
number_at (m ∷ names) (suc k) n distinct e = by (bytes_eq n m) refl (number_at names k n (IsDistinct-tail bytes_eq m names distinct) e)
  where
    apart : bytes_eq m n ≡ true → list_any (bytes_eq n) names ≡ true → ⊥
    apart is among = both_ways (list_any (bytes_eq m) names) (none names (IsDistinct-head bytes_eq m names distinct)) (ap (λ x. list_any (bytes_eq x) names) (same_text m n is) ∙ among)
      where
        none : (xs : List (List ℕ)) → AllByRecursion (λ y. bytes_eq m y ≡ false) xs → list_any (bytes_eq m) xs ≡ false
        none [] h = refl
        none (x ∷ xs) h = rw h.0 (none xs h.1)

    by : (b : Bool) → bytes_eq n m ≡ b → number_of names n ≡ k → (if b then 0 else suc (number_of names n)) ≡ suc k
    by true is h = absurd (apart (nat_list_eq_equiv.symm m n ∙ is) (among_at names k n e))
    by false is h = ap suc h

-- ---- each name once

with_name_distinct : (names : List (List ℕ)) (n : List ℕ) → IsDistinct bytes_eq names → IsDistinct bytes_eq (with_name names n)
with_name_distinct names n h = by (is_among n names) refl
  where
    by : (b : Bool) → is_among n names ≡ b → IsDistinct bytes_eq (if b then names else names ++ n ∷ [])
    by true is = h
    by false is = IsDistinct-push nat_list_eq_equiv names n h is

pub firsts_distinct_from : (names more : List (List ℕ)) → IsDistinct bytes_eq names → IsDistinct bytes_eq (fold with_name names more)
firsts_distinct_from names [] h = h
firsts_distinct_from names (n ∷ more) h = firsts_distinct_from (with_name names n) more (with_name_distinct names n h)

-- no name is there twice
pub firsts_distinct : (names : List (List ℕ)) → IsDistinct bytes_eq (firsts names)
unfolding IsDistinct
firsts_distinct names = firsts_distinct_from [] names tt

-- what is among the names stays
with_name_keeps : (names : List (List ℕ)) (n m : List ℕ) → is_among m names ≡ true → is_among m (with_name names n) ≡ true
with_name_keeps names n m e = by (is_among n names)
  where
    by : (b : Bool) → is_among m (if b then names else names ++ n ∷ []) ≡ true
    by true = e
    by false = list_any-append (bytes_eq m) names (n ∷ []) ∙ or_left _ _ e

with_name_has : (names : List (List ℕ)) (n : List ℕ) → is_among n (with_name names n) ≡ true
with_name_has names n = by (is_among n names) refl
  where
    by : (b : Bool) → is_among n names ≡ b → is_among n (if b then names else names ++ n ∷ []) ≡ true
    by true is = is
    by false is = list_any-append (bytes_eq n) names (n ∷ []) ∙ or_right _ _ (or_left _ _ (text_same n))

firsts_keep : (names more : List (List ℕ)) (m : List ℕ) → is_among m names ≡ true → is_among m (fold with_name names more) ≡ true
firsts_keep names [] m e = e
firsts_keep names (n ∷ more) m e = firsts_keep (with_name names n) more m (with_name_keeps names n m e)

firsts_have_from : (names more : List (List ℕ)) (m : List ℕ) → is_among m more ≡ true → is_among m (fold with_name names more) ≡ true
firsts_have_from names [] m e = cc
firsts_have_from names (n ∷ more) m e = by (bytes_eq m n) refl (firsts_have_from (with_name names n) more m) e
  where
    by : (b : Bool) → bytes_eq m n ≡ b → (is_among m more ≡ true → is_among m (fold with_name (with_name names n) more) ≡ true) → (b || is_among m more) ≡ true
        → is_among m (fold with_name (with_name names n) more) ≡ true
    by true is h e = firsts_keep (with_name names n) more m (ap (λ x. is_among x (with_name names n)) (same_text m n is) ∙ with_name_has names n)
    by false is h e = h e

-- each name is there
pub firsts_have : (names : List (List ℕ)) (m : List ℕ) → is_among m names ≡ true → is_among m (firsts names) ≡ true
firsts_have names m e = firsts_have_from [] names m e

-- the first one stays the first
pub firsts_begin_from : (a : List ℕ) (names more : List (List ℕ)) → (others : List (List ℕ)) × (fold with_name (a ∷ names) more ≡ a ∷ others)
firsts_begin_from a names [] = (names, refl)
firsts_begin_from a names (n ∷ more) = by (is_among n (a ∷ names)) (λ ns. firsts_begin_from a ns more)
  where
    by : (b : Bool) → ((ns : List (List ℕ)) → (others : List (List ℕ)) × (fold with_name (a ∷ ns) more ≡ a ∷ others))
        → (others : List (List ℕ)) × (fold with_name (if b then a ∷ names else (a ∷ names) ++ n ∷ []) more ≡ a ∷ others)
    by true h = h names
    by false h = h (names ++ n ∷ [])

pub firsts_begin : (a : List ℕ) (more : List (List ℕ)) → (others : List (List ℕ)) × (firsts (a ∷ more) ≡ a ∷ others)
firsts_begin a more = firsts_begin_from a [] more

-- what holds of all names holds of each once
pub firsts_all_from : (P : List ℕ → Type 0) (names more : List (List ℕ)) → ((m : List ℕ) → is_among m names ≡ true → P m) → ((m : List ℕ) → is_among m more ≡ true → P m)
    → (m : List ℕ) → is_among m (fold with_name names more) ≡ true → P m
firsts_all_from P names [] h k m e = h m e
firsts_all_from P names (n ∷ more) h k m e = firsts_all_from P (with_name names n) more one (λ x i. k x (or_right (bytes_eq x n) _ i)) m e
  where
    push : (x : List ℕ) → ((is_among x names ≡ true) ⊎ (is_among x (n ∷ []) ≡ true)) → P x
    push x (inl i) = h x i
    push x (inr i) = k x (or_left _ _ (last (bytes_eq x n) i))
      where
        last : (b : Bool) → (b || false) ≡ true → b ≡ true
        last true i = refl
        last false i = i

    by : (b : Bool) (x : List ℕ) → is_among x (if b then names else names ++ n ∷ []) ≡ true → P x
    by true x i = h x i
    by false x i = push x (or_cases _ _ (sym (list_any-append (bytes_eq x) names (n ∷ [])) ∙ i))

    one : (x : List ℕ) → is_among x (with_name names n) ≡ true → P x
    one x i = by (is_among n names) x i

pub firsts_all : (P : List ℕ → Type 0) (names : List (List ℕ)) → ((m : List ℕ) → is_among m names ≡ true → P m) → (m : List ℕ) → is_among m (firsts names) ≡ true → P m
firsts_all P names k m e = firsts_all_from P [] names (λ x i. absurd (true≢false (sym i))) k m e

-- there are no more than before
firsts_length_from : (names more : List (List ℕ)) → length (fold with_name names more) ≤ length names + length more
firsts_length_from names [] = omega arith
firsts_length_from names (n ∷ more) = by (is_among n names) (λ ns. firsts_length_from ns more)
  where
    by : (b : Bool) → ((ns : List (List ℕ)) → length (fold with_name ns more) ≤ length ns + length more)
        → length (fold with_name (if b then names else names ++ n ∷ []) more) ≤ length names + length (n ∷ more)
    by true h = let k = h names in omega arith
    by false h = let k = h (names ++ n ∷ []) in let m = length-append names (n ∷ []) in omega arith

pub firsts_length : (names : List (List ℕ)) → length (firsts names) ≤ length names
firsts_length names = let h = firsts_length_from [] names in omega arith
