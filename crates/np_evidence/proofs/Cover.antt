-- Distinct elements that are all in a list are no more than it has.
use Rattle.std.proofs.Common.{◌≡◌, ℕ, zero, suc, ◌≤◌, ◌<◌, List, [], ◌∷◌, length, remove, Some, slice_get, get_or, Contains, All, refl, sym, ap, ◌∙◌, arith}
use Rattle.std.proofs.lemmas.List.Edits.{length-remove}
use Rattle.std.proofs.lemmas.Option.{same_Some, slice_get-get_or, slice_get_within, get_or_from_slice_get}

-- what is at a place is contained, and the other way round
pub contains_placed : {X : Type 0} (xs : List X) (i : ℕ) (x : X) → slice_get xs i ≡ Some x → Contains xs x
contains_placed xs i x e = (i, slice_get_within xs i x e, get_or_from_slice_get xs i x x e)

pub placed_contained : {X : Type 0} (xs : List X) (x : X) (c : Contains xs x) → slice_get xs c.0 ≡ Some x
placed_contained xs x c = slice_get-get_or xs c.0 x c.1 ∙ ap Some c.2

-- what is at another place stays
contains_remove : {X : Type 0} (xs : List X) (k j : ℕ) (x y : X) → slice_get xs k ≡ Some x → slice_get xs j ≡ Some y → (j ≡ k → ⊥) → Contains (remove xs k) y
contains_remove [] k j x y hk hj apart = absurd (cc)
contains_remove (z ∷ zs) zero zero x y hk hj apart = absurd (apart refl)
contains_remove (z ∷ zs) zero (suc j) x y hk hj apart = contains_placed zs j y hj
contains_remove (z ∷ zs) (suc k) zero x y hk hj apart = (0, omega arith, same_Some z y hj)
contains_remove (z ∷ zs) (suc k) (suc j) x y hk hj apart =
    let c = contains_remove zs k j x y hk hj (λ e. apart (ap suc e)) in
    (suc c.0, omega (arith, c.1), c.2)

-- no two places have the same element
abbrev pub AreOnce : {X : Type 0} → List X → Type 0
AreOnce {X = X} xs = (i j : ℕ) (x : X) → slice_get xs i ≡ Some x → slice_get xs j ≡ Some x → i ≡ j

distinct_cover : {X : Type 0} (reached all : List X) → AreOnce reached → All (Contains all) reached → length reached ≤ length all
distinct_cover [] all distinct covered = omega arith
distinct_cover (x ∷ xs) all distinct covered =
    let c : Contains all x = covered 0 x (omega arith) in
    let there : slice_get all c.0 ≡ Some x = placed_contained all x c in
    let rest : length xs ≤ length (remove all c.0) =
    distinct_cover xs (remove all c.0)
    (λ i j v hi hj. let e : suc i ≡ suc j = distinct (suc i) (suc j) v hi hj in omega arith)
    (λ k d lt.
    let y = get_or xs k d in
    let b : Contains all y = covered (suc k) d (omega arith) in
    let place : slice_get all b.0 ≡ Some y = placed_contained all y b in
    contains_remove all c.0 b.0 x y there place
    (λ e.
    let same : y ≡ x = same_Some y x (sym place ∙ ap (slice_get all) e ∙ there) in
    let no : 0 ≡ suc k = distinct 0 (suc k) x refl (slice_get-get_or xs k d lt ∙ ap Some same) in
    omega arith))
    in
    omega (arith, rest, length-remove all c.0 c.1)

-- distinct elements and a further one that are all in a list are no more than it has
pub further_cover : {X : Type 0} (further : X) (reached all : List X) → AreOnce reached → (Contains reached further → ⊥) → Contains all further → All (Contains all) reached → length reached < length all
further_cover {X = X} further reached all distinct new first rest =
    let h : length (further ∷ reached) ≤ length all = distinct_cover (further ∷ reached) all further_distinct covered in
    omega (arith, h)
  where
    further_distinct : AreOnce (further ∷ reached)
    further_distinct zero zero v hi hj = refl
    further_distinct zero (suc j) v hi hj = absurd (new (contains_placed reached j further (hj ∙ sym hi)))
    further_distinct (suc i) zero v hi hj = absurd (new (contains_placed reached i further (hi ∙ sym hj)))
    further_distinct (suc i) (suc j) v hi hj = ap suc (distinct i j v hi hj)

    covered : All (Contains all) (further ∷ reached)
    covered zero d lt = first
    covered (suc k) d lt = rest k d (omega arith)
