-- What a step achieves as the one ascending list.
use Rattle.std.proofs.Common.{◌≡◌, ◌⊎◌, ℕ, ◌<◌, Bool, true, false, ◌||◌, ◌&&◌, ◌==◌, refl, sym, ◌∙◌, ap, ap₂, subst, arith, List, [], ◌∷◌, length, get_or, All, inl, inr, eq-eqb, ne_eqb}
use Rattle.std.specs.Prelude.{slice_get}
use Rattle.std.specs.List.{range_with_len}
use Rattle.std.proofs.lemmas.Bool.{false≢true, cases_order, eqb-true}
use Rattle.std.proofs.lemmas.List.FromFn.{length-range_with_len, get_or-range_with_len}
use Rattle.std.proofs.lemmas.List.Folds.{list_any_at, list_any_none}
use Rattle.std.proofs.lemmas.List.Elements.{All-filter}
use Rattle.std.proofs.lemmas.Option.{slice_get_within}
use Rattle.np_flat.specs.declared.parts.Parts.{Parts}
use Rattle.np_flat.specs.Flats.{IsAscending}
use Rattle.np_flat.specs.States.{has}
use Rattle.np_flat.specs.Achieving.{achieves, achieves_at, achieved_by}
use Rattle.np_flat.proofs.Ascending.{above_first, ascending_rest, ascending_filter}
use Rattle.np_flat.proofs.Index.{has_filter}
use Rattle.np_relax.specs.Work.{achieved}
use Rattle.np_relax.proofs.Closes.{map_or_true}

-- no number below the first is among ascending ones
below_none : (n : ℕ) (xs : List ℕ) → All (λ x. n < x) xs → has xs n ≡ false
below_none n xs above = list_any_none (λ m. m == n) xs (λ k d h. ne_eqb (get_or xs k d) n (other (get_or xs k d) (above k d h)))
  where
    other : (m : ℕ) → n < m → m ≡ n → ⊥
    other m h e = omega arith

has_first : (x : ℕ) (xs : List ℕ) → has (x ∷ xs) x ≡ true
has_first x xs = ap (λ b. b || has xs x) (eq-eqb x x refl)

abbrev HaveSame : List ℕ → List ℕ → Type 0
HaveSame xs ys = (n : ℕ) → has xs n ≡ has ys n

nil_cons : (y : ℕ) (ys : List ℕ) → HaveSame [] (y ∷ ys) → false ≡ true
nil_cons y ys same = same y ∙ has_first y ys

-- the first is the same
less_first : (x y : ℕ) (xs ys : List ℕ) → IsAscending (y ∷ ys) → HaveSame (x ∷ xs) (y ∷ ys) → x < y → ⊥
less_first x y xs ys up same less =
    false≢true (sym (ap (λ b. b || has ys x) (ne_eqb y x (other x y less)) ∙ below_none x ys (λ k d h. through x y (get_or ys k d) less (above_first y ys up k d h))) ∙ sym (same x) ∙ has_first x xs)
  where
    other : (x y : ℕ) → x < y → y ≡ x → ⊥
    other x y h e = omega arith

    through : (x y z : ℕ) → x < y → y < z → x < z
    through x y z h j = omega arith

-- and so are the others
rest_same : (x : ℕ) (xs ys : List ℕ) → IsAscending (x ∷ xs) → IsAscending (x ∷ ys) → HaveSame (x ∷ xs) (x ∷ ys) → HaveSame xs ys
rest_same x xs ys up down same n = by (x == n) refl (same n)
  where
    by : (b : Bool) → (x == n) ≡ b → (b || has xs n) ≡ (b || has ys n) → has xs n ≡ has ys n
    by false other e = e
    by true is e = at_first xs up ∙ sym (at_first ys down)
      where
        at_first : (zs : List ℕ) → IsAscending (x ∷ zs) → has zs n ≡ false
        at_first zs rise = subst (λ m. has zs m ≡ false) (eqb-true x n is) (below_none x zs (above_first x zs rise))

pub same_numbers : (xs ys : List ℕ) → IsAscending xs → IsAscending ys → HaveSame xs ys → xs ≡ ys
same_numbers [] [] up down same = refl
same_numbers [] (y ∷ ys) up down same = absurd (false≢true (nil_cons y ys same))
same_numbers (x ∷ xs) [] up down same = absurd (false≢true (nil_cons x xs (λ n. sym (same n))))
same_numbers (x ∷ xs) (y ∷ ys) up down same = by (cases_order x y) (λ e. same_numbers xs ys (ascending_rest x xs up) (ascending_rest y ys down) (rest_same x xs ys up (subst (λ m. IsAscending (m ∷ ys)) (sym e) down) (λ n. same n ∙ ap (λ m. has (m ∷ ys) n) (sym e))))
  where
    by : (x ≡ y) ⊎ ((x < y) ⊎ (y < x)) → (x ≡ y → xs ≡ ys) → (x ∷ xs) ≡ (y ∷ ys)
    by (inl e) rest = ap₂ (λ m ms. m ∷ ms) e (rest e)
    by (inr (inl less)) rest = absurd (less_first x y xs ys down same less)
    by (inr (inr less)) rest = absurd (less_first y x ys xs up (λ n. sym (same n)) less)

-- the numbers below a limit
numbers_up : (m : ℕ) → IsAscending (range_with_len 0 m)
numbers_up m i j d lt h =
    let within : j < m = subst (λ k. j < k) (length-range_with_len 0 m) h in
    let first = get_or-range_with_len 0 m i d (omega arith) in
    let second = get_or-range_with_len 0 m j d within in
    omega (arith, first, second)

numbers_within : (m : ℕ) → All (λ q. q < m) (range_with_len 0 m)
numbers_within m k d h =
    let within : k < m = subst (λ n. k < n) (length-range_with_len 0 m) h in
    let is = get_or-range_with_len 0 m k d within in
    omega (arith, is)

numbers_have : (m q : ℕ) → q < m → has (range_with_len 0 m) q ≡ true
numbers_have m q h =
    list_any_at (λ n. n == q) (range_with_len 0 m) q 0 (subst (λ k. q < k) (sym (length-range_with_len 0 m)) h)
    (eq-eqb (get_or (range_with_len 0 m) q 0) q (omega (arith, get_or-range_with_len 0 m q 0 h)))

both_or_none : (b f : Bool) → (f ≡ true → b ≡ true) → (b && f) ≡ f
both_or_none true f h = refl
both_or_none false true h = absurd (false≢true (h refl))
both_or_none false false h = refl

-- a step achieves only subgoals
achieved_there : (task : Parts) (n q : ℕ) → achieved_by task n q ≡ true → q < length task.subgoals
achieved_there task n q h =
    let step = map_or_true (λ step. achieves_at task step q) (slice_get task.steps n) h in
    let goal = map_or_true (achieves step.0) (slice_get task.subgoals q) step.2 in
    slice_get_within task.subgoals q goal.0 goal.1

pub achieved_has : (task : Parts) (n q : ℕ) → has (achieved task n) q ≡ achieved_by task n q
achieved_has task n q =
    has_filter (achieved_by task n) (range_with_len 0 (length task.subgoals)) q
    ∙ both_or_none (has (range_with_len 0 (length task.subgoals)) q) (achieved_by task n q) (λ h. numbers_have (length task.subgoals) q (achieved_there task n q h))

pub achieved_within : (task : Parts) (n : ℕ) → All (λ q. q < length task.subgoals) (achieved task n)
achieved_within task n = All-filter (achieved_by task n) (λ q. q < length task.subgoals) (range_with_len 0 (length task.subgoals)) (numbers_within (length task.subgoals))

-- an ascending list of just these is the list
pub achieved_one : (task : Parts) (n : ℕ) (numbers : List ℕ) → IsAscending numbers → ((q : ℕ) → has numbers q ≡ achieved_by task n q) → numbers ≡ achieved task n
achieved_one task n numbers up same =
    same_numbers numbers (achieved task n) up (ascending_filter (achieved_by task n) (range_with_len 0 (length task.subgoals)) (numbers_up (length task.subgoals)))
    (λ q. same q ∙ sym (achieved_has task n q))
