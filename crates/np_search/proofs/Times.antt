-- The times at which path costs were found.
use Rattle.std.proofs.Common.{◌≡◌, ◌≢◌, ℕ, ◌+◌, ◌<◌, cond, eqb, eq-eqb, arith, ⊎_elim}
use Rattle.std.proofs.lemmas.Bool.{cases_eq, ne_eqb, cond-true, cond-false}

-- one path cost is found now
pub found_now : ℕ → ℕ → (ℕ → ℕ) → ℕ → ℕ
found_now v now found i = cond (eqb i v) now (found i)

pub time_here : (v now : ℕ) (found : ℕ → ℕ) (i : ℕ) → i ≡ v → found_now v now found i ≡ now
unfolding found_now
time_here v now found i e = cond-true (eqb i v) now (found i) (eq-eqb i v e)

pub time_there : (v now : ℕ) (found : ℕ → ℕ) (i : ℕ) → i ≢ v → found_now v now found i ≡ found i
unfolding found_now
time_there v now found i ne = cond-false (eqb i v) now (found i) (ne_eqb i v ne)

pub time_past : (v now : ℕ) (found : ℕ → ℕ) → ((i : ℕ) → found i < now) → (i : ℕ) → found_now v now found i < now + 1
time_past v now found past i = ⊎_elim
    (λ (e : i ≡ v). let h = time_here v now found i e in omega (arith, h))
    (λ (ne : i ≢ v). let h = time_there v now found i ne in let p : found i < now = past i in omega (arith, h))
    (cases_eq i v)
