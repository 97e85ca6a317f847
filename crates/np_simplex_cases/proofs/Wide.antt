-- Rows that are all of one width.
use Rattle.std.proofs.Common.{◌≡◌, ℕ, zero, suc, ◌<◌, Bool, true, false, ℤ, List, [], ◌∷◌, length, get_or, arith}
use Rattle.std.specs.Prelude.{◌==◌, ◌&&◌, Vec}
use Rattle.std.specs.List.{list_all}
use Rattle.std.specs.Global.{Global}
use Rattle.std.proofs.lemmas.Bool.Decides.{nat_tests}
use Rattle.np_simplex.specs.Views.{rows_of}

both : (p q : Bool) → (p && q) ≡ true → (p ≡ true) × (q ≡ true)
both true q e = (cc, e)
both false q e = cc

same : (a b : ℕ) → (a == b) ≡ true → a ≡ b
same a b e = grind (arith, nat_tests)

-- where all rows have a width, each has
pub wide_at : (rows : List (Vec ℤ Global)) (n k : ℕ) → list_all (λ row. length row.items == n) rows ≡ true → k < length rows → length (get_or (rows_of rows) k []) ≡ n
wide_at [] n k e l = absurd (omega arith)
wide_at (row ∷ rows) n zero e l = same (length row.items) n (both (length row.items == n) (list_all (λ r. length r.items == n) rows) e).0
wide_at (row ∷ rows) n (suc k) e l = wide_at rows n k ((both (length row.items == n) (list_all (λ r. length r.items == n) rows) e).1) (omega arith)
