-- What the simplex promises of its answers.
use Rattle.std.specs.Prelude.{◌≡◌, ℕ, ◌+◌, ◌*◌, ◌<◌, ⊤, List, ℤ, map, length, get_or}
use Rattle.np_frac.specs.Fractions.{Fraction}
use Rattle.np_simplex.specs.Tableau.{Tableau, start, IsEnd, best_weights, best_counts, ray_weights}
use Rattle.np_simplex.specs.Packed.{named_end, IsPacked, slot_counts, slot_ray_weights}
use Rattle.np_simplex.specs.declared.pivot.Table.{Table}
use Rattle.np_simplex.specs.Answers.{IsBest, IsRay}
use Rattle.np_simplex.specs.declared.choice.End.{End}
use Rattle.np_simplex.specs.declared.choice.End.TheVariants as ends
use Rattle.np_simplex.specs.declared.program.LpAnswer.{LpAnswer}
use Rattle.np_simplex.specs.declared.program.LpAnswer.TheVariants.{Best, Ray}

-- the most pivots
abbrev pub most_pivots : ℕ → ℕ → ℕ
most_pivots rows columns = 64 + 8 * (rows + columns)

-- the inequalities of an answer
abbrev pub IsAnswer : {N : Type 0} → (N → Fraction) → List (List ℤ) → List ℤ → List ℕ → LpAnswer N → Type 0
IsAnswer value rows right costs (Best weights counts) = IsBest rows right costs (map value weights.items) (map value counts.items)
IsAnswer value rows right costs (Ray weights) = IsRay rows right costs (map value weights.items)

-- a ray's column is before the last one
abbrev pub IsWithin : ℕ → End → Type 0
IsWithin last ends.Best = ⊤
IsWithin last (ends.Ray e) = e < last

-- the answer is read off a tableau
abbrev pub IsRead : {N : Type 0} → (N → Fraction) → ℕ → ℕ → Tableau → End → LpAnswer N → Type 0
IsRead value rows columns t ends.Best (Best weights counts) =
    (map value weights.items ≡ best_weights rows (rows + columns) t) × (map value counts.items ≡ best_counts rows columns t)
IsRead value rows columns t ends.Best (Ray weights) = ⊥
IsRead value rows columns t (ends.Ray e) (Best weights counts) = ⊥
IsRead value rows columns t (ends.Ray e) (Ray weights) = map value weights.items ≡ ray_weights rows e t

-- the same off a table without its basic columns
abbrev pub IsSlotRead : {N : Type 0} → (N → Fraction) → ℕ → ℕ → List ℕ → Tableau → End → LpAnswer N → Type 0
IsSlotRead value rows columns slots t ends.Best (Best weights counts) =
    (map value weights.items ≡ best_weights rows (length slots) t) × (map value counts.items ≡ slot_counts rows columns slots t)
IsSlotRead value rows columns slots t ends.Best (Ray weights) = ⊥
IsSlotRead value rows columns slots t (ends.Ray s) (Best weights counts) = ⊥
IsSlotRead value rows columns slots t (ends.Ray s) (Ray weights) = map value weights.items ≡ slot_ray_weights rows (get_or slots s 0) s t

-- the answer is read off the end of the run from the first tableau
pub record IsFromRun {N : Type 0} (value : N → Fraction) (rows : List (List ℤ)) (right : List ℤ) (costs : List ℕ) (answer : LpAnswer N) : Type 0 where
  pub tableau : Tableau
  pub end : End
  pub ends : IsEnd (length rows + length costs) (most_pivots (length rows) (length costs)) (start rows right costs) tableau end
  pub read : IsRead value (length rows) (length costs) tableau end answer

-- the run from a first tableau stands at an end, and the table holds the tableau there
pub record IsRunOut {N : Type 0} (value : N → Fraction) (last most : ℕ) (begin : Tableau) (table : Table N) (end : End) : Type 0 where
  pub tableau : Tableau
  pub ends : IsEnd last most begin tableau (named_end table.columns.items end)
  pub packed : IsPacked value last table tableau
  pub within : IsWithin (length table.columns.items) end
