-- The code's tableaus as those of the plain run.
use Rattle.std.specs.Prelude.{ℕ, ◌+◌, ℤ, List, Vec, map, length}
use Rattle.std.specs.Global.{Global}
use Rattle.np_frac.specs.Fractions.{Fraction}
use Rattle.np_simplex.specs.Tableau.{Line, Tableau, start}
use Rattle.np_simplex.specs.declared.pivot.Row.{Row}
use Rattle.np_simplex.specs.declared.pivot.Table.{Table}
use Rattle.np_simplex.specs.declared.start.Lp.{Lp}

-- a line, by what each number stands for
abbrev pub line : {N : Type 0} → (N → Fraction) → Row N → Line
line value row = record { basic = row.basic; numbers = map value row.numbers.items }

-- a tableau
abbrev pub tableau : {N : Type 0} → (N → Fraction) → Table N → Tableau
tableau value table = record { top = map value table.top.items; lines = map (line value) table.rows.items }

-- the coefficients of the rows
abbrev pub rows_of : List (Vec ℤ Global) → List (List ℤ)
rows_of rows = map (λ row. row.items) rows

-- the last column of a linear program's tableaus
abbrev pub last_of : Lp → ℕ
last_of lp = length lp.rows.items + length lp.costs.items

-- its first tableau
abbrev pub start_of : Lp → Tableau
start_of lp = start (rows_of lp.rows.items) lp.right.items lp.costs.items
