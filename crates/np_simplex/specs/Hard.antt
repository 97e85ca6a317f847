-- Where the plain run is hard: there the simplex may refuse.
use Rattle.std.specs.Prelude.{ℕ, ◌+◌, ◌*◌, ◌<◌, ◌^◌, List, ℤ, length}
use Rattle.np_simplex.specs.Tableau.{start, GoesOn}
use Rattle.np_simplex.specs.Widths.{MeetsPast}
use Rattle.np_simplex.specs.Promises.{most_pivots}

-- rows times columns pass 2 ^ 20, a number of one of its tableaus has a size past 2 ^ 30, or it makes more than 64 + 8 * (rows + columns) pivots
pub data IsHard (rows : List (List ℤ)) (right : List ℤ) (costs : List ℕ) : Type 0 where
  is_large : 2 ^ 20 < length rows * length costs → IsHard rows right costs
  meets_large : MeetsPast (2 ^ 30) (length rows + length costs) (start rows right costs) → IsHard rows right costs
  goes_on : GoesOn (length rows + length costs) (most_pivots (length rows) (length costs)) (start rows right costs) → IsHard rows right costs
