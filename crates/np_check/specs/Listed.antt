-- What a table lists, and the same by subgoal.
use Rattle.std.specs.Prelude.{◌≡◌, ℕ, ◌<◌, List, [], ◌∷◌, length, map, All, IsTrue, slice_set}
use Rattle.np_flat.specs.Flats.{AreNumbers}
use Rattle.np_table.specs.Tables.{Entry, at}
use Rattle.np_table.specs.Listed.{entry_in}
use Rattle.np_cert.specs.declared.certificate.Limit.{Limit}
use Rattle.np_cert.specs.Valid.{is_small, as_entry}

-- small numbers of ascending subgoals of so many
pub record AreListed (subgoals : ℕ) (listed : List (ℕ × Limit)) : Type 0 where
  pub ascending : AreNumbers subgoals (map (λ x. x.0) listed)
  pub small : All (λ x. IsTrue (is_small x.1)) listed

-- each of so many subgoals has the number that is listed for it, 0 where none is
pub record IsFilled (subgoals : ℕ) (listed : List (ℕ × Limit)) (numbers : List Entry) : Type 0 where
  pub count : length numbers ≡ subgoals
  pub same : (q : ℕ) → q < subgoals → at numbers q ≡ entry_in as_entry listed q

-- each number in the place of its subgoal
abbrev pub put_all : List (ℕ × Limit) → List Entry → List Entry
put_all [] numbers = numbers
put_all (x ∷ xs) numbers = put_all xs (slice_set numbers x.0 (as_entry x.1))
