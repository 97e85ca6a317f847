-- Entries are listed one after the other.
use Rattle.std.specs.Prelude.{◌≡◌, ℕ, ◌<◌, ◌==◌, List, [], ◌∷◌, ◌++◌, Some, None, if◌then◌else◌}
use Rattle.np_space.specs.declared.bound.Bound.{Bound}
use Rattle.np_space.specs.declared.bound.Bound.TheVariants as bound
use Rattle.np_table.specs.Tables.{Entry}
use Rattle.np_table.specs.Listed.{as_entry, entry_in, AreEntries}

-- one more entry at the end, where it is above 0
abbrev pub added : List (ℕ × Bound) → ℕ → Entry → List (ℕ × Bound)
added xs q None = xs ++ (q, bound.NoPlan) ∷ []
added xs q (Some n) = if n == 0 then xs else xs ++ (q, bound.AtLeast n) ∷ []

-- the first so many entries are listed
pub record AreListed (entries : ℕ → Entry) (limit : ℕ) (numbers : List (ℕ × Bound)) : Type 0 where
  pub are : AreEntries limit numbers
  pub same : (q : ℕ) → q < limit → entry_in as_entry numbers q ≡ entries q
