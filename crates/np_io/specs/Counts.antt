-- Counts of faults.
use Rattle.std.specs.Prelude.{◌≡◌, ℕ, ◌+◌, ◌-◌, ◌^◌, ◌≤◌, false, List, min}
use Rattle.std.specs.Str.{bytes_eq}

-- the count has grown, or is at the end of a u64
abbrev pub Rose : ℕ → ℕ → Type 0
Rose before now = min (before + 1) (2 ^ 64 - 1) ≤ now

-- one more was counted, unless the count is at the end of a u64
pub record RoseOnce (before now : ℕ) : Type 0 where
  pub later : before ≤ now
  pub rose : Rose before now
  pub once : now ≤ before + 1

-- of the counts of all names, only that of this name may have changed: it has not fallen, and has grown by one at most
pub record OnlyAt (name : List ℕ) (before now : List ℕ → ℕ) : Type 0 where
  pub later : before name ≤ now name
  pub once : now name ≤ before name + 1
  pub others : (other : List ℕ) → bytes_eq name other ≡ false → now other ≡ before other
