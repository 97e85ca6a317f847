-- Ranks of types, which show of most that they aren't under themselves.
use Rattle.std.specs.Prelude.{ℕ, ◌-◌, ◌^◌, ◌≤◌, List, get_or}
use Rattle.np_model.specs.declared.task.TypeName.{TypeName}
use Rattle.np_model.specs.Types.{parent_of}

-- the rank of a type, the last where it has none
abbrev pub rank_of : List ℕ → ℕ → ℕ
rank_of ranks n = get_or ranks n (2 ^ 32 - 1)

-- no type has a higher rank than the one that it is under
pub record NeverFall (types : List TypeName) (ranks : List ℕ) : Type 0 where
  pub rises : (n : ℕ) → rank_of ranks n ≤ rank_of ranks (parent_of types n)
