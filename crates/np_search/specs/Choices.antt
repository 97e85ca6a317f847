-- Which state a search expands next.
use Rattle.std.specs.Prelude.{◌≡◌, ℕ, ◌≤◌, Bool, false, List, Option, None, Some}
use Rattle.np_state.specs.StateValues.{StateValue}
use Rattle.np_space.specs.Runs.{Next}
use Rattle.np_space.specs.declared.bound.Bound.TheVariants.{AtLeast, NoPlan}
use Rattle.np_space.specs.declared.judged.Judged.{Judged}
use Rattle.np_search.specs.declared.astar.Choice.{Choice}
use Rattle.np_search.specs.declared.astar.Choice.TheVariants.{Goal, Empty, Open}
use Rattle.np_search.specs.declared.tree.Node.{Node}
use Rattle.np_search.specs.Opens.{Entries}
use Rattle.np_search.specs.Frontiers.{IsFrontier}
use Rattle.np_search.specs.Outcomes.{IsGoalAt}
use Rattle.np_search.specs.Trees.{IsTree, IsOpenAt}

module _ (next : Next StateValue) (goal : StateValue → Bool) (first : StateValue) (fits : StateValue → Judged → Type 0) (states : List StateValue) (nodes : List Node) (list : Entries) where
  -- no open state leads to a goal
  pub record IsEmpty : Type 0 where
    pub tree : IsTree next goal first fits states nodes list None
    pub frontier : IsFrontier next goal first states nodes NoPlan

  -- an open state of least path cost and bound together
  pub record IsNext (at f : ℕ) : Type 0 where
    pub tree : IsTree next goal first fits states nodes list (Some at)
    pub frontier : IsFrontier next goal first states nodes (AtLeast f)
    pub here : IsOpenAt states nodes list at f

  -- what was taken from the list
  abbrev pub IsSettled : Option (ℕ × ℕ) → Type 0
  IsSettled None = IsEmpty
  IsSettled (Some p) = IsNext p.0 p.1

  -- it is a goal, whose path cost no plan is below
  pub record IsGoalNext (at : ℕ) : Type 0 where
    pub cost : ℕ
    pub tree : IsTree next goal first fits states nodes list (Some at)
    pub frontier : IsFrontier next goal first states nodes (AtLeast cost)
    pub here : IsGoalAt goal states nodes at cost

  -- it isn't a goal
  pub record IsOpenNext (at f : ℕ) : Type 0 where
    pub tree : IsTree next goal first fits states nodes list (Some at)
    pub frontier : IsFrontier next goal first states nodes (AtLeast f)
    pub here : IsOpenAt states nodes list at f
    pub no_goal : goal here.s ≡ false

  -- what a search does next
  abbrev pub IsChoice : Choice → Type 0
  IsChoice (Goal at) = IsGoalNext at
  IsChoice Empty = IsEmpty
  IsChoice (Open at f) = IsOpenNext at f

-- how many states are expanded at the end of a search of n expansions: all n where it stops before an open state
abbrev pub IsEndOf : ℕ → ℕ → Choice → Type 0
IsEndOf count n (Goal at) = count ≤ n
IsEndOf count n Empty = count ≤ n
IsEndOf count n (Open at f) = count ≡ n
