-- A flat task keeps what every flat task keeps, and has the runs and plans of its task at the same costs.
use Rattle.std.specs.Prelude.{◌≡◌, ◌≢◌, ◌↔◌, ℕ, pos, ◌<ℤ◌, unsigned_abs, List, ◌∷◌, map, All, Some, Ok}
use Rattle.std.specs.Int.{◌∣◌}
use Rattle.np_frac.specs.Fractions.{Fraction, whole, times}
use Rattle.np_model.specs.declared.task.Step.{Step}
use Rattle.np_model.specs.declared.task.TaskParts.{TaskParts}
use Rattle.np_model.specs.States.{State}
use Rattle.np_model.specs.Tasks.{IsTask}
use Rattle.np_model.specs.Plans.{start_of, run_from, cost_from, is_goal, IsPlan}
use Rattle.np_flat.specs.declared.state.FlatState.{FlatState}
use Rattle.np_flat.specs.declared.parts.Parts.{Parts}
use Rattle.np_flat.specs.Flats.{IsFlat}
use Rattle.np_flat.specs.States as flat_states
use Rattle.np_flat.specs.Plans.{step_at, cost_sum}
use Rattle.np_flat.specs.Plans as flat_plans
use Rattle.np_bind.specs.declared.bound.BoundParts.{BoundParts}
use Rattle.np_bind.specs.BoundTasks.{IsBound}
use Rattle.np_scale.specs.Tables.{values_of}
use Rattle.np_scale.specs.Wholes.{all_numbers, unit_of, factor_of}
use Rattle.np_scale.specs.Scaling.{scale_task, IsFlatTaskOf}
use Rattle.np_scale.specs.Same.{StandsFor}

-- ---- the unit

-- the least number that makes each of these whole
pub record IsUnit (unit : ℕ) (numbers : List Fraction) : Type 0 where
  pub makes_whole : All (λ x. (times (whole (pos unit)) x).den ≡ 1) numbers
  pub least : (m : ℕ) → All (λ x. (times (whole (pos m)) x).den ≡ 1) numbers → unit ∣ m

abbrev pub UnitIsUnit : Type 0
UnitIsUnit = (bound : BoundParts) → IsUnit (unit_of bound) (all_numbers bound (values_of bound))

-- ---- whole coefficients

-- the factor makes each coefficient a whole number of the same sign, and no number but 1 divides all of these
pub record AreWhole (factor : Fraction) (coefficients : List Fraction) : Type 0 where
  pub positive : pos 0 <ℤ factor.num
  pub whole : All (λ a. (times factor a).den ≡ 1) coefficients
  pub apart : (g : ℕ) → All (λ a. g ∣ unsigned_abs (times factor a).num) coefficients → g ≡ 1

abbrev pub FactorMakesWhole : Type 0
FactorMakesWhole = (a : Fraction) (more : List Fraction) → All (λ b. b ≢ whole (pos 0)) (a ∷ more) → AreWhole (factor_of (a ∷ more)) (a ∷ more)

-- ---- the flat task

abbrev pub FlatIsFlat : Type 0
FlatIsFlat = (bound : BoundParts) (flat : Parts) → IsBound bound → scale_task bound ≡ Ok flat → IsFlat flat

-- ---- the same runs

-- a list of steps is a run to a state, and steps by number that stand for them are a flat run to a flat state that stands for it; both
-- cost the same, and the goal holds in both or in none
pub record SameRun (task : TaskParts) (flat : Parts) (steps : List Step) (numbers : List ℕ) (s : State) (f : FlatState) : Type 0 where
  pub named : map (step_at flat) numbers ≡ map Some steps
  pub runs : run_from task steps (start_of task) ≡ Some s
  pub flat_runs : flat_plans.run_from flat numbers flat.start ≡ Some f
  pub stands : StandsFor flat s f
  pub costs : cost_from task steps (start_of task) ≡ Some (whole (pos (cost_sum flat numbers)))
  pub goal : is_goal task s ≡ flat_states.is_goal flat f

-- the flat run of a run
pub record HasFlatRun (task : TaskParts) (flat : Parts) (steps : List Step) (s : State) : Type 0 where
  pub numbers : List ℕ
  pub state : FlatState
  pub same : SameRun task flat steps numbers s state

-- the run of a flat run
pub record HasRun (task : TaskParts) (flat : Parts) (numbers : List ℕ) (f : FlatState) : Type 0 where
  pub steps : List Step
  pub state : State
  pub same : SameRun task flat steps numbers state f

-- each run of a task has a flat run, and the other way round
pub record SameRunsOf (task : TaskParts) (flat : Parts) : Type 0 where
  pub to_flat : (steps : List Step) (s : State) → run_from task steps (start_of task) ≡ Some s → HasFlatRun task flat steps s
  pub from_flat : (numbers : List ℕ) (f : FlatState) → flat_plans.run_from flat numbers flat.start ≡ Some f → HasRun task flat numbers f

abbrev pub SameRuns : Type 0
SameRuns = (task : TaskParts) (flat : Parts) → IsTask task → IsFlatTaskOf task flat → SameRunsOf task flat

-- two flat states that stand for one state are the same
abbrev pub StandsForOne : Type 0
StandsForOne = (flat : Parts) (s : State) (f g : FlatState) → StandsFor flat s f → StandsFor flat s g → f ≡ g

-- ---- the same plans

-- a list of steps is a plan of a task exactly where it is a flat plan, at the same cost
abbrev pub SamePlans : Type 0
SamePlans = (task : TaskParts) (flat : Parts) → IsTask task → IsFlatTaskOf task flat
    → (steps : List Step) (cost : ℕ) → IsPlan task steps (whole (pos cost)) ↔ flat_plans.IsPlan flat steps cost

-- and a plan's cost is a whole number
pub record IsWholeCost (cost : Fraction) : Type 0 where
  pub number : ℕ
  pub is : cost ≡ whole (pos number)

abbrev pub PlansCostWhole : Type 0
PlansCostWhole = (task : TaskParts) (flat : Parts) → IsTask task → IsFlatTaskOf task flat
    → (steps : List Step) (cost : Fraction) → IsPlan task steps cost → IsWholeCost cost
