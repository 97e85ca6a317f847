-- The steps of a check of a plan: which number stands for a step, and how far a run has come.
use Rattle.std.specs.Borrow.{Bor}
use Rattle.std.specs.Prelude.{◌≡◌, ℕ, ◌+◌, ◌^◌, ◌<◌, ◌≤◌, Bool, true, false, List, map, Some, slice_get, MatchOption}
use Rattle.std.specs.Option.{option_map}
use Rattle.std.specs.HashMap.{HashMap, get}
use Rattle.np_model.specs.declared.task.Step.{Step}
use Rattle.np_model.specs.Ground.{same_step}
use Rattle.np_flat.specs.declared.parts.FlatStep.{FlatStep}
use Rattle.np_flat.specs.declared.parts.Parts.{Parts}
use Rattle.np_flat.specs.Flats.{IsStateOf, AreWithinLimit}
use Rattle.np_flat.specs.States.{is_applicable, next}
use Rattle.np_flat.specs.Plans.{cost_of, cost_sum, run_from, step_at}
use Rattle.np_check.specs.declared.walk.Walk.{Walk}
use Rattle.np_check.specs.PlanEnds.{IsNotApplicable}

-- the number stands for the step
abbrev pub IsNumberOf : List FlatStep → Step → ℕ → Type 0
IsNumberOf steps step n = option_map (λ (s : FlatStep). s.step) (slice_get steps n) ≡ Some step

-- no number below this one stands for the step
abbrev pub HasNoNumber : List FlatStep → ℕ → Step → Type 0
HasNoNumber steps below step = (n : ℕ) → n < below → IsNumberOf steps step n → ⊥

-- the map has a number for each of the steps before a number, and for no other
abbrev pub AreNumbered : {S : Type 0} → HashMap (Bor Step) ℕ S → List FlatStep → ℕ → Type 0
AreNumbered numbers steps below =
    (q : Bor Step) → MatchOption (get (λ x y. same_step x.now y.now) numbers q) (HasNoNumber steps below q.now) (IsNumberOf steps q.now)

-- a state of the task from which a step can be computed, and a cost to which a step's can be added
pub record IsReady (task : Parts) (w : Walk) : Type 0 where
  pub state : IsStateOf task w.state
  pub within : AreWithinLimit w.state.values
  pub cost : w.cost ≤ 2 ^ 56

-- the steps run to the state of the walk, and cost so much together
pub record HasRun (task : Parts) (steps : List Step) (w : Walk) : Type 0 where
  pub numbers : List ℕ
  pub steps_are : map (step_at task) numbers ≡ map Some steps
  pub runs : run_from task numbers task.start ≡ Some w.state
  pub costs : w.cost ≡ cost_sum task numbers

-- the step of this number was taken, or it isn't applicable
abbrev pub IsNumberTaken : Parts → ℕ → Walk → Walk → Bool → Type 0
IsNumberTaken task n old new true = (next task n old.state ≡ Some new.state) × (new.cost ≡ old.cost + cost_of task n)
IsNumberTaken task n old new false = is_applicable task old.state n ≡ false

-- the walk went on by a step
pub record GoesOn (task : Parts) (step : Step) (old new : Walk) : Type 0 where
  pub number : ℕ
  pub stands : step_at task number ≡ Some step
  pub leads : next task number old.state ≡ Some new.state
  pub costs : new.cost ≡ old.cost + cost_of task number

-- the step was taken, or it isn't applicable
abbrev pub IsTaken : Parts → Step → Walk → Walk → Bool → Type 0
IsTaken task step old new true = GoesOn task step old new
IsTaken task step old new false = IsNotApplicable task old.state step
