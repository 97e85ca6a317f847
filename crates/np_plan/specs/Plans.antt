-- The steps of a task that a text spells.
use Rattle.std.specs.Prelude.{◌≡◌, ℕ, ◌≤◌, IsTrue, List, [], ◌∷◌, map, length, slice_get, Option, None, Some, IfSome}
use Rattle.std.specs.Option.{option_map}
use Rattle.std.specs.declared.cmp.Ordering.TheVariants.{Less}
use Rattle.np_frac.specs.Fractions.{Fraction, fraction_cmp}
use Rattle.np_model.specs.declared.task.Step.{Step}
use Rattle.np_model.specs.declared.task.TaskParts.{TaskParts}
use Rattle.np_model.specs.Steps.{is_step}
use Rattle.np_words.specs.declared.read.wide.TheConstants.{MOST_DIGITS}
use Rattle.np_words.specs.Numbers.{digits_of, fraction_of}
use Rattle.np_plan.specs.declared.plan.PlanLine.{PlanLine}
use Rattle.np_plan.specs.declared.plan.PlanText.{PlanText}
use Rattle.np_plan.specs.PlanText.{SpellsText}

-- ---- stamps

-- the number that a line's stamp stands for
abbrev pub stamp_of : PlanLine → Option Fraction
stamp_of l = option_map fraction_of l.stamp

-- the stamp has at most as many digits as a number may have
abbrev pub HasValue : PlanLine → Type 0
HasValue l = IfSome l.stamp (λ d. length (digits_of d) ≤ MOST_DIGITS)

-- a stamp is above the one before, where there are both
abbrev pub IsAbove : Option Fraction → Option Fraction → Type 0
IsAbove (Some before) (Some stamp) = fraction_cmp before stamp ≡ Less
IsAbove None stamp = Unit {0}
IsAbove (Some before) None = Unit {0}

-- each stamp is above the one before; this is the one before the first
abbrev pub RiseAfter : Option Fraction → List PlanLine → Type 0
RiseAfter before [] = Unit {0}
RiseAfter before (l ∷ ls) = IsAbove before (stamp_of l) × RiseAfter (stamp_of l) ls

abbrev pub Rise : List PlanLine → Type 0
Rise = RiseAfter None

-- the stamp of the last line; this where there is no line
abbrev pub last_stamp_or : Option Fraction → List PlanLine → Option Fraction
last_stamp_or before [] = before
last_stamp_or before (l ∷ ls) = last_stamp_or (stamp_of l) ls

abbrev pub last_stamp : List PlanLine → Option Fraction
last_stamp = last_stamp_or None

-- ---- steps

-- the name of a step's action, and the names of its objects
abbrev pub action_name : TaskParts → Step → Option (List ℕ)
action_name task step = option_map (λ a. a.name) (slice_get task.actions step.action)

abbrev pub object_name : TaskParts → ℕ → Option (List ℕ)
object_name task n = option_map (λ o. o.name) (slice_get task.objects n)

-- the line names this step of the task
pub record Names (task : TaskParts) (l : PlanLine) (step : Step) : Type 0 where
  pub action : action_name task step ≡ Some l.action.text
  pub objects : map (object_name task) step.objects ≡ map (λ w. Some w.text) l.objects
  pub is_step : IsTrue (is_step task step)

-- the lines name these steps, in order
abbrev pub NameAll : TaskParts → List PlanLine → List Step → Type 0
NameAll task [] [] = Unit {0}
NameAll task [] (s ∷ ss) = ⊥
NameAll task (l ∷ ls) [] = ⊥
NameAll task (l ∷ ls) (s ∷ ss) = Names task l s × NameAll task ls ss

-- the bytes spell these steps of the task: they spell a text whose stamps, where there are any, each are above the one before, and whose
-- lines name the steps in order
pub record Spells (task : TaskParts) (bytes : List ℕ) (steps : List Step) : Type 0 where
  pub text : PlanText
  pub spelled : SpellsText bytes text
  pub rise : Rise text.lines
  pub named : NameAll task text.lines steps
