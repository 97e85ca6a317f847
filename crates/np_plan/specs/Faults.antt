-- Why no plan is read.
use Rattle.std.specs.Prelude.{◌≡◌, ℕ, ◌<◌, ◌≤◌, Bool, true, false, List, ◌∷◌, ◌++◌, length, Option, Some, Err}
use Rattle.np_frac.specs.Fractions.{Fraction}
use Rattle.np_lex.specs.declared.token.Place.{Place}
use Rattle.np_lex.specs.Tokens.{Item, items_of, first_place}
use Rattle.np_model.specs.declared.task.Step.{Step}
use Rattle.np_model.specs.declared.task.TaskParts.{TaskParts}
use Rattle.np_words.specs.declared.word.Decimal.{Decimal}
use Rattle.np_words.specs.declared.fault.ReadFault.{ReadFault}
use Rattle.np_words.specs.declared.fault.ReadFault.TheVariants as text_fault
use Rattle.np_words.specs.Wide.{IsSyntaxFault, IsWideFault}
use Rattle.np_plan.specs.declared.fault.PlanFault.{PlanFault}
use Rattle.np_plan.specs.declared.fault.PlanFault.TheVariants as fault
use Rattle.np_plan.specs.declared.plan.PlanLine.{PlanLine}
use Rattle.np_plan.specs.declared.plan.PlanText.{PlanText}
use Rattle.np_plan.specs.declared.read.TheConstants.{MOST_STEPS}
use Rattle.np_plan.specs.PlanForm.{plan}
use Rattle.np_plan.specs.PlanText.{IsPlan, plan_text, SpellsText, IsPlaced}
use Rattle.np_plan.specs.Plans.{stamp_of, IsAbove, Rise, last_stamp, Names, NameAll}

-- the fault of a text as that of a plan
abbrev pub from_text : ReadFault → PlanFault
from_text (text_fault.At place) = fault.At place
from_text (text_fault.NumberWide place) = fault.NumberWide place
from_text text_fault.Memory = fault.Memory

-- whether memory ran out
abbrev pub is_memory : PlanFault → Bool
is_memory (fault.At place) = false
is_memory (fault.NumberWide place) = false
is_memory fault.TooLong = false
is_memory (fault.StampOrder place) = false
is_memory (fault.UnknownStep place) = false
is_memory fault.Memory = true

-- ---- the fault of a line, after a line with this stamp

-- its stamp, at this place, isn't above the one before
pub record IsStampFault (place : Place) (before : Option Fraction) (l : PlanLine) : Type 0 where
  pub stamp : Decimal
  pub stamp_is : l.stamp ≡ Some stamp
  pub place_is : stamp.place ≡ place
  pub not_above : IsAbove before (stamp_of l) → ⊥

-- its stamp is above the one before, but it names no step of the task; its bracket is at this place
pub record IsStepFault (task : TaskParts) (place : Place) (before : Option Fraction) (l : PlanLine) : Type 0 where
  pub above : IsAbove before (stamp_of l)
  pub unknown : (step : Step) → Names task l step → ⊥
  pub place_is : l.place ≡ place

-- the first line that has a fault has this one: the lines before it rise and name steps
pub record IsFirstAmong (task : TaskParts) (HasFault : Option Fraction → PlanLine → Type 0) (lines : List PlanLine) : Type 0 where
  pub front : List PlanLine
  pub faulty : PlanLine
  pub after : List PlanLine
  pub lines_are : lines ≡ front ++ faulty ∷ after
  pub rise : Rise front
  pub steps : List Step
  pub named : NameAll task front steps
  pub fault : HasFault (last_stamp front) faulty

-- the fault of a line's stamp
abbrev pub IsLineFault : Option Fraction → PlanLine → PlanFault → Type 0
IsLineFault before l (fault.StampOrder place) = IsStampFault place before l
IsLineFault before l (fault.UnknownStep place) = ⊥
IsLineFault before l fault.Memory = ⊥
IsLineFault before l (fault.At place) = ⊥
IsLineFault before l (fault.NumberWide place) = ⊥
IsLineFault before l fault.TooLong = ⊥

-- the fault of the lines
abbrev pub IsLinesFault : TaskParts → List PlanLine → PlanFault → Type 0
IsLinesFault task lines (fault.StampOrder place) = IsFirstAmong task (IsStampFault place) lines
IsLinesFault task lines (fault.UnknownStep place) = IsFirstAmong task (IsStepFault task place) lines
IsLinesFault task lines fault.Memory = Unit {0}
IsLinesFault task lines (fault.At place) = ⊥
IsLinesFault task lines (fault.NumberWide place) = ⊥
IsLinesFault task lines fault.TooLong = ⊥

-- ---- the fault of a text

-- the reader of plans stops at this place
pub record StopsAt (bytes : List ℕ) (stop : Place) : Type 0 where
  pub rest : List Item
  pub read : plan (items_of bytes) ≡ Err rest
  pub at_place : first_place rest ≡ Some stop

-- the bytes spell no value
abbrev pub IsUnspelled : List ℕ → Type 0
IsUnspelled bytes = (p : PlanText) → SpellsText bytes p → ⊥

-- the text's own fault
abbrev pub IsTextFault : List ℕ → ReadFault → Type 0
IsTextFault bytes (text_fault.At place) = IsSyntaxFault IsPlan plan_text (items_of bytes) place × IsUnspelled bytes
IsTextFault bytes (text_fault.NumberWide place) = IsWideFault IsPlan plan_text (items_of bytes) place × IsUnspelled bytes
IsTextFault bytes text_fault.Memory = Unit {0}

-- the bytes spell a text of more lines than a plan may have
pub record IsTooLong (bytes : List ℕ) : Type 0 where
  pub text : PlanText
  pub spelled : SpellsText bytes text
  pub long : MOST_STEPS < length text.lines

-- the bytes spell a text that isn't too long, and its lines have this fault
pub record IsFaulty (task : TaskParts) (bytes : List ℕ) (f : PlanFault) : Type 0 where
  pub text : PlanText
  pub spelled : SpellsText bytes text
  pub placed : IsPlaced bytes text
  pub few : length text.lines ≤ MOST_STEPS
  pub faulty : IsLinesFault task text.lines f

-- the cause of a fault: that of the text comes first, then its length, then the first line that has one
abbrev pub HasCause : TaskParts → List ℕ → PlanFault → Type 0
HasCause task bytes (fault.At place) = IsSyntaxFault IsPlan plan_text (items_of bytes) place
HasCause task bytes (fault.NumberWide place) = IsWideFault IsPlan plan_text (items_of bytes) place
HasCause task bytes fault.TooLong = IsTooLong bytes
HasCause task bytes (fault.StampOrder place) = IsFaulty task bytes (fault.StampOrder place)
HasCause task bytes (fault.UnknownStep place) = IsFaulty task bytes (fault.UnknownStep place)
HasCause task bytes fault.Memory = Unit {0}
