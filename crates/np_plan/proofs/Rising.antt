-- Stamps that rise, line by line, and what has been passed of the lines.
use Rattle.std.proofs.Common.{◌≡◌, ℕ, suc, ◌+◌, ◌<◌, List, [], ◌∷◌, ◌++◌, length, get_or, drop, Option, None, refl, sym, ap, subst, ◌∙◌, append_assoc, arith}
use Rattle.std.specs.List.{All}
use Rattle.std.proofs.Math.Seq.{drop-cons}
use Rattle.std.proofs.lemmas.List.{append-nil}
use Rattle.np_frac.specs.Fractions.{Fraction}
use Rattle.np_model.specs.declared.task.Step.{Step}
use Rattle.np_model.specs.declared.task.TaskParts.{TaskParts}
use Rattle.np_plan.specs.declared.plan.PlanLine.{PlanLine}
use Rattle.np_plan.specs.declared.fault.PlanFault.{PlanFault}
use Rattle.np_plan.specs.declared.fault.PlanFault.TheVariants as fault
use Rattle.np_plan.specs.Faults.{IsStampFault, IsFirstAmong, IsLineFault, IsLinesFault}
use Rattle.np_plan.specs.Plans.{stamp_of, IsAbove, RiseAfter, Rise, last_stamp_or, last_stamp, Names, NameAll, HasValue}
use Rattle.np_plan.proofs.Naming.{one_more}

rise_more : (before : Option Fraction) (front : List PlanLine) (l : PlanLine) → RiseAfter before front → IsAbove (last_stamp_or before front) (stamp_of l) → RiseAfter before (front ++ l ∷ [])
rise_more before [] l h above = (above, tt)
rise_more before (m ∷ front) l h above = (h.0, rise_more (stamp_of m) front l h.1 above)

last_more : (before : Option Fraction) (front : List PlanLine) (l : PlanLine) → last_stamp_or before (front ++ l ∷ []) ≡ stamp_of l
last_more before [] l = refl
last_more before (m ∷ front) l = last_more (stamp_of m) front l

middle_above_by : (before : Option Fraction) (front : List PlanLine) (l : PlanLine) (after : List PlanLine) → RiseAfter before (front ++ l ∷ after) → IsAbove (last_stamp_or before front) (stamp_of l)
middle_above_by before [] l after h = h.0
middle_above_by before (m ∷ front) l after h = middle_above_by (stamp_of m) front l after h.1

-- a line among others that rise is above the one before
pub middle_above : (front : List PlanLine) (l : PlanLine) (after : List PlanLine) → Rise (front ++ l ∷ after) → IsAbove (last_stamp front) (stamp_of l)
middle_above front l after h = middle_above_by None front l after h

-- the lines before those that are left rise, up to this stamp, and name these steps
pub record Passed (task : TaskParts) (lines : List PlanLine) (before : Option Fraction) (steps : List Step) (left : List PlanLine) : Type 0 where
  pub front : List PlanLine
  pub lines_are : lines ≡ front ++ left
  pub rise : Rise front
  pub before_is : before ≡ last_stamp front
  pub named : NameAll task front steps

pub none_passed : (task : TaskParts) (lines : List PlanLine) → Passed task lines None [] lines
none_passed task lines = record { front = []; lines_are = refl; rise = tt; before_is = refl; named = tt }

pub next_line : (lines : List PlanLine) (i : ℕ) (l : PlanLine) → i < length lines → l ≡ get_or lines i l → drop i lines ≡ l ∷ drop (i + 1) lines
next_line lines i l within is =
    let plain : suc i ≡ i + 1 = omega arith in
    drop-cons lines i l within ∙ ap (λ (x : PlanLine). x ∷ drop (suc i) lines) (sym is) ∙ ap (λ (k : ℕ). l ∷ drop k lines) plain

pub line_value : (lines : List PlanLine) (i : ℕ) (l : PlanLine) → i < length lines → l ≡ get_or lines i l → All HasValue lines → HasValue l
line_value lines i l within is values = subst HasValue (sym is) (values i l within)

module _ (task : TaskParts) (lines : List PlanLine) (before : Option Fraction) (steps : List Step) where
  pub one_passed : (left : List PlanLine) (l : PlanLine) (after : List PlanLine) (stamp : Option Fraction) (s : Step) → Passed task lines before steps left → left ≡ l ∷ after → stamp ≡ stamp_of l → IsAbove before (stamp_of l) → Names task l s
      → Passed task lines stamp (steps ++ s ∷ []) after
  one_passed left l after stamp s passed is stamp_is above names = record {
    front = passed.front ++ l ∷ [];
    lines_are = passed.lines_are ∙ ap (λ (more : List PlanLine). passed.front ++ more) is ∙ sym (append_assoc passed.front (l ∷ []) after);
    rise = rise_more None passed.front l passed.rise (subst (λ (b : Option Fraction). IsAbove b (stamp_of l)) passed.before_is above);
    before_is = stamp_is ∙ sym (last_more None passed.front l);
    named = one_more task passed.front steps l s passed.named names;
  }

  -- the next line has a fault
  pub first_among : (HasFault : Option Fraction → PlanLine → Type 0) (left : List PlanLine) (l : PlanLine) (after : List PlanLine) → Passed task lines before steps left → left ≡ l ∷ after → HasFault before l → IsFirstAmong task HasFault lines
  first_among HasFault left l after passed is fault = record {
    front = passed.front;
    faulty = l;
    after = after;
    lines_are = passed.lines_are ∙ ap (λ (more : List PlanLine). passed.front ++ more) is;
    rise = passed.rise;
    steps = steps;
    named = passed.named;
    fault = subst (λ (b : Option Fraction). HasFault b l) passed.before_is fault;
  }

  -- its stamp has one
  pub stamp_fault : (left : List PlanLine) (l : PlanLine) (after : List PlanLine) → Passed task lines before steps left → left ≡ l ∷ after → (f : PlanFault) → IsLineFault before l f → IsLinesFault task lines f
  stamp_fault left l after passed is (fault.StampOrder place) h = first_among (IsStampFault place) left l after passed is h
  stamp_fault left l after passed is (fault.UnknownStep place) h = absurd h
  stamp_fault left l after passed is fault.Memory h = tt
  stamp_fault left l after passed is (fault.At place) h = absurd h
  stamp_fault left l after passed is (fault.NumberWide place) h = absurd h
  stamp_fault left l after passed is fault.TooLong h = absurd h

  pub all_rise : (left : List PlanLine) → Passed task lines before steps left → left ≡ [] → Rise lines
  all_rise left passed is = subst Rise (sym (passed.lines_are ∙ ap (λ (more : List PlanLine). passed.front ++ more) is ∙ append-nil passed.front)) passed.rise

  pub all_named : (left : List PlanLine) → Passed task lines before steps left → left ≡ [] → NameAll task lines steps
  all_named left passed is =
      subst (λ (ls : List PlanLine). NameAll task ls steps) (sym (passed.lines_are ∙ ap (λ (more : List PlanLine). passed.front ++ more) is ∙ append-nil passed.front)) passed.named
