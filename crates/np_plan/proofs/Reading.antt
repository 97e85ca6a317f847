-- What reading a plan answers, by the text that was read.
use Rattle.std.proofs.Common.{◌≡◌, ℕ, ◌<◌, ◌≤◌, false, List, length, Result, Ok, Err, subst, arith}
use Rattle.std.specs.Prelude.{IfOk, IfErr}
use Rattle.np_model.specs.declared.task.Step.{Step}
use Rattle.np_model.specs.declared.task.TaskParts.{TaskParts}
use Rattle.np_model.specs.Tasks.{IsTask}
use Rattle.np_words.specs.declared.fault.ReadFault.{ReadFault}
use Rattle.np_words.specs.declared.fault.ReadFault.TheVariants as text_fault
use Rattle.np_plan.specs.declared.fault.PlanFault.{PlanFault}
use Rattle.np_plan.specs.declared.fault.PlanFault.TheVariants as fault
use Rattle.np_plan.specs.declared.plan.PlanLine.{PlanLine}
use Rattle.np_plan.specs.declared.plan.PlanText.{PlanText}
use Rattle.np_plan.specs.declared.read.TheConstants.{MOST_STEPS}
use Rattle.np_plan.specs.Faults.{from_text, is_memory, IsTextFault, IsLinesFault, HasCause}
use Rattle.np_plan.specs.PlanText.{bare_plan, SpellsText, IsPlaced}
use Rattle.np_plan.specs.Plans.{Rise, NameAll, Spells}
use Rattle.np_plan.proofs.Bare.{rise_also, names_also}
use Rattle.np_plan.proofs.Naming.{one_list, same_length, middle_names}
use Rattle.np_plan.proofs.Rising.{middle_above}

-- ---- what is known of an answer, and what follows

pub ok_more : {A E : Type 0} {P : A → Type 0} (Q : A → Type 0) → ((a : A) → P a → Q a) → (r : Result A E) → IfOk r P → IfOk r Q
ok_more Q go (Ok a) h = go a h
ok_more Q go (Err e) h = tt

pub err_more : {A E : Type 0} {P : E → Type 0} (Q : E → Type 0) → ((e : E) → P e → Q e) → (r : Result A E) → IfErr r P → IfErr r Q
err_more Q go (Ok a) h = tt
err_more Q go (Err e) h = go e h

-- the same task and the same lines
pub same_names : (t task : TaskParts) (ls ms : List PlanLine) (ss : List Step) → t ≡ task → ls ≡ ms → NameAll t ls ss → NameAll task ms ss
same_names t task ls ms ss e f h = subst (λ (x : TaskParts). NameAll x ms ss) e (subst (λ (xs : List PlanLine). NameAll t xs ss) f h)

pub same_fault : (t task : TaskParts) (ls ms : List PlanLine) (f : PlanFault) → t ≡ task → ls ≡ ms → IsLinesFault t ls f → IsLinesFault task ms f
same_fault t task ls ms f e g h = subst (λ (x : TaskParts). IsLinesFault x ms f) e (subst (λ (xs : List PlanLine). IsLinesFault t xs f) g h)

module _ (task : TaskParts) (bytes : List ℕ) where
  -- ---- the text's own fault

  pub text_cause : (f : ReadFault) → IsTextFault bytes f → HasCause task bytes (from_text f)
  text_cause (text_fault.At place) h = h.0
  text_cause (text_fault.NumberWide place) h = h.0
  text_cause text_fault.Memory h = tt

  pub text_refused : (f : ReadFault) → IsTextFault bytes f → is_memory (from_text f) ≡ false → (other : List Step) → Spells task bytes other → ⊥
  text_refused (text_fault.At place) h e other spells = h.1 spells.text spells.spelled
  text_refused (text_fault.NumberWide place) h e other spells = h.1 spells.text spells.spelled
  text_refused text_fault.Memory h e other spells = cc

  module _ (p : PlanText) (spelled : SpellsText bytes p) (only : (other : PlanText) → SpellsText bytes other → bare_plan other ≡ bare_plan p) where
    rises : (other : List Step) → Spells task bytes other → Rise p.lines
    rises other spells = rise_also spells.text p (only spells.text spells.spelled) spells.rise

    names : (other : List Step) → Spells task bytes other → NameAll task p.lines other
    names other spells = names_also spells.text p (only spells.text spells.spelled) task other spells.named

    -- ---- the steps

    pub read_spells : (steps : List Step) → Rise p.lines → NameAll task p.lines steps → Spells task bytes steps
    read_spells steps rise named = record { text = p; spelled = spelled; rise = rise; named = named }

    pub read_few : (steps : List Step) → length p.lines ≤ MOST_STEPS → NameAll task p.lines steps → length steps ≤ MOST_STEPS
    read_few steps few named = omega (arith, same_length task p.lines steps named)

    pub read_only : IsTask task → (steps : List Step) → NameAll task p.lines steps → (other : List Step) → Spells task bytes other → other ≡ steps
    read_only good steps named other spells = one_list task good p.lines other steps (names other spells) named

    -- ---- too many lines

    pub long_cause : MOST_STEPS < length p.lines → HasCause task bytes fault.TooLong
    long_cause long = record { text = p; spelled = spelled; long = long }

    pub long_refused : MOST_STEPS < length p.lines → (other : List Step) → Spells task bytes other → length other ≤ MOST_STEPS → ⊥
    long_refused long other spells few = omega (arith, same_length task p.lines other (names other spells))

    -- ---- the fault of a line

    pub lines_cause : IsPlaced bytes p → length p.lines ≤ MOST_STEPS → (f : PlanFault) → IsLinesFault task p.lines f → HasCause task bytes f
    lines_cause placed few (fault.StampOrder place) h = record { text = p; spelled = spelled; placed = placed; few = few; faulty = h }
    lines_cause placed few (fault.UnknownStep place) h = record { text = p; spelled = spelled; placed = placed; few = few; faulty = h }
    lines_cause placed few fault.Memory h = tt
    lines_cause placed few (fault.At place) h = absurd h
    lines_cause placed few (fault.NumberWide place) h = absurd h
    lines_cause placed few fault.TooLong h = absurd h

    pub lines_refused : (f : PlanFault) → IsLinesFault task p.lines f → is_memory f ≡ false → (other : List Step) → Spells task bytes other → ⊥
    lines_refused (fault.StampOrder place) h e other spells = h.fault.not_above (middle_above h.front h.faulty h.after (subst Rise h.lines_are (rises other spells)))
    lines_refused (fault.UnknownStep place) h e other spells =
        let named = middle_names task h.front h.faulty h.after other (subst (λ (ls : List PlanLine). NameAll task ls other) h.lines_are (names other spells)) in
        h.fault.unknown named.0 named.1
    lines_refused fault.Memory h e other spells = cc
    lines_refused (fault.At place) h e other spells = h
    lines_refused (fault.NumberWide place) h e other spells = h
    lines_refused fault.TooLong h e other spells = h
