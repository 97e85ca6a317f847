-- What conditions and effects of a bound task read and change: distinct terms, each with a start value.
use Rattle.std.proofs.Common.{◌≡◌, ℕ, Bool, true, false, refl, sym, ◌∙◌, ap, List, [], ◌∷◌, Option, Some, None, Ok, Err, Result, true≢false}
use Rattle.std.specs.Prelude.{if◌then◌else◌, All, IfOk, is_some}
use Rattle.std.proofs.lemmas.List.Elements.{All-nil, All-append}
use Rattle.np_frac.specs.Fractions.{Fraction}
use Rattle.np_model.specs.declared.task.Op.{Op}
use Rattle.np_model.specs.declared.task.Term.{Term}
use Rattle.np_model.specs.declared.task.Atom as model
use Rattle.np_model.specs.declared.task.Cond.{Cond}
use Rattle.np_model.specs.declared.task.Cond.TheVariants as cond
use Rattle.np_model.specs.declared.task.Eff.{Eff}
use Rattle.np_model.specs.declared.task.Eff.TheVariants as eff
use Rattle.np_model.specs.declared.task.Action.{Action}
use Rattle.np_model.specs.declared.task.Step.{Step}
use Rattle.np_model.specs.declared.task.TaskParts.{TaskParts}
use Rattle.np_model.specs.Ground.{atom_of, term_of}
use Rattle.np_model.specs.States.{is_among, value_among}
use Rattle.np_model.specs.Conditions.{compares, with_sign}
use Rattle.np_model.specs.Tasks.{is_fixed}
use Rattle.np_model.proofs.Distinct.{alone}
use Rattle.np_linear.specs.declared.linear.Linear.{Linear}
use Rattle.np_linear.specs.declared.finding.Finding.{Finding}
use Rattle.np_linear.specs.declared.finding.Finding.TheVariants.{Fails, Missing, NotLinear, Wide}
use Rattle.np_linear.specs.Linears.{zero, has_no_terms, is_constant, with_multiple}
use Rattle.np_linear.proofs.Distinct.{then_says, says_nothing, says_of, Each, Once, IsProper, HasStart, each_with_multiple, once_with_multiple, difference_is_proper, all_of_each, distinct_of_once, coefficients_of}
use Rattle.np_bind.specs.declared.bound.BoundCond.{BoundCond}
use Rattle.np_bind.specs.declared.bound.BoundCond.TheVariants.{Atom, Compare, Never}
use Rattle.np_bind.specs.declared.bound.BoundStep.{BoundStep}
use Rattle.np_bind.specs.declared.net.Net.{Net}
use Rattle.np_bind.specs.BoundTasks.{IsLinear, IsCondition, IsKept}
use Rattle.np_bind.specs.Grounding.{left_of_known, left_of_atom, left_of_comparison, difference_of, left_of_condition, left_of_all, or_never, left_of_goal, number_of_amount, no_effects, with_change, with_effect, with_effects}
use Rattle.np_bind.proofs.StepsTaken.{IsStepOf}

-- ---- conditions

-- a sum that isn't constant
is_linear : (values : List (Term × Fraction)) (l : Linear) → is_constant l ≡ false → IsProper (HasStart values) l → IsLinear values l
is_linear values l e h = record {
  some = λ none. true≢false (sym (ap has_no_terms none) ∙ e);
  terms = record { distinct = distinct_of_once l.terms h.1.0; there = all_of_each (HasStart values) l.terms h.0 };
  coefficients = coefficients_of l.terms h.1.1;
}

-- what is left of conditions are conditions
abbrev AreProper : List (Term × Fraction) → Result (List BoundCond) Finding → Type 0
AreProper values r = IfOk r (All (IsCondition values))

proper_known : (values : List (Term × Fraction)) (b : Bool) → AreProper values (left_of_known b)
proper_known values true = All-nil (IsCondition values)
proper_known values false = tt

proper_atom : (values : List (Term × Fraction)) (fixed positive there : Bool) (a : model.Atom) → AreProper values (left_of_atom fixed positive there a)
proper_atom values true positive there a = proper_known values (with_sign positive there)
proper_atom values false positive there a = alone (IsCondition values) (Atom positive a) tt

proper_comparison : (values : List (Term × Fraction)) (op : Op) (l : Linear) → IsProper (HasStart values) l → AreProper values (left_of_comparison op l)
proper_comparison values op l h = by (is_constant l) refl
  where
    by : (b : Bool) → is_constant l ≡ b → AreProper values (if b then left_of_known (compares op l.constant zero) else Ok (Compare op l ∷ []))
    by true e = proper_known values (compares op l.constant zero)
    by false e = alone (IsCondition values) (Compare op l) (is_linear values l e h)

proper_condition : (task : TaskParts) (values : List (Term × Fraction)) (objects : List ℕ) (c : Cond) → AreProper values (left_of_condition task values objects c)
unfolding difference_of
proper_condition task values objects (cond.Atom positive predicate refs) =
    proper_atom values (is_fixed task.predicates predicate) positive (is_among task.atoms (atom_of objects predicate refs)) (atom_of objects predicate refs)
proper_condition task values objects (cond.Same positive a b) = proper_known values _
proper_condition task values objects (cond.Compare op x y) =
    then_says (IsProper (HasStart values)) (All (IsCondition values)) (difference_of task values objects x y) (left_of_comparison op)
    (difference_is_proper task.functions values objects x y) (λ l h. proper_comparison values op l h)

proper_all : (values : List (Term × Fraction)) (left : Cond → Result (List BoundCond) Finding) → ((c : Cond) → AreProper values (left c)) → (cs : List Cond) → AreProper values (left_of_all left cs)
proper_all values left k [] = All-nil (IsCondition values)
proper_all values left k (c ∷ cs) =
    then_says (All (IsCondition values)) (All (IsCondition values)) (left c) _ (k c)
    (λ b h. then_says (All (IsCondition values)) (All (IsCondition values)) (left_of_all left cs) _ (proper_all values left k cs) (λ bs e. All-append (IsCondition values) b bs h e))

proper_or_never : (values : List (Term × Fraction)) (r : Result (List BoundCond) Finding) → AreProper values r → AreProper values (or_never r)
proper_or_never values (Ok bs) h = h
proper_or_never values (Err Fails) h = alone (IsCondition values) Never tt
proper_or_never values (Err Missing) h = tt
proper_or_never values (Err NotLinear) h = tt
proper_or_never values (Err Wide) h = tt

-- the goal
pub proper_goal : (task : TaskParts) (values : List (Term × Fraction)) (bs : List BoundCond) → left_of_goal task values ≡ Ok bs → All (IsCondition values) bs
proper_goal task values bs e =
    says_of (All (IsCondition values)) (left_of_goal task values) bs e
    (proper_all values (λ c. or_never (left_of_condition task values [] c)) (λ c. proper_or_never values (left_of_condition task values [] c) (proper_condition task values [] c)) task.goal)

-- ---- effects

-- net changes of distinct terms, each with a start value
abbrev ChangesProper : List (Term × Fraction) → Net → Type 0
ChangesProper values n = Each (HasStart values) n.changes × Once n.changes

both_say : {A C : Type 0} (P Q : A → Type 0) (r : Result A C) → IfOk r P → IfOk r Q → IfOk r (λ x. P x × Q x)
both_say P Q (Ok x) p q = (p, q)
both_say P Q (Err e) p q = tt

proper_change : (values : List (Term × Fraction)) (start : Option Fraction) (up : Bool) (t : Term) (amount : Result Fraction Finding) (n : Net)
    → value_among values t ≡ start → ChangesProper values n → IfOk (with_change start up t amount n) (ChangesProper values)
proper_change values None up t amount n e h = tt
proper_change values (Some v) up t amount n e h =
    then_says (λ c. Unit {0}) (ChangesProper values) amount _ (says_nothing amount) (λ c u.
    then_says (λ cs. Each (HasStart values) cs × Once cs) (ChangesProper values) (with_multiple true up t c n.changes) _
    (both_say (Each (HasStart values)) Once (with_multiple true up t c n.changes)
    (each_with_multiple (HasStart values) true up t c n.changes (ap is_some e) h.0) (once_with_multiple true up t c n.changes h.1))
    (λ cs k. k))

proper_effect : (task : TaskParts) (values : List (Term × Fraction)) (objects : List ℕ) (n : Net) (e : Eff) → ChangesProper values n → IfOk (with_effect task values objects n e) (ChangesProper values)
proper_effect task values objects n (eff.Add predicate refs) h = h
proper_effect task values objects n (eff.Delete predicate refs) h = h
proper_effect task values objects n (eff.Change up function refs amount) h =
    proper_change values (value_among values (term_of objects function refs)) up (term_of objects function refs) (number_of_amount task values objects amount) n refl h

proper_effects : (task : TaskParts) (values : List (Term × Fraction)) (objects : List ℕ) (n : Net) (es : List Eff) → ChangesProper values n → IfOk (with_effects task values objects n es) (ChangesProper values)
proper_effects task values objects n [] h = h
proper_effects task values objects n (e ∷ es) h =
    then_says (ChangesProper values) (ChangesProper values) (with_effect task values objects n e) _ (proper_effect task values objects n e h)
    (λ m k. proper_effects task values objects m es k)

-- ---- steps

pub proper_step : (task : TaskParts) (values : List (Term × Fraction)) (metric : Option Linear) (step : Step) (action : Action) (b : BoundStep)
    → IsStepOf task values metric step action b → IsKept values b
proper_step task values metric step action b h =
    let changes : ChangesProper values (record { adds = b.adds; deletes = b.deletes; changes = b.changes }) =
    says_of (ChangesProper values) (with_effects task values step.objects no_effects action.effects) (record { adds = b.adds; deletes = b.deletes; changes = b.changes }) h.effects
    (proper_effects task values step.objects no_effects action.effects (tt, tt)) in
    record {
      needs = says_of (All (IsCondition values)) (left_of_all (left_of_condition task values step.objects) action.needs) b.needs h.needs
          (proper_all values (left_of_condition task values step.objects) (proper_condition task values step.objects) action.needs);
      changes = record { distinct = distinct_of_once b.changes changes.1; there = all_of_each (HasStart values) b.changes changes.0 };
    }
