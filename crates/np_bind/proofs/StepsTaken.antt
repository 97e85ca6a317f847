-- A kept step does what its action does; a dropped one is applicable in no state that follows the start.
use Rattle.std.proofs.Common.{◌≡◌, pos, true, false, refl, sym, ◌∙◌, ap, subst, arith, List, [], ◌∷◌, map, Some, None, Ok, Err, Option, Result}
use Rattle.std.specs.Prelude.{fold, option_map, slice_get}
use Rattle.std.specs.Option.{option_map_or}
use Rattle.std.specs.List.{list_all}
use Rattle.std.proofs.Math.Bool.{and-true}
use Rattle.std.proofs.lemmas.Option.{same_Some}
use Rattle.np_frac.specs.Fractions.{Fraction, plus, minus, times}
use Rattle.np_frac.specs.Field.{field, frac, int, sum, rest, plus_assoc, times-plus, plus-zero}
use Rattle.np_model.specs.declared.task.Term.{Term}
use Rattle.np_model.specs.declared.task.Atom as model
use Rattle.np_model.specs.declared.task.Sum.{Sum}
use Rattle.np_model.specs.declared.task.Action.{Action}
use Rattle.np_model.specs.declared.task.Step.{Step}
use Rattle.np_model.specs.declared.task.TaskParts.{TaskParts}
use Rattle.np_model.specs.States.{State}
use Rattle.np_model.specs.Values.{of_both, value_of}
use Rattle.np_model.specs.Conditions.{all_hold, holds}
use Rattle.np_model.specs.Steps.{amount_of, is_applicable, result_of, cost_between}
use Rattle.np_model.specs.Tasks.{is_fixed, names_predicate, names_function, FixedIsStatic}
use Rattle.np_model.proofs.Unchanged.{nothing_changes, unnamed, not_added, not_deleted, not_changed}
use Rattle.np_linear.specs.declared.linear.Linear.{Linear}
use Rattle.np_linear.specs.declared.finding.Finding.{Finding}
use Rattle.np_linear.specs.Answers.{and_then}
use Rattle.np_linear.specs.Linears.{zero, checked_sum, checked_product, linear_of, linear_value, terms_value, value_in}
use Rattle.np_linear.proofs.Chains.{goes_on, same_Ok}
use Rattle.np_linear.proofs.LinearValues.{sum_is, product_is}
use Rattle.np_linear.proofs.Readings.{Means, Present, present_then, present_sum, present_product, linear_means}
use Rattle.np_bind.specs.declared.net.Net.{Net}
use Rattle.np_bind.specs.declared.bound.BoundCond.{BoundCond}
use Rattle.np_bind.specs.declared.bound.BoundStep.{BoundStep}
use Rattle.np_bind.specs.Grounding.{left_of_condition, left_of_all, with_effects, no_effects, number_on, cost_over, cost_of_changes, linear_metric, bound_step}
use Rattle.np_bind.specs.BoundPlans.{bound_holds, is_bound_applicable, bound_after}
use Rattle.np_bind.proofs.LeftConditions.{Follows, IfFalse, Says, condition_says, conditions_say, first_false, second_false}
use Rattle.np_bind.proofs.NetEffects.{Does, Comes, effects_come, never}

-- a bound step does in a state what the action does
pub record Takes (step : Step) (action : Action) (s : State) (b : BoundStep) : Type 0 where
  pub applicable : is_applicable action step.objects s ≡ is_bound_applicable b s
  pub does : Does step.objects s no_effects action.effects (record { adds = b.adds; deletes = b.deletes; changes = b.changes })

-- the same of an answer; a step that is dropped is applicable in no state that follows the start
abbrev pub StepSays : Step → Action → State → Result BoundStep Finding → Type 0
StepSays step action s (Ok b) = Takes step action s b
StepSays step action s (Err e) = IfFalse e (is_applicable action step.objects s)

-- costs never say that a value is missing
present_cost_over : (so_far : Fraction) (xs cs : List (Term × Fraction)) → Present (cost_over so_far xs cs)
present_cost_over so_far [] cs = tt
present_cost_over so_far (x ∷ xs) cs =
    present_then (checked_product false x.1 (number_on cs x.0)) _ (present_product false x.1 (number_on cs x.0))
    (λ p. present_then (checked_sum true so_far p) _ (present_sum true so_far p) (λ c. present_cost_over c xs cs))

present_cost : (metric : Option Linear) (cs : List (Term × Fraction)) → Present (cost_of_changes metric cs)
present_cost None cs = tt
present_cost (Some m) cs = present_cost_over zero m.terms cs

-- a bound step does what its action does
pub step_says : (task : TaskParts) (values : List (Term × Fraction)) (metric : Option Linear) (step : Step) (action : Action) (s : State) → Follows task values s
    → StepSays step action s (bound_step task values metric step action)
unfolding bound_step
step_says task values metric step action s h =
    by_needs (left_of_all (left_of_condition task values step.objects) action.needs)
    (conditions_say s (holds step.objects s) (left_of_condition task values step.objects) (condition_says task values step.objects s h) action.needs)
  where
    by_cost : (needs : List BoundCond) (net : Net) → all_hold step.objects s action.needs ≡ list_all (bound_holds s) needs → Does step.objects s no_effects action.effects net
        → (q : Result Fraction Finding) → Present q
        → StepSays step action s (and_then q (λ cost. Ok (record { step = step; needs = needs; adds = net.adds; deletes = net.deletes; changes = net.changes; cost = cost })))
    by_cost needs net e d (Ok c) p = record {
      applicable = rw (d.possible, e) (and-true (list_all (bound_holds s) needs));
      does = d;
    }
    by_cost needs net e d (Err n) p = never n _ p

    by_effects : (needs : List BoundCond) → all_hold step.objects s action.needs ≡ list_all (bound_holds s) needs
        → (q : Result Net Finding) → Comes step.objects s no_effects action.effects q
        → StepSays step action s (and_then q (λ net. and_then (cost_of_changes metric net.changes) (λ cost. Ok (record { step = step; needs = needs; adds = net.adds; deletes = net.deletes; changes = net.changes; cost = cost }))))
    by_effects needs e (Ok net) d = by_cost needs net e d (cost_of_changes metric net.changes) (present_cost metric net.changes)
    by_effects needs e (Err n) d = second_false n _ _ d

    by_needs : (q : Result (List BoundCond) Finding) → Says s (all_hold step.objects s action.needs) q
        → StepSays step action s (and_then q (λ needs. and_then (with_effects task values step.objects no_effects action.effects) (λ net. and_then (cost_of_changes metric net.changes) (λ cost. Ok (record { step = step; needs = needs; adds = net.adds; deletes = net.deletes; changes = net.changes; cost = cost })))))
    by_needs (Ok needs) e = by_effects needs e (with_effects task values step.objects no_effects action.effects) (effects_come task values step.objects s h no_effects action.effects)
    by_needs (Err n) e = first_false n _ _ e

-- ---- the state after

plus_some : (o : Option Fraction) (x : Fraction) → of_both plus o (Some x) ≡ option_map (λ v. plus v x) o
plus_some None x = refl
plus_some (Some v) x = refl

-- the state after is the same
pub same_after : (step : Step) (action : Action) (s : State) (b : BoundStep) → Takes step action s b → result_of action step.objects s ≡ bound_after b s
same_after step action s b h = λ i. record { has = λ a. (has_same a) i; value = λ t. (value_same t) i }
  where
    has_same : (a : model.Atom) → (result_of action step.objects s).has a ≡ (bound_after b s).has a
    has_same a = rw (h.does.added a, h.does.deleted a) refl

    value_same : (t : Term) → (result_of action step.objects s).value t ≡ (bound_after b s).value t
    value_same t = ap (of_both plus (s.value t)) (h.does.net t) ∙ plus_some (s.value t) (number_on b.changes t)

-- the value of each term after a step
pub value_after : (step : Step) (action : Action) (s : State) (b : BoundStep) → Takes step action s b → (t : Term) → value_in (bound_after b s) t ≡ plus (value_in s t) (number_on b.changes t)
value_after step action s b h t = by_value (s.value t) refl
  where
    no_net : s.value t ≡ None → zero ≡ number_on b.changes t
    no_net e = same_Some _ _ (ap (λ xs. fold (of_both plus) (Some zero) (map (amount_of step.objects s) xs)) (sym (nothing_changes step.objects s t action.effects h.does.possible e)) ∙ h.does.net t)

    by_value : (o : Option Fraction) → s.value t ≡ o → option_map_or (λ x. x) (option_map (λ v. plus v (number_on b.changes t)) o) zero ≡ plus (option_map_or (λ x. x) o zero) (number_on b.changes t)
    by_value None e = sym (plus-zero zero) ∙ ap (plus zero) (no_net e)
    by_value (Some v) e = refl

-- the state after a step still follows the start
pub follows_after : (task : TaskParts) (values : List (Term × Fraction)) (step : Step) (action : Action) (s : State) (b : BoundStep)
    → FixedIsStatic task names_predicate task.predicates → FixedIsStatic task names_function task.functions
    → slice_get task.actions step.action ≡ Some action → Takes step action s b → Follows task values s → Follows task values (bound_after b s)
follows_after task values step action s b fp ff at h f = record {
  keeps = record {
    missing = λ t e. ap (option_map (λ v. plus v (number_on b.changes t))) (f.keeps.missing t e);
    there = λ t x e. rw (f.keeps.there t x e) refl;
    static = λ t x fixed e. ap (option_map (λ v. plus v (number_on b.changes t))) (f.keeps.static t x fixed e) ∙ ap Some (ap (plus x) (sym (no_net t fixed)) ∙ plus-zero x);
  };
  atoms = λ a fixed. rw (h.does.added a ∙ not_added step.objects a action.effects (unnamed names_predicate task task.predicates fp a.predicate fixed step.action action at), h.does.deleted a ∙ not_deleted step.objects a action.effects (unnamed names_predicate task task.predicates fp a.predicate fixed step.action action at)) (and-true (s.has a) ∙ f.atoms a fixed);
}
  where
    no_net : (t : Term) → is_fixed task.functions t.function ≡ true → zero ≡ number_on b.changes t
    no_net t fixed =
        same_Some _ _ (ap (λ xs. fold (of_both plus) (Some zero) (map (amount_of step.objects s) xs)) (sym (not_changed step.objects t action.effects (unnamed names_function task task.functions ff t.function fixed step.action action at))) ∙ h.does.net t)

-- ---- costs

-- one more term
cost_more : (so_far k v n x y : Fraction) → plus (plus so_far (times k n)) (minus x y) ≡ plus so_far (minus (plus (times k (plus v n)) x) (plus (times k v) y))
cost_more so_far k v n x y =
    plus_assoc so_far (times k n) (minus x y)
    ∙ ap (plus so_far) (sym (common (times k v) (times k n) x y) ∙ ap (λ z. minus (plus z x) (plus (times k v) y)) (sym (times-plus k v n)))
  where
    common : (a b x y : Fraction) → minus (plus (plus a b) x) (plus a y) ≡ plus b (minus x y)
    common a b x y = field (rest (sum (sum (frac a) (frac b)) (frac x)) (sum (frac a) (frac y))) (sum (frac b) (rest (frac x) (frac y))) (omega arith)

-- the growth of a linear sum over a step
cost_grows : (so_far : Fraction) (xs cs : List (Term × Fraction)) (c : Fraction) (v w : Term → Fraction) → ((t : Term) → w t ≡ plus (v t) (number_on cs t))
    → cost_over so_far xs cs ≡ Ok c → c ≡ plus so_far (minus (terms_value w xs) (terms_value v xs))
cost_grows so_far [] cs c v w k e = sym (same_Ok so_far c e) ∙ sym (plus-zero so_far) ∙ ap (plus so_far) (field (int (pos 0)) (rest (int (pos 0)) (int (pos 0))) (omega arith))
cost_grows so_far (x ∷ xs) cs c v w k e =
    goes_on (checked_product false x.1 (number_on cs x.0)) _ c e (λ p one more.
    goes_on (checked_sum true so_far p) _ c more (λ q two is.
    cost_grows q xs cs c v w k is
    ∙ ap (λ z. plus z (minus (terms_value w xs) (terms_value v xs))) (sym (sum_is true so_far p q two) ∙ ap (plus so_far) (sym (product_is false x.1 (number_on cs x.0) p one)))
    ∙ cost_more so_far x.1 (v x.0) (number_on cs x.0) (terms_value w xs) (terms_value v xs)
    ∙ ap (λ z. plus so_far (minus (plus (times x.1 z) (terms_value w xs)) (plus (times x.1 (v x.0)) (terms_value v xs)))) (sym (k x.0))))

-- the constant changes nothing
cost_all : (a b k : Fraction) → plus zero (minus a b) ≡ minus (plus a k) (plus b k)
cost_all a b k = field (sum (int (pos 0)) (rest (frac a) (frac b))) (rest (sum (frac a) (frac k)) (sum (frac b) (frac k))) (omega arith)

-- the cost of a kept step is the growth of the metric
pub cost_says : (task : TaskParts) (values : List (Term × Fraction)) (metric : Option Linear) (step : Step) (action : Action) (s : State) (b : BoundStep) (c : Fraction)
    → Follows task values s → Follows task values (bound_after b s) → Takes step action s b
    → (m : Option Sum) → linear_metric task values m ≡ Ok metric → cost_of_changes metric b.changes ≡ Ok c → cost_between m s (bound_after b s) ≡ Some c
cost_says task values metric step action s b c f g h None e k = ap Some (same_Ok _ _ (ap (λ o. cost_of_changes o b.changes) (same_Ok None metric e) ∙ k))
cost_says task values metric step action s b c f g h (Some m) e k =
    goes_on (linear_of task.functions values [] m) _ metric e (λ l is same.
    let before : value_of [] s m ≡ Some (linear_value (value_in s) l) = meant (value_in s) (value_of [] s m) (linear_of task.functions values [] m) l (linear_means task.functions values [] s f.keeps m) is in
    let after : value_of [] (bound_after b s) m ≡ Some (linear_value (value_in (bound_after b s)) l) = meant (value_in (bound_after b s)) (value_of [] (bound_after b s) m) (linear_of task.functions values [] m) l (linear_means task.functions values [] (bound_after b s) g.keeps m) is in
    rw (before, after) (ap Some (sym (
    cost_grows zero l.terms b.changes c (value_in s) (value_in (bound_after b s)) (value_after step action s b h) (ap (λ o. cost_of_changes o b.changes) (same_Ok (Some l) metric same) ∙ k)
    ∙ cost_all (terms_value (value_in (bound_after b s)) l.terms) (terms_value (value_in s) l.terms) l.constant))))
  where
    meant : (v : Term → Fraction) (o : Option Fraction) (r : Result Linear Finding) (l : Linear) → Means v o r → r ≡ Ok l → o ≡ Some (linear_value v l)
    meant v o r l mean e = subst (λ (q : Result Linear Finding). Means v o q) e mean

-- what a bound step comes from
pub record IsStepOf (task : TaskParts) (values : List (Term × Fraction)) (metric : Option Linear) (step : Step) (action : Action) (b : BoundStep) : Type 0 where
  pub names : b.step ≡ step
  pub needs : left_of_all (left_of_condition task values step.objects) action.needs ≡ Ok b.needs
  pub effects : with_effects task values step.objects no_effects action.effects ≡ Ok (record { adds = b.adds; deletes = b.deletes; changes = b.changes })
  pub costs : cost_of_changes metric b.changes ≡ Ok b.cost

pub is_step_of : (task : TaskParts) (values : List (Term × Fraction)) (metric : Option Linear) (step : Step) (action : Action) (b : BoundStep)
    → bound_step task values metric step action ≡ Ok b → IsStepOf task values metric step action b
unfolding bound_step
is_step_of task values metric step action b e =
    goes_on (left_of_all (left_of_condition task values step.objects) action.needs) _ b e (λ needs one more.
    goes_on (with_effects task values step.objects no_effects action.effects) _ b more (λ net two rest_is.
    goes_on (cost_of_changes metric net.changes) _ b rest_is (λ cost three is.
    let same : record { step = step; needs = needs; adds = net.adds; deletes = net.deletes; changes = net.changes; cost = cost } ≡ b = same_Ok _ b is in
    record {
      names = ap (λ x. x.step) (sym same);
      needs = one ∙ ap (λ (x : BoundStep). Ok x.needs) same;
      effects = two ∙ ap (λ (x : BoundStep). Ok (record { adds = x.adds; deletes = x.deletes; changes = x.changes })) same;
      costs = ap (λ (x : BoundStep). cost_of_changes metric x.changes) (sym same) ∙ three ∙ ap (λ (x : BoundStep). Ok x.cost) same;
    })))
