-- Which bound step a step has.
use Rattle.std.proofs.Common.{◌≡◌, ℕ, zero, suc, ◌+◌, Bool, true, false, refl, sym, ◌∙◌, ap, subst, arith, List, [], ◌∷◌, ◌++◌, Some, None, Ok, Err, Option, Result, true≢false}
use Rattle.std.specs.Prelude.{◌||◌, nat_lt, length, if◌then◌else◌, cond, slice_get}
use Rattle.std.specs.Option.{option_or}
use Rattle.std.specs.List.{list_any}
use Rattle.std.specs.Result.{result_ok}
use Rattle.std.proofs.lemmas.Option.{same_Some}
use Rattle.np_frac.specs.Fractions.{Fraction}
use Rattle.np_model.specs.declared.task.Term.{Term}
use Rattle.np_model.specs.declared.task.Action.{Action}
use Rattle.np_model.specs.declared.task.Step.{Step}
use Rattle.np_model.specs.declared.task.TaskParts.{TaskParts}
use Rattle.np_model.specs.Ground.{same_step, same_step-Decides}
use Rattle.np_linear.specs.declared.linear.Linear.{Linear}
use Rattle.np_linear.specs.declared.finding.Finding.{Finding}
use Rattle.np_linear.specs.declared.finding.Finding.TheVariants.{Fails, Missing, NotLinear, Wide}
use Rattle.np_linear.proofs.Chains.{goes_on, same_Ok, cause_answers}
use Rattle.np_bind.specs.declared.limits.TheConstants.{MOST_STEPS}
use Rattle.np_bind.specs.declared.bound.BoundStep.{BoundStep}
use Rattle.np_bind.specs.declared.bound.BindFault.{BindFault}
use Rattle.np_bind.specs.declared.bound.BindFault.TheVariants.{TooManySteps}
use Rattle.np_bind.specs.Grounding.{bound_step}
use Rattle.np_bind.specs.BoundPlans.{step_among}
use Rattle.np_bind.specs.Bindings.{bindings, steps_of_action, steps_from}
use Rattle.np_bind.specs.Binding.{with_tried, kept_from}
use Rattle.np_bind.proofs.StepsTaken.{is_step_of}
use Rattle.np_bind.proofs.Enumeration.{is_of, with_objects}

-- a finding that only drops
abbrev pub IsDrop : Finding → Type 0
IsDrop Fails = Unit {0}
IsDrop Missing = Unit {0}
IsDrop NotLinear = ⊥
IsDrop Wide = ⊥

-- an answer that is no fault
abbrev pub Settled : Result BoundStep Finding → Type 0
Settled (Ok b) = Unit {0}
Settled (Err e) = IsDrop e

-- how kept steps come about
pub kept_cases : {P : Type 0} (kept : List BoundStep) (step : Step) (r : Result BoundStep Finding) (bs : List BoundStep) → with_tried kept step r ≡ Ok bs
    → ((b : BoundStep) → r ≡ Ok b → nat_lt (length kept) MOST_STEPS ≡ true → kept ++ b ∷ [] ≡ bs → P)
    → ((e : Finding) → r ≡ Err e → IsDrop e → kept ≡ bs → P) → P
kept_cases {P} kept step (Ok b) bs e k j = by_room (nat_lt (length kept) MOST_STEPS) refl e
  where
    by_room : (room : Bool) → nat_lt (length kept) MOST_STEPS ≡ room → ◌≡◌ {A = Result (List BoundStep) BindFault} (if room then Ok (kept ++ b ∷ []) else Err TooManySteps) (Ok bs) → P
    by_room true there e = k b refl there (same_Ok (kept ++ b ∷ []) bs e)
    by_room false there e = cause_answers _ bs e
kept_cases kept step (Err Fails) bs e k j = j Fails refl tt (same_Ok kept bs e)
kept_cases kept step (Err Missing) bs e k j = j Missing refl tt (same_Ok kept bs e)
kept_cases kept step (Err NotLinear) bs e k j = cause_answers _ bs e
kept_cases kept step (Err Wide) bs e k j = cause_answers _ bs e

-- each step is paired with its action
abbrev pub Named : TaskParts → List (Step × Action) → Type 0
Named task [] = Unit {0}
Named task (x ∷ xs) = (slice_get task.actions x.0.action ≡ Some x.1) × Named task xs

named_append : (task : TaskParts) (xs ys : List (Step × Action)) → Named task xs → Named task ys → Named task (xs ++ ys)
named_append task [] ys p q = q
named_append task (x ∷ xs) ys p q = (p.0, named_append task xs ys p.1 q)

named_map : (task : TaskParts) (k : ℕ) (action : Action) (lists : List (List ℕ)) → slice_get task.actions k ≡ Some action → Named task (with_objects k action lists)
named_map task k action [] e = tt
named_map task k action (l ∷ lists) e = (e, named_map task k action lists e)

named_from : (task : TaskParts) (k : ℕ) (actions : List Action) → ((n : ℕ) → slice_get task.actions (n + k) ≡ slice_get actions n) → Named task (steps_from task k actions)
named_from task k [] h = tt
named_from task k (a ∷ actions) h =
    named_append task (steps_of_action task k a) (steps_from task (suc k) actions)
    (named_map task k a (bindings task a.parameters) (ap (slice_get task.actions) at ∙ h zero))
    (named_from task (suc k) actions (λ n. ap (slice_get task.actions) (moved n) ∙ h (suc n)))
  where
    at : k ≡ zero + k
    at = omega arith

    moved : (n : ℕ) → n + suc k ≡ suc n + k
    moved n = omega arith

pub all_named : (task : TaskParts) → Named task (steps_from task 0 task.actions)
all_named task = named_from task 0 task.actions (λ n. ap (slice_get task.actions) (omega arith))

-- what is kept of a step
abbrev pub answer : TaskParts → List (Term × Fraction) → Option Linear → Step → Option Action → Option BoundStep
answer task values metric step None = None
answer task values metric step (Some action) = result_ok (bound_step task values metric step action)

-- of a step that is among those that are tried
abbrev pub kept_of : TaskParts → List (Term × Fraction) → Option Linear → Step → List (Step × Action) → Option BoundStep
kept_of task values metric step xs = if list_any (is_of step) xs then answer task values metric step (slice_get task.actions step.action) else None

-- and of the step of a pair
answer_of : (task : TaskParts) (values : List (Term × Fraction)) (metric : Option Linear) (step : Step) (x : Step × Action) (r : Result BoundStep Finding)
    → same_step step x.0 ≡ true → slice_get task.actions x.0.action ≡ Some x.1 → bound_step task values metric x.0 x.1 ≡ r
    → answer task values metric step (slice_get task.actions step.action) ≡ result_ok r
answer_of task values metric step x r same named is =
    ap (λ y. answer task values metric y (slice_get task.actions y.action)) ((same_step-Decides step x.0).0 same)
    ∙ ap (answer task values metric x.0) named ∙ ap result_ok is

-- one more bound step
pub among_more : (kept : List BoundStep) (b : BoundStep) (step : Step) → step_among (kept ++ b ∷ []) step ≡ option_or (step_among kept step) (cond (same_step step b.step) (Some b) None)
among_more [] b step = refl
among_more (x ∷ xs) b step = by_first (same_step step x.step) (among_more xs b step)
  where
    by_first : (c : Bool) → step_among (xs ++ b ∷ []) step ≡ option_or (step_among xs step) (cond (same_step step b.step) (Some b) None)
        → cond c (Some x) (step_among (xs ++ b ∷ []) step) ≡ option_or (cond c (Some x) (step_among xs step)) (cond (same_step step b.step) (Some b) None)
    by_first true e = refl
    by_first false e = e

-- the bound step of a step is what is kept of it
pub kept_among : (task : TaskParts) (values : List (Term × Fraction)) (metric : Option Linear) (step : Step) (xs : List (Step × Action)) → Named task xs → (kept bs : List BoundStep)
    → kept_from task values metric kept xs ≡ Ok bs
    → step_among bs step ≡ option_or (step_among kept step) (kept_of task values metric step xs)
kept_among task values metric step [] named kept bs e = ap (λ z. step_among z step) (sym (same_Ok kept bs e)) ∙ or_none (step_among kept step)
  where
    or_none : (o : Option BoundStep) → o ≡ option_or o None
    or_none None = refl
    or_none (Some b) = refl
kept_among task values metric step (x ∷ xs) named kept bs e =
    goes_on (with_tried kept x.0 (bound_step task values metric x.0 x.1)) (λ more. kept_from task values metric more xs) bs e (λ next one two.
    kept_among task values metric step xs named.1 next bs two
    ∙ kept_cases kept x.0 (bound_step task values metric x.0 x.1) next one
    (λ b is room made.
    ap (λ z. option_or (step_among z step) (kept_of task values metric step xs)) (sym made)
    ∙ ap (λ o. option_or o (kept_of task values metric step xs)) (among_more kept b step)
    ∙ ap (λ z. option_or (option_or (step_among kept step) (cond (same_step step z) (Some b) None)) (kept_of task values metric step xs)) ((is_step_of task values metric x.0 x.1 b is).names)
    ∙ by_kept b (same_step step x.0) refl is (step_among kept step))
    (λ n is drop made.
    ap (λ z. option_or (step_among z step) (kept_of task values metric step xs)) (sym made)
    ∙ ap (option_or (step_among kept step)) (by_dropped n (same_step step x.0) refl is)))
  where
    either : (b : BoundStep) (c : Bool) (o p : Option BoundStep) → p ≡ Some b → option_or (option_or o (Some b)) (if c then p else None) ≡ option_or o p
    either b c None p e = sym e
    either b c (Some d) p e = refl

    none_in : (o p : Option BoundStep) → option_or (option_or o None) p ≡ option_or o p
    none_in None p = refl
    none_in (Some d) p = refl

    by_kept : (b : BoundStep) (same : Bool) → same_step step x.0 ≡ same → bound_step task values metric x.0 x.1 ≡ Ok b → (o : Option BoundStep)
        → option_or (option_or o (cond same (Some b) None)) (kept_of task values metric step xs)
        ≡ option_or o (if same || list_any (is_of step) xs then answer task values metric step (slice_get task.actions step.action) else None)
    by_kept b true same is o = either b (list_any (is_of step) xs) o _ (answer_of task values metric step x (Ok b) same named.0 is)
    by_kept b false same is o = none_in o _

    none_both : (c : Bool) (o : Option BoundStep) → o ≡ None → (if c then o else None) ≡ o
    none_both true o e = refl
    none_both false o e = sym e

    by_dropped : (n : Finding) (same : Bool) → same_step step x.0 ≡ same → bound_step task values metric x.0 x.1 ≡ Err n
        → (kept_of task values metric step xs) ≡ (if same || list_any (is_of step) xs then answer task values metric step (slice_get task.actions step.action) else None)
    by_dropped n true same is = none_both (list_any (is_of step) xs) _ (answer_of task values metric step x (Err n) same named.0 is)
    by_dropped n false same is = refl

-- no step that is tried is a fault
pub kept_settled : (task : TaskParts) (values : List (Term × Fraction)) (metric : Option Linear) (step : Step) (action : Action) (xs : List (Step × Action)) → Named task xs → (kept bs : List BoundStep)
    → kept_from task values metric kept xs ≡ Ok bs → slice_get task.actions step.action ≡ Some action → list_any (is_of step) xs ≡ true → Settled (bound_step task values metric step action)
kept_settled task values metric step action [] named kept bs e at any = absurd (true≢false (sym any))
kept_settled task values metric step action (x ∷ xs) named kept bs e at any =
    goes_on (with_tried kept x.0 (bound_step task values metric x.0 x.1)) (λ more. kept_from task values metric more xs) bs e (λ next one two.
    by_same (same_step step x.0) refl any
    (kept_cases kept x.0 (bound_step task values metric x.0 x.1) next one
    (λ b is room made. subst (λ (r : Result BoundStep Finding). Settled r) (sym is) tt)
    (λ n is drop made. subst (λ (r : Result BoundStep Finding). Settled r) (sym is) drop))
    (λ later. kept_settled task values metric step action xs named.1 next bs two at later))
  where
    by_same : (same : Bool) → same_step step x.0 ≡ same → (same || list_any (is_of step) xs) ≡ true → Settled (bound_step task values metric x.0 x.1)
        → (list_any (is_of step) xs ≡ true → Settled (bound_step task values metric step action)) → Settled (bound_step task values metric step action)
    by_same true same any settled later =
        let equal : step ≡ x.0 = (same_step-Decides step x.0).0 same in
        subst (λ (q : Result BoundStep Finding). Settled q)
        (ap (bound_step task values metric x.0) (same_Some x.1 action (sym named.0 ∙ ap (λ y. slice_get task.actions y.action) (sym equal) ∙ at))
        ∙ ap (λ y. bound_step task values metric y action) (sym equal)) settled
    by_same false same any settled later = later any
