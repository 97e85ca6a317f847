-- The kept steps are few, proper, and stand for different steps of the task.
use Rattle.std.proofs.Common.{◌≡◌, ◌≢◌, ℕ, zero, suc, ◌+◌, ◌<◌, ◌≤◌, Bool, true, false, refl, sym, ◌∙◌, ap, subst, arith, List, [], ◌∷◌, ◌++◌, length, map, get_or, Some, None, Ok, Option}
use Rattle.std.specs.Prelude.{◌||◌, nat_lt, cond, All}
use Rattle.std.specs.Option.{option_or}
use Rattle.std.specs.List.{list_any}
use Rattle.std.proofs.lemmas.Bool.{both_ways, ltb-true}
use Rattle.std.proofs.lemmas.List.{length-append, map-append}
use Rattle.std.proofs.lemmas.List.Elements.{All-nil, All-push}
use Rattle.std.proofs.lemmas.List.Quantifiers.{all_pairs_push}
use Rattle.std.proofs.lemmas.Option.{none-some}
use Rattle.np_frac.specs.Fractions.{Fraction}
use Rattle.np_model.specs.declared.task.Term.{Term}
use Rattle.np_model.specs.declared.task.Action.{Action}
use Rattle.np_model.specs.declared.task.Step.{Step}
use Rattle.np_model.specs.declared.task.TaskParts.{TaskParts}
use Rattle.np_model.specs.Ground.{same_step, same_step-Decides}
use Rattle.np_model.specs.Tasks.{AreDistinct}
use Rattle.np_model.proofs.Distinct.{distinct_none}
use Rattle.np_linear.specs.declared.linear.Linear.{Linear}
use Rattle.np_linear.proofs.Chains.{goes_on, same_Ok}
use Rattle.np_bind.specs.declared.limits.TheConstants.{MOST_STEPS}
use Rattle.np_bind.specs.declared.bound.BoundStep.{BoundStep}
use Rattle.np_bind.specs.BoundTasks.{IsKept}
use Rattle.np_bind.specs.BoundPlans.{step_among}
use Rattle.np_bind.specs.Grounding.{bound_step}
use Rattle.np_bind.specs.Bindings.{steps_from}
use Rattle.np_bind.specs.Binding.{with_tried, kept_from}
use Rattle.np_bind.proofs.StepsTaken.{IsStepOf, is_step_of}
use Rattle.np_bind.proofs.Enumeration.{is_of}
use Rattle.np_bind.proofs.TriedOnce.{Once, is_same, steps_once}
use Rattle.np_bind.proofs.KeptSteps.{kept_cases, among_more}
use Rattle.np_bind.proofs.Proper.{proper_step}

-- ---- steps that aren't kept yet

is_no : (b : Bool) → (b ≡ true → ⊥) → b ≡ false
is_no true f = absurd (f refl)
is_no false f = refl

other_way : (a b : Step) → same_step a b ≡ false → same_step b a ≡ false
other_way a b e = is_no (same_step b a) (λ same. both_ways (same_step a b) e ((same_step-Decides a b).1 (sym ((same_step-Decides b a).0 same))))

first_no : (p q : Bool) → (p || q) ≡ false → p ≡ false
first_no true q e = e
first_no false q e = refl

second_no : (p q : Bool) → (p || q) ≡ false → q ≡ false
second_no true q e = absurd (both_ways true e refl)
second_no false q e = e

-- none of the steps is kept yet
abbrev Fresh : List BoundStep → List (Step × Action) → Type 0
Fresh kept [] = Unit {0}
Fresh kept (x ∷ xs) = (step_among kept x.0 ≡ None) × Fresh kept xs

fresh_more : (kept : List BoundStep) (b : BoundStep) (xs : List (Step × Action)) → Fresh kept xs → list_any (is_of b.step) xs ≡ false → Fresh (kept ++ b ∷ []) xs
fresh_more kept b [] f e = tt
fresh_more kept b (x ∷ xs) f e = (
  among_more kept b x.0 ∙ ap (λ o. option_or o (cond (same_step x.0 b.step) (Some b) None)) f.0 ∙ ap (λ c. cond c (Some b) None) (other_way b.step x.0 (first_no _ _ e)),
  fresh_more kept b xs f.1 (second_no _ _ e),
)

all_fresh : (xs : List (Step × Action)) → Fresh [] xs
all_fresh [] = tt
all_fresh (x ∷ xs) = (refl, all_fresh xs)

-- a step without a bound step is none of theirs
pub absent : (bs : List BoundStep) (step : Step) → step_among bs step ≡ None → (k : ℕ) (d : Step) → k < length (map (λ b. b.step) bs) → get_or (map (λ b. b.step) bs) k d ≢ step
absent [] step e k d less same = absurd (omega arith)
absent (b ∷ bs) step e k d less same = by (same_step step b.step) refl (λ g. absent bs step g) k less same e
  where
    by : (c : Bool) → same_step step b.step ≡ c → (step_among bs step ≡ None → (k : ℕ) (d : Step) → k < length (map (λ x. x.step) bs) → get_or (map (λ x. x.step) bs) k d ≢ step)
        → (k : ℕ) → k < length (map (λ x. x.step) (b ∷ bs)) → get_or (map (λ x. x.step) (b ∷ bs)) k d ≡ step → cond c (Some b) (step_among bs step) ≡ None → ⊥
    by true is later k less same e = none-some b (sym e)
    by false is later zero less same e = both_ways (same_step step b.step) is ((same_step-Decides step b.step).1 (sym same))
    by false is later (suc k) less same e = later e k d (omega arith) same

-- ---- the kept steps

-- at most 2^16 steps, each proper, of different steps of the task
pub record AreKept (values : List (Term × Fraction)) (bs : List BoundStep) : Type 0 where
  pub few : length bs ≤ MOST_STEPS
  pub once : AreDistinct (map (λ b. b.step) bs)
  pub steps : All (IsKept values) bs

none_kept : (values : List (Term × Fraction)) → AreKept values []
none_kept values = record { few = omega arith; once = distinct_none; steps = All-nil (IsKept values) }

kept_more : (values : List (Term × Fraction)) (kept : List BoundStep) (b : BoundStep) → nat_lt (length kept) MOST_STEPS ≡ true → step_among kept b.step ≡ None → IsKept values b
    → AreKept values kept → AreKept values (kept ++ b ∷ [])
kept_more values kept b room new proper h =
    let less : length kept < MOST_STEPS = ltb-true (length kept) MOST_STEPS room in
    let longer : length (kept ++ b ∷ []) ≡ length kept + 1 = length-append kept (b ∷ []) in
    record {
      few = omega arith;
      once = subst AreDistinct (sym (map-append (λ (x : BoundStep). x.step) kept (b ∷ [])))
          (all_pairs_push (λ x y. x ≢ y) (map (λ x. x.step) kept) b.step h.once (λ k d less. absent kept b.step new k d less));
      steps = All-push (IsKept values) kept b h.steps proper;
    }

kept_all : (task : TaskParts) (values : List (Term × Fraction)) (metric : Option Linear) (xs : List (Step × Action)) → Once is_same xs → (kept bs : List BoundStep) → AreKept values kept → Fresh kept xs
    → kept_from task values metric kept xs ≡ Ok bs → AreKept values bs
kept_all task values metric [] once kept bs h f e = subst (λ (ks : List BoundStep). AreKept values ks) (same_Ok kept bs e) h
kept_all task values metric (x ∷ xs) once kept bs h f e =
    goes_on (with_tried kept x.0 (bound_step task values metric x.0 x.1)) (λ more. kept_from task values metric more xs) bs e (λ next one two.
    kept_cases kept x.0 (bound_step task values metric x.0 x.1) next one
    (λ b is room made.
    let from : IsStepOf task values metric x.0 x.1 b = is_step_of task values metric x.0 x.1 b is in
    kept_all task values metric xs once.1 next bs
    (subst (λ (ks : List BoundStep). AreKept values ks) made (kept_more values kept b room (ap (step_among kept) from.names ∙ f.0) (proper_step task values metric x.0 x.1 b from) h))
    (subst (λ (ks : List BoundStep). Fresh ks xs) made (fresh_more kept b xs f.1 (ap (λ s. list_any (is_of s) xs) from.names ∙ once.0))) two)
    (λ n is drop made.
    kept_all task values metric xs once.1 next bs
    (subst (λ (ks : List BoundStep). AreKept values ks) made h)
    (subst (λ (ks : List BoundStep). Fresh ks xs) made f.1) two))

-- the steps of a bound task
pub steps_are_kept : (task : TaskParts) (values : List (Term × Fraction)) (metric : Option Linear) (bs : List BoundStep)
    → kept_from task values metric [] (steps_from task 0 task.actions) ≡ Ok bs → AreKept values bs
steps_are_kept task values metric bs e =
    kept_all task values metric (steps_from task 0 task.actions) (steps_once task 0 task.actions) [] bs (none_kept values) (all_fresh (steps_from task 0 task.actions)) e
