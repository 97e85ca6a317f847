-- A list of steps comes to one end at most.
use Rattle.std.proofs.Common.{◌≡◌, ℕ, zero, suc, ◌+◌, ◌<◌, true, false, inl, inr, List, [], ◌∷◌, map, take, Option, Some, refl, sym, ap, ◌∙◌, subst, true≢false, arith}
use Rattle.std.specs.Prelude.{slice_get}
use Rattle.std.specs.Option.{option_map_or, option_and_then}
use Rattle.std.proofs.lemmas.Bool.{cases_order}
use Rattle.std.proofs.lemmas.List.{take-map}
use Rattle.std.proofs.lemmas.Option.{none-some, same_Some, option_and_then_some, cond_some}
use Rattle.np_model.specs.declared.task.Step.{Step}
use Rattle.np_flat.specs.declared.state.FlatState.{FlatState}
use Rattle.np_flat.specs.declared.parts.FlatStep.{FlatStep}
use Rattle.np_flat.specs.declared.parts.Parts.{Parts}
use Rattle.np_flat.specs.Flats.{IsFlat}
use Rattle.np_flat.specs.States.{is_goal, meets, is_applicable, state_after, next}
use Rattle.np_flat.specs.Plans.{run_from, cost_sum, step_at, IsPlan}
use Rattle.np_check.specs.declared.plan_end.PlanEnd.{PlanEnd}
use Rattle.np_check.specs.declared.plan_end.PlanEnd.TheVariants.{Goal, NoGoal, Stuck}
use Rattle.np_check.specs.PlanEnds.{RunsTo, IsNoPlan, IsStuckAt, IsPlanEnd}
use Rattle.np_check.proofs.StepNumbers.{one_number}

head_is : (a b : Option Step) (xs ys : List (Option Step)) → a ∷ xs ≡ b ∷ ys → a ≡ b
head_is a b xs ys e = cc

tail_is : (a b : Option Step) (xs ys : List (Option Step)) → a ∷ xs ≡ b ∷ ys → xs ≡ ys
tail_is a b xs ys e = cc

none_are : (x : Option Step) (xs : List (Option Step)) → [] ≡ x ∷ xs → ⊥
none_are x xs e = absurd cc

-- a step that is taken is applicable
applicable_next : (task : Parts) (n : ℕ) (s t : FlatState) → next task n s ≡ Some t → is_applicable task s n ≡ true
applicable_next task n s t e =
    option_and_then_some _ (slice_get task.steps n) t e
    (λ step at made. ap (λ (o : Option FlatStep). option_map_or (meets task s) o false) at ∙ (cond_some (meets task s step) (state_after step s) t made).0)

-- the numbers of steps are the only ones
one_list : (task : Parts) (ns ms : List ℕ) (steps : List Step) → IsFlat task → map (step_at task) ns ≡ map Some steps → map (step_at task) ms ≡ map Some steps → ns ≡ ms
one_list task [] [] steps flat e f = refl
one_list task [] (m ∷ ms) [] flat e f = absurd (none_are _ _ (sym f))
one_list task [] ms (x ∷ xs) flat e f = absurd (none_are _ _ e)
one_list task (n ∷ ns) ms [] flat e f = absurd (none_are _ _ (sym e))
one_list task (n ∷ ns) [] (x ∷ xs) flat e f = absurd (none_are _ _ f)
one_list task (n ∷ ns) (m ∷ ms) (x ∷ xs) flat e f =
    let first : n ≡ m = one_number task n m x flat (head_is _ _ _ _ e) (head_is _ _ _ _ f) in
    let rest : ns ≡ ms = one_list task ns ms xs flat (tail_is _ _ _ _ e) (tail_is _ _ _ _ f) in
    λ i. first i ∷ rest i

-- so steps run to one state
one_state : (task : Parts) (steps : List Step) (s t : FlatState) → IsFlat task → RunsTo task steps s → RunsTo task steps t → s ≡ t
one_state task steps s t flat a b =
    same_Some s t (sym a.runs ∙ ap (λ (ns : List ℕ). run_from task ns task.start) (one_list task a.numbers b.numbers steps flat a.steps_are b.steps_are) ∙ b.runs)

-- a step in a run is applicable where those before it run to
record Passes (task : Parts) (s : FlatState) (numbers : List ℕ) (i : ℕ) (step : Step) : Type 0 where
  number : ℕ
  stands : step_at task number ≡ Some step
  state : FlatState
  runs : run_from task (take i numbers) s ≡ Some state
  applicable : is_applicable task state number ≡ true

passes : (task : Parts) (numbers : List ℕ) (steps : List Step) (s t : FlatState) (i : ℕ) (step : Step) → map (step_at task) numbers ≡ map Some steps → run_from task numbers s ≡ Some t → slice_get steps i ≡ Some step → Passes task s numbers i step
passes task [] [] s t i step e runs there = absurd (none-some step there)
passes task [] (x ∷ xs) s t i step e runs there = absurd (none_are _ _ e)
passes task (n ∷ ns) [] s t i step e runs there = absurd (none_are _ _ (sym e))
passes task (n ∷ ns) (x ∷ xs) s t zero step e runs there =
    option_and_then_some (run_from task ns) (next task n s) t runs
    (λ u first rest. record {
      number = n;
      stands = head_is _ _ _ _ e ∙ there;
      state = s;
      runs = refl;
      applicable = applicable_next task n s u first;
    })
passes task (n ∷ ns) (x ∷ xs) s t (suc i) step e runs there =
    option_and_then_some (run_from task ns) (next task n s) t runs
    (λ u first rest.
    let later = passes task ns xs u t i step (tail_is _ _ _ _ e) rest there in
    record {
      number = later.number;
      stands = later.stands;
      state = later.state;
      runs = ap (option_and_then (run_from task (take i ns))) first ∙ later.runs;
      applicable = later.applicable;
    })

-- where steps run, none of them is stuck
never_stuck : (task : Parts) (steps : List Step) (t : FlatState) (number : ℕ) → IsFlat task → RunsTo task steps t → IsStuckAt task steps number → ⊥
never_stuck task steps t number flat run at =
    let i = at.before in
    let there = passes task run.numbers steps task.start t i at.step run.steps_are run.runs at.there in
    let begun : RunsTo task (take i steps) there.state = record {
      numbers = take i run.numbers;
      steps_are = sym (take-map (step_at task) i run.numbers) ∙ ap (take i) run.steps_are ∙ take-map Some i steps;
      runs = there.runs;
    } in
    let same = one_state task (take i steps) there.state at.state flat begun at.runs in
    true≢false (sym there.applicable ∙ ap (λ (s : FlatState). is_applicable task s there.number) same ∙ at.stuck there.number there.stands)

take_shorter : {A : Type 0} (xs : List A) (i j : ℕ) → i < j → take i (take j xs) ≡ take i xs
take_shorter [] zero zero lt = refl
take_shorter [] zero (suc j) lt = refl
take_shorter [] (suc i) zero lt = refl
take_shorter [] (suc i) (suc j) lt = refl
take_shorter (x ∷ xs) zero zero lt = refl
take_shorter (x ∷ xs) zero (suc j) lt = refl
take_shorter (x ∷ xs) (suc i) zero lt = absurd (omega arith)
take_shorter (x ∷ xs) (suc i) (suc j) lt = ap (λ ys. x ∷ ys) (take_shorter xs i j (omega arith))

get_shorter : {A : Type 0} (xs : List A) (i j : ℕ) → i < j → slice_get (take j xs) i ≡ slice_get xs i
get_shorter [] i zero lt = absurd (omega arith)
get_shorter [] i (suc j) lt = refl
get_shorter (x ∷ xs) i zero lt = absurd (omega arith)
get_shorter (x ∷ xs) zero (suc j) lt = refl
get_shorter (x ∷ xs) (suc i) (suc j) lt = get_shorter xs i j (omega arith)

-- a step before the one that is stuck isn't stuck
not_earlier : (task : Parts) (steps : List Step) (m n : ℕ) → IsFlat task → (a : IsStuckAt task steps m) (b : IsStuckAt task steps n) → a.before < b.before → ⊥
not_earlier task steps m n flat a b lt =
    never_stuck task (take b.before steps) b.state m flat b.runs record {
      before = a.before;
      number_is = a.number_is;
      step = a.step;
      there = get_shorter steps a.before b.before lt ∙ a.there;
      state = a.state;
      runs = subst (λ (xs : List Step). RunsTo task xs a.state) (sym (take_shorter steps a.before b.before lt)) a.runs;
      stuck = a.stuck;
    }

one_stuck : (task : Parts) (steps : List Step) (m n : ℕ) → IsFlat task → IsStuckAt task steps m → IsStuckAt task steps n → m ≡ n
one_stuck task steps m n flat a b =
    elim (cases_order a.before b.before) [
      | inl same ↦ a.number_is ∙ ap (λ k. k + 1) same ∙ sym b.number_is
      | inr (inl lt) ↦ absurd (not_earlier task steps m n flat a b lt)
      | inr (inr lt) ↦ absurd (not_earlier task steps n m flat b a lt)
    ]

plan_runs : (task : Parts) (steps : List Step) (cost : ℕ) → (p : IsPlan task steps cost) → RunsTo task steps p.leads.end
plan_runs task steps cost p = record { numbers = p.numbers; steps_are = p.steps_are; runs = p.leads.runs }

goal_or_not : (task : Parts) (steps : List Step) (cost : ℕ) → IsFlat task → IsPlan task steps cost → IsNoPlan task steps → ⊥
goal_or_not task steps cost flat p q =
    true≢false (sym p.leads.goal ∙ ap (is_goal task) (one_state task steps p.leads.end q.end flat (plan_runs task steps cost p) q.runs) ∙ q.no_goal)

pub one_plan_end : (task : Parts) (steps : List Step) (e f : PlanEnd) → IsFlat task → IsPlanEnd task steps e → IsPlanEnd task steps f → e ≡ f
one_plan_end task steps (Goal c) (Goal d) flat p q =
    ap Goal (p.costs ∙ ap (cost_sum task) (one_list task p.numbers q.numbers steps flat p.steps_are q.steps_are) ∙ sym q.costs)
one_plan_end task steps (Goal c) NoGoal flat p q = absurd (goal_or_not task steps c flat p q)
one_plan_end task steps (Goal c) (Stuck n) flat p q = absurd (never_stuck task steps p.leads.end n flat (plan_runs task steps c p) q)
one_plan_end task steps NoGoal (Goal d) flat p q = absurd (goal_or_not task steps d flat q p)
one_plan_end task steps NoGoal NoGoal flat p q = refl
one_plan_end task steps NoGoal (Stuck n) flat p q = absurd (never_stuck task steps p.end n flat p.runs q)
one_plan_end task steps (Stuck m) (Goal d) flat p q = absurd (never_stuck task steps q.leads.end m flat (plan_runs task steps d q) p)
one_plan_end task steps (Stuck m) NoGoal flat p q = absurd (never_stuck task steps q.end m flat q.runs p)
one_plan_end task steps (Stuck m) (Stuck n) flat p q = ap Stuck (one_stuck task steps m n flat p q)
