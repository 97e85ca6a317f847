-- Bindings tried one object after another.
use Rattle.std.proofs.Common.{◌≡◌, ℕ, suc, ◌+◌, ◌*◌, ◌<◌, ◌≤◌, refl, sym, ◌∙◌, ap, arith, List, [], ◌∷◌, ◌++◌, map, take, drop, length, Ok, Err, Option, Result, append_assoc, append-nil, length-append}
use Rattle.std.specs.Prelude.{slice_index, slice_index_or, min}
use Rattle.std.specs.List.{flat_map}
use Rattle.std.proofs.lemmas.List.{map-append, take-take, length-map}
use Rattle.std.proofs.Math.Seq.{take-append_seam, drop-cons}
use Rattle.np_frac.specs.Fractions.{Fraction}
use Rattle.np_model.specs.declared.task.Term.{Term}
use Rattle.np_model.specs.declared.task.Action.{Action}
use Rattle.np_model.specs.declared.task.Step.{Step}
use Rattle.np_model.specs.declared.task.TaskParts.{TaskParts}
use Rattle.np_linear.specs.declared.linear.Linear.{Linear}
use Rattle.np_linear.specs.Answers.{and_then}
use Rattle.np_linear.proofs.Places.{drop_at}
use Rattle.np_bind.specs.declared.bound.BoundStep.{BoundStep}
use Rattle.np_bind.specs.declared.bound.BoundCond.{BoundCond}
use Rattle.np_bind.specs.declared.bound.BoundParts.{BoundParts}
use Rattle.np_bind.specs.declared.bound.Spot.TheVariants.{Goal, Metric}
use Rattle.np_bind.specs.declared.bound.BindFault.{BindFault}
use Rattle.np_bind.specs.declared.bound.BindFault.TheVariants.{TooManyTuples, TooManySteps, NotLinear, GoalUndefined, MetricUndefined, NumberWide, Memory}
use Rattle.np_bind.specs.Answers.{Refuses}
use Rattle.np_bind.specs.Grounding.{bound_step, left_of_goal, linear_metric}
use Rattle.np_bind.specs.Bindings.{fitting_objects, bindings, steps_of_action, steps_from, binding_count}
use Rattle.np_bind.specs.Binding.{with_tried, at_spot, kept_from, bound_from}
use Rattle.np_bind.specs.Trying.{Trial, choices, begun, kept_with, steps_and_goal}

-- ---- answers

abbrev answer : BoundParts → Result BoundParts BindFault
answer b = Ok b

abbrev pair : List BoundStep → List BoundCond → Result (List BoundStep × List BoundCond) BindFault
pair steps goal = Ok (steps, goal)

then_assoc : {A B C : Type 0} (r : Result A BindFault) (f : A → Result B BindFault) (g : B → Result C BindFault) → and_then (and_then r f) g ≡ and_then r (λ x. and_then (f x) g)
then_assoc (Ok x) f g = refl
then_assoc (Err e) f g = refl

then_same : {A B : Type 0} (r : Result A BindFault) (f g : A → Result B BindFault) → ((x : A) → f x ≡ g x) → and_then r f ≡ and_then r g
then_same (Ok x) f g h = h x
then_same (Err e) f g h = refl

-- a part's fault is one of the whole
pub refuse_by : {A B : Type 0} (e : BindFault) (r : Result A BindFault) (q : Result B BindFault) → ((n : BindFault) → r ≡ Err n → q ≡ Err n) → Refuses e r → Refuses e q
refuse_by TooManyTuples r q k h = k _ h
refuse_by TooManySteps r q k h = k _ h
refuse_by (NotLinear spot) r q k h = k _ h
refuse_by GoalUndefined r q k h = k _ h
refuse_by MetricUndefined r q k h = k _ h
refuse_by (NumberWide spot) r q k h = k _ h
refuse_by Memory r q k h = tt

pub refuse_then : {A B : Type 0} (e : BindFault) (r : Result A BindFault) (f : A → Result B BindFault) → Refuses e r → Refuses e (and_then r f)
refuse_then e r f h = refuse_by e r (and_then r f) (λ n is. ap (λ x. and_then x f) is) h

-- ---- steps tried one list after another

pub kept_append : (task : TaskParts) (values : List (Term × Fraction)) (metric : Option Linear) (xs ys : List (Step × Action)) (kept : List BoundStep)
    → kept_from task values metric kept (xs ++ ys) ≡ and_then (kept_from task values metric kept xs) (λ more. kept_from task values metric more ys)
kept_append task values metric [] ys kept = refl
kept_append task values metric (x ∷ xs) ys kept =
    then_same (with_tried kept x.0 (bound_step task values metric x.0 x.1)) _ _ (λ more. kept_append task values metric xs ys more)
    ∙ sym (then_assoc (with_tried kept x.0 (bound_step task values metric x.0 x.1)) (λ more. kept_from task values metric more xs) (λ more. kept_from task values metric more ys))

with_append : (trial : Trial) (kept : List BoundStep) (xs ys : List (List ℕ)) → kept_with trial kept (xs ++ ys) ≡ and_then (kept_with trial kept xs) (λ more. kept_with trial more ys)
with_append trial kept xs ys =
    ap (kept_from trial.task trial.values trial.metric kept) (map-append (λ objects. (record { action = trial.number; objects = objects }, trial.action)) xs ys)
    ∙ kept_append trial.task trial.values trial.metric _ _ kept

-- ---- lists after the same front

begun_append : (front : List ℕ) (xs ys : List (List ℕ)) → begun front (xs ++ ys) ≡ begun front xs ++ begun front ys
begun_append front xs ys = map-append (λ os. front ++ os) xs ys

begun_next : (front : List ℕ) (o : ℕ) (lists : List (List ℕ)) → begun front (map (λ os. o ∷ os) lists) ≡ begun (front ++ o ∷ []) lists
begun_next front o [] = refl
begun_next front o (os ∷ lists) =
    ap (λ xs. xs ∷ begun front (map (λ os. o ∷ os) lists)) (sym (append_assoc front (o ∷ []) os))
    ∙ ap (λ xs. ((front ++ o ∷ []) ++ os) ∷ xs) (begun_next front o lists)

pub begun_none : (lists : List (List ℕ)) → begun [] lists ≡ lists
begun_none [] = refl
begun_none (os ∷ lists) = ap (λ xs. os ∷ xs) (begun_none lists)

-- the lists that begin with an object of this list from a place on
abbrev pub lists_from : List ℕ → List (List ℕ) → ℕ → List (List ℕ)
lists_from list rest i = flat_map (λ o. map (λ os. o ∷ os) (choices rest)) (drop i list)

-- an object of a list, and then those after it
pub tries_one : (trial : Trial) (front list : List ℕ) (rest : List (List ℕ)) (i : ℕ) (kept : List BoundStep) → i < length list
    → kept_with trial kept (begun front (lists_from list rest i)) ≡ and_then (kept_with trial kept (begun (front ++ slice_index list i ∷ []) (choices rest))) (λ more. kept_with trial more (begun front (lists_from list rest (suc i))))
tries_one trial front list rest i kept h =
    ap (λ xs. kept_with trial kept (begun front (flat_map (λ o. map (λ os. o ∷ os) (choices rest)) xs))) (drop-cons list i 0 h)
    ∙ ap (kept_with trial kept) (begun_append front (map (λ os. slice_index list i ∷ os) (choices rest)) (lists_from list rest (suc i)))
    ∙ with_append trial kept (begun front (map (λ os. slice_index list i ∷ os) (choices rest))) (begun front (lists_from list rest (suc i)))
    ∙ ap (λ xs. and_then (kept_with trial kept xs) (λ more. kept_with trial more (begun front (lists_from list rest (suc i))))) (begun_next front (slice_index list i) (choices rest))

pub tries_on : (trial : Trial) (front now list : List ℕ) (rest : List (List ℕ)) (i : ℕ) (kept more : List BoundStep) → i < length list → now ≡ front
    → kept_with trial kept (begun (now ++ slice_index list i ∷ []) (choices rest)) ≡ Ok more
    → kept_with trial kept (begun front (lists_from list rest i)) ≡ kept_with trial more (begun front (lists_from list rest (suc i)))
tries_on trial front now list rest i kept more h same is =
    tries_one trial front list rest i kept h
    ∙ ap (λ r. and_then r (λ m. kept_with trial m (begun front (lists_from list rest (suc i)))))
    (ap (λ xs. kept_with trial kept (begun (xs ++ slice_index list i ∷ []) (choices rest))) (sym same) ∙ is)

pub tries_fault : (trial : Trial) (front now list : List ℕ) (rest : List (List ℕ)) (i : ℕ) (kept : List BoundStep) (e : BindFault) → i < length list → now ≡ front
    → kept_with trial kept (begun (now ++ slice_index list i ∷ []) (choices rest)) ≡ Err e
    → kept_with trial kept (begun front (lists_from list rest i)) ≡ Err e
tries_fault trial front now list rest i kept e h same is =
    tries_one trial front list rest i kept h
    ∙ ap (λ r. and_then r (λ m. kept_with trial m (begun front (lists_from list rest (suc i)))))
    (ap (λ xs. kept_with trial kept (begun (xs ++ slice_index list i ∷ []) (choices rest))) (sym same) ∙ is)

-- ---- lists with just one object

one_item : (xs : List ℕ) (o : ℕ) → length xs ≡ 1 → o ≡ slice_index xs 0 → xs ≡ o ∷ []
one_item [] o e is = absurd (omega arith)
one_item (x ∷ []) o e is = ap (λ y. y ∷ []) (sym is)
one_item (x ∷ y ∷ ys) o e is = absurd (omega arith)

pub single_more : (front : List ℕ) (lists : List (List ℕ)) (i : ℕ) (list : List ℕ) (o : ℕ) → i < length lists → list ≡ slice_index_or lists i list → length list ≡ 1 → o ≡ slice_index list 0
    → begun front (choices (drop i lists)) ≡ begun (front ++ o ∷ []) (choices (drop (suc i) lists))
single_more front lists i list o h at one is =
    ap (λ xs. begun front (choices xs)) (drop_at lists i list h at)
    ∙ ap (λ xs. begun front (choices (xs ∷ drop (suc i) lists))) (one_item list o one is)
    ∙ ap (begun front) (append-nil (map (λ os. o ∷ os) (choices (drop (suc i) lists))))
    ∙ begun_next front o (choices (drop (suc i) lists))

-- one more object after a front
pub front_more : (front objects : List ℕ) (o : ℕ) → take (length front) objects ≡ front → take (length front) (objects ++ o ∷ []) ≡ front
front_more [] objects o e = refl
front_more (x ∷ front) [] o e = absurd (not_same e)
  where
    not_same : ◌≡◌ {A = List ℕ} [] (x ∷ front) → ⊥
    not_same e = cc
front_more (x ∷ front) (y ∷ objects) o e = ap (λ z. z ∷ take (length front) (objects ++ o ∷ [])) (heads e) ∙ ap (λ xs. x ∷ xs) (front_more front objects o (tails e))
  where
    heads : ◌≡◌ {A = List ℕ} (y ∷ take (length front) objects) (x ∷ front) → y ≡ x
    heads e = cc

    tails : ◌≡◌ {A = List ℕ} (y ∷ take (length front) objects) (x ∷ front) → take (length front) objects ≡ front
    tails e = cc

-- the objects after they were put back to the old ones
pub back_to : (old : List ℕ) (o : ℕ) (new : List ℕ) → take (length (old ++ o ∷ [])) new ≡ old ++ o ∷ [] → take (length old) new ≡ old
back_to old o new e =
    let longer : length old ≤ length (old ++ o ∷ []) = omega (arith, length-append old (o ∷ [])) in
    sym (take-take (length old) (length (old ++ o ∷ [])) new longer) ∙ ap (take (length old)) e ∙ take-append_seam old (o ∷ [])

-- ---- the bindings of an action

pub bindings_are : (task : TaskParts) (types : List ℕ) → bindings task types ≡ choices (map (fitting_objects task) types)
bindings_are task [] = refl
bindings_are task (wanted ∷ types) = ap (λ lists. flat_map (λ o. map (λ os. o ∷ os) lists) (fitting_objects task wanted)) (bindings_are task types)

count_each : (lists : List (List ℕ)) (xs : List ℕ) → length (flat_map (λ o. map (λ os. o ∷ os) lists) xs) ≡ length xs * length lists
count_each lists [] = omega arith
count_each lists (x ∷ xs) =
    length-append (map (λ os. x ∷ os) lists) (flat_map (λ o. map (λ os. o ∷ os) lists) xs)
    ∙ ap (λ n. n + length (flat_map (λ o. map (λ os. o ∷ os) lists) xs)) (length-map lists (λ os. x ∷ os))
    ∙ ap (λ n. length lists + n) (count_each lists xs)
    ∙ one_more (length xs) (length lists)
  where
    one_more : (n m : ℕ) → m + n * m ≡ suc n * m
    one_more n m = grind arith

pub count_bindings : (task : TaskParts) (types : List ℕ) → length (bindings task types) ≡ binding_count task types
count_bindings task [] = refl
count_bindings task (wanted ∷ types) =
    count_each (bindings task types) (fitting_objects task wanted) ∙ ap (λ n. length (fitting_objects task wanted) * n) (count_bindings task types)

-- an action without bindings
pub no_bindings : (task : TaskParts) (types : List ℕ) → min 4194305 (binding_count task types) ≡ 0 → bindings task types ≡ []
no_bindings task types e = empty (bindings task types) (count_bindings task types ∙ none)
  where
    none : binding_count task types ≡ 0
    none = omega arith

    empty : (xs : List (List ℕ)) → length xs ≡ 0 → xs ≡ []
    empty [] h = refl
    empty (x ∷ xs) h = absurd (omega arith)

-- ---- the whole

-- a bound task from the kept steps and what is left of the goal
pub bound_by_parts : (task : TaskParts) (values : List (Term × Fraction))
    → bound_from task values ≡ and_then (steps_and_goal task values) (λ p. Ok (record { atoms = task.atoms; values = values; steps = p.0; goal = p.1 }))
bound_by_parts task values = by_metric (at_spot Metric MetricUndefined (linear_metric task values task.metric))
  where
    by_goal : (steps : List BoundStep) (r : Result (List BoundCond) BindFault)
        → and_then r (λ goal. answer (record { atoms = task.atoms; values = values; steps = steps; goal = goal })) ≡ and_then (and_then r (λ goal. pair steps goal)) (λ p. answer (record { atoms = task.atoms; values = values; steps = p.0; goal = p.1 }))
    by_goal steps (Ok goal) = refl
    by_goal steps (Err e) = refl

    by_steps : (r : Result (List BoundStep) BindFault)
        → and_then r (λ steps. and_then (at_spot Goal GoalUndefined (left_of_goal task values)) (λ goal. answer (record { atoms = task.atoms; values = values; steps = steps; goal = goal })))
        ≡ and_then (and_then r (λ steps. and_then (at_spot Goal GoalUndefined (left_of_goal task values)) (λ goal. pair steps goal))) (λ p. answer (record { atoms = task.atoms; values = values; steps = p.0; goal = p.1 }))
    by_steps (Ok steps) = by_goal steps (at_spot Goal GoalUndefined (left_of_goal task values))
    by_steps (Err e) = refl

    by_metric : (r : Result (Option Linear) BindFault)
        → and_then r (λ metric. and_then (kept_from task values metric [] (steps_from task 0 task.actions)) (λ steps. and_then (at_spot Goal GoalUndefined (left_of_goal task values)) (λ goal. answer (record { atoms = task.atoms; values = values; steps = steps; goal = goal }))))
        ≡ and_then (and_then r (λ metric. and_then (kept_from task values metric [] (steps_from task 0 task.actions)) (λ steps. and_then (at_spot Goal GoalUndefined (left_of_goal task values)) (λ goal. pair steps goal)))) (λ p. answer (record { atoms = task.atoms; values = values; steps = p.0; goal = p.1 }))
    by_metric (Ok metric) = by_steps (kept_from task values metric [] (steps_from task 0 task.actions))
    by_metric (Err e) = refl

-- ---- the actions

pub actions_one : (task : TaskParts) (values : List (Term × Fraction)) (metric : Option Linear) (actions : List Action) (k : ℕ) (a : Action) (kept : List BoundStep) → k < length actions → a ≡ slice_index_or actions k a
    → kept_from task values metric kept (steps_from task k (drop k actions)) ≡ and_then (kept_from task values metric kept (steps_of_action task k a)) (λ more. kept_from task values metric more (steps_from task (suc k) (drop (suc k) actions)))
actions_one task values metric actions k a kept h at =
    ap (λ xs. kept_from task values metric kept (steps_from task k xs)) (drop_at actions k a h at)
    ∙ kept_append task values metric (steps_of_action task k a) (steps_from task (suc k) (drop (suc k) actions)) kept

pub actions_on : (task : TaskParts) (values : List (Term × Fraction)) (metric : Option Linear) (actions : List Action) (k : ℕ) (a : Action) (kept more : List BoundStep) → k < length actions → a ≡ slice_index_or actions k a
    → kept_from task values metric kept (steps_of_action task k a) ≡ Ok more
    → kept_from task values metric kept (steps_from task k (drop k actions)) ≡ kept_from task values metric more (steps_from task (suc k) (drop (suc k) actions))
actions_on task values metric actions k a kept more h at is =
    actions_one task values metric actions k a kept h at ∙ ap (λ r. and_then r (λ m. kept_from task values metric m (steps_from task (suc k) (drop (suc k) actions)))) is

pub actions_fault : (task : TaskParts) (values : List (Term × Fraction)) (metric : Option Linear) (actions : List Action) (k : ℕ) (a : Action) (kept : List BoundStep) (e : BindFault) → k < length actions → a ≡ slice_index_or actions k a
    → kept_from task values metric kept (steps_of_action task k a) ≡ Err e
    → kept_from task values metric kept (steps_from task k (drop k actions)) ≡ Err e
actions_fault task values metric actions k a kept e h at is =
    actions_one task values metric actions k a kept h at ∙ ap (λ r. and_then r (λ m. kept_from task values metric m (steps_from task (suc k) (drop (suc k) actions)))) is
