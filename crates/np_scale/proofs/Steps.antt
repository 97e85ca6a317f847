-- Flat steps: what is known after one, its first fault, and the loop over them.
use Rattle.std.proofs.Common.{◌≡◌, ℕ, ◌+◌, ◌<◌, Bool, true, false, not, ℤ, refl, sym, ◌∙◌, ap, subst, List, [], ◌∷◌, ◌++◌, map, length, take, drop, get_or, Result, Ok, Err}
use Rattle.std.specs.Prelude.{filter, unsigned_abs, if◌then◌else◌}
use Rattle.std.specs.List.{flat_map}
use Rattle.std.proofs.lemmas.List.{append-nil, drop_more, map-append, take_more}
use Rattle.std.proofs.lemmas.List.Elements.{filter-append, filter_more}
use Rattle.np_model.specs.declared.task.Atom as model
use Rattle.np_model.specs.declared.task.Term.{Term}
use Rattle.np_model.specs.declared.task.Step as task
use Rattle.np_model.specs.Ground.{same_atom}
use Rattle.np_model.specs.States.{is_among}
use Rattle.np_linear.specs.Answers.{and_then}
use Rattle.np_linear.proofs.Chains.{goes_on, same_Ok, cause_answers}
use Rattle.np_bind.specs.declared.bound.Spot.TheVariants.{Step}
use Rattle.np_bind.specs.declared.bound.BoundCond.{BoundCond}
use Rattle.np_bind.specs.declared.bound.BoundStep.{BoundStep}
use Rattle.np_flat.specs.declared.parts.FlatStep.{FlatStep}
use Rattle.np_flat.specs.declared.parts.Subgoal.{Subgoal}
use Rattle.np_flat.specs.States.{put_all}
use Rattle.np_scale.specs.declared.fault.ScaleFault.{ScaleFault}
use Rattle.np_scale.specs.declared.fault.ScaleFault.TheVariants.{TooManyFacts, TooManyValues, TooManySubgoals, UnitWide, NumberWide, FormLong, CostNegative, CostNotWhole, CostWide, Memory}
use Rattle.np_scale.specs.Answers.{Refuses}
use Rattle.np_scale.specs.Tables.{number_of}
use Rattle.np_scale.specs.FlatOf.{all_subgoals, changes_from, flat_step}
use Rattle.np_scale.specs.Limits.{Checked, each_checked, with_conditions, checked_subgoals, checked_change, checked_cost, checked_step, checked_steps}
use Rattle.np_scale.specs.Code.{IsStartOf, ArePut, IsStepOf, AreStepsOf, fact_of, facts_in, numbers_with}
use Rattle.np_scale.proofs.Tables.{start_trans}
use Rattle.np_scale.proofs.Known.{with_subgoals_grows, put_all-append}

-- ---- faults

-- a fault of one thing is one of another that has the same
pub refuse_by : {A B : Type 0} (e : ScaleFault) (r : Result A ScaleFault) (s : Result B ScaleFault) → (r ≡ Err e → s ≡ Err e) → Refuses e r → Refuses e s
refuse_by TooManyFacts r s f h = f h
refuse_by TooManyValues r s f h = f h
refuse_by TooManySubgoals r s f h = f h
refuse_by UnitWide r s f h = f h
refuse_by (NumberWide spot) r s f h = f h
refuse_by (FormLong spot) r s f h = f h
refuse_by (CostNegative step) r s f h = f h
refuse_by (CostNotWhole step) r s f h = f h
refuse_by (CostWide step) r s f h = f h
refuse_by Memory r s f h = tt

-- a fault comes from the check, where nothing after it has one
pub fault_of_check : {B : Type 0} (r : Checked) (y : B) (e : ScaleFault) → and_then r (λ _. Ok y) ≡ Err e → r ≡ Err e
fault_of_check {B} (Ok u) y e h = absurd (cause_answers {P = ⊥} e y (sym h))
fault_of_check (Err f) y e h = let same : f ≡ e = cc in ap Err same

-- an answer says that the check has passed
pub passed : {B : Type 0} (r : Checked) (y z : B) → and_then r (λ _. Ok y) ≡ Ok z → (r ≡ Ok tt) × (y ≡ z)
passed (Ok u) y z h = (refl, same_Ok y z h)
passed (Err f) y z h = cause_answers f z h

-- ---- the numbers of facts

facts_push : (facts : List model.Atom) (xs : List model.Atom) (a : model.Atom) → facts_in facts (xs ++ a ∷ []) ≡ put_all (fact_of facts a) (facts_in facts xs)
facts_push facts xs a =
    ap (λ l. put_all (map (number_of same_atom facts) l) []) (filter-append (is_among facts) xs (a ∷ []))
    ∙ ap (λ l. put_all l []) (map-append (number_of same_atom facts) (filter (is_among facts) xs) (filter (is_among facts) (a ∷ [])))
    ∙ put_all-append (map (number_of same_atom facts) (filter (is_among facts) xs)) (map (number_of same_atom facts) (filter (is_among facts) (a ∷ []))) []
    ∙ ap (λ l. put_all l (facts_in facts xs)) (by (is_among facts a))
  where
    by : (b : Bool) → map (number_of same_atom facts) (if b then a ∷ [] else []) ≡ (if b then number_of same_atom facts a ∷ [] else [])
    by true = refl
    by false = refl

-- those of one atom more
pub facts_more : (facts atoms : List model.Atom) (now next : List ℕ) (i : ℕ) (d : model.Atom) → i < length atoms → now ≡ facts_in facts (take i atoms)
    → next ≡ put_all (fact_of facts (get_or atoms i d)) now → next ≡ facts_in facts (take (i + 1) atoms)
facts_more facts atoms now next i d within before put =
    put ∙ ap (put_all (fact_of facts (get_or atoms i d))) before ∙ sym (facts_push facts (take i atoms) (get_or atoms i d)) ∙ ap (facts_in facts) (sym (take_more atoms i d within))

-- where it passes a test, or doesn't
pub facts_passed : (facts atoms : List model.Atom) (p : model.Atom → Bool) (now next : List ℕ) (i : ℕ) (d : model.Atom) → i < length atoms → p (get_or atoms i d) ≡ true
    → now ≡ facts_in facts (filter p (take i atoms)) → next ≡ put_all (fact_of facts (get_or atoms i d)) now → next ≡ facts_in facts (filter p (take (i + 1) atoms))
facts_passed facts atoms p now next i d within passes before put =
    put ∙ ap (put_all (fact_of facts (get_or atoms i d))) before ∙ sym (facts_push facts (filter p (take i atoms)) (get_or atoms i d))
    ∙ ap (facts_in facts) (sym (filter_more p atoms i d within ∙ ap (λ b. filter p (take i atoms) ++ (if b then get_or atoms i d ∷ [] else [])) passes))

pub facts_left : (facts atoms : List model.Atom) (p : model.Atom → Bool) (now : List ℕ) (i : ℕ) (d : model.Atom) → i < length atoms → p (get_or atoms i d) ≡ false
    → now ≡ facts_in facts (filter p (take i atoms)) → now ≡ facts_in facts (filter p (take (i + 1) atoms))
facts_left facts atoms p now i d within fails before =
    before
    ∙ ap (facts_in facts) (sym (filter_more p atoms i d within ∙ ap (λ b. filter p (take i atoms) ++ (if b then get_or atoms i d ∷ [] else [])) fails ∙ append-nil (filter p (take i atoms))))

-- whether an atom of a list isn't added
pub test_at : (adds set atoms : List model.Atom) (i : ℕ) (a : model.Atom) (has b : Bool) → a ≡ get_or atoms i a → set ≡ adds → has ≡ is_among set a → not has ≡ b
    → not (is_among adds (get_or atoms i a)) ≡ b
test_at adds set atoms i a has b is same tested result =
    ap (λ x. not (is_among adds x)) (sym is) ∙ ap (λ l. not (is_among l a)) (sym same) ∙ ap not (sym tested) ∙ result

-- ---- one step

-- a step by what its conditions, its changes and its cost come to
abbrev pub step_by : Result (List Subgoal) ScaleFault → Checked → Checked → Result (List Subgoal) ScaleFault
step_by needs changes cost = and_then needs (λ more. and_then changes (λ _. and_then cost (λ _. Ok more)))

after_needs : (needs : Result (List Subgoal) ScaleFault) (changes cost : Checked) (more : List Subgoal) → needs ≡ Ok more → step_by needs changes cost ≡ and_then changes (λ _. and_then cost (λ _. Ok more))
after_needs needs changes cost more e = ap (λ r. step_by r changes cost) e

pub step_needs_fault : (e : ScaleFault) (needs : Result (List Subgoal) ScaleFault) (changes cost : Checked) → Refuses e needs → Refuses e (step_by needs changes cost)
step_needs_fault e needs changes cost h = refuse_by e needs (step_by needs changes cost) (λ is. ap (λ r. step_by r changes cost) is) h

pub step_changes_fault : {B : Type 0} (e : ScaleFault) (needs : Result (List Subgoal) ScaleFault) (changes cost : Checked) (more : List Subgoal) (y : B) → needs ≡ Ok more
    → Refuses e (and_then changes (λ _. Ok y)) → Refuses e (step_by needs changes cost)
step_changes_fault e needs changes cost more y known h =
    refuse_by e (and_then changes (λ _. Ok y)) (step_by needs changes cost)
    (λ is. after_needs needs changes cost more known ∙ ap (λ r. and_then r (λ _. and_then cost (λ _. Ok more))) (fault_of_check changes y e is)) h

pub step_cost_fault : {B C : Type 0} (e : ScaleFault) (needs : Result (List Subgoal) ScaleFault) (changes cost : Checked) (more : List Subgoal) (y z : B) (x : C) → needs ≡ Ok more
    → and_then changes (λ _. Ok y) ≡ Ok z → Refuses e (and_then cost (λ _. Ok x)) → Refuses e (step_by needs changes cost)
step_cost_fault e needs changes cost more y z x known small h =
    refuse_by e (and_then cost (λ _. Ok x)) (step_by needs changes cost)
    (λ is. after_needs needs changes cost more known ∙ ap (λ r. and_then r (λ _. and_then cost (λ _. Ok more))) (passed changes y z small).0
    ∙ ap (λ r. and_then r (λ _. Ok more)) (fault_of_check cost x e is)) h

pub step_known : {B C : Type 0} (needs : Result (List Subgoal) ScaleFault) (changes cost : Checked) (more : List Subgoal) (y z : B) (x w : C) → needs ≡ Ok more
    → and_then changes (λ _. Ok y) ≡ Ok z → and_then cost (λ _. Ok x) ≡ Ok w → step_by needs changes cost ≡ Ok more
step_known needs changes cost more y z x w known small whole =
    after_needs needs changes cost more known ∙ ap (λ r. and_then r (λ _. and_then cost (λ _. Ok more))) (passed changes y z small).0
    ∙ ap (λ r. and_then r (λ _. Ok more)) (passed cost x w whole).0

-- what the conditions come to, read by name
pub needs_read : (facts : List model.Atom) (terms : List Term) (unit : ℕ) (known : List Subgoal) (b : BoundStep) (more : List Subgoal) (name : task.Step) (cs : List BoundCond) → name ≡ b.step → cs ≡ b.needs
    → with_conditions (Step name) facts terms unit known cs ≡ Ok more → with_conditions (Step b.step) facts terms unit known b.needs ≡ Ok more
needs_read facts terms unit known b more name cs e1 e2 h =
    sym (ap (λ n. with_conditions (Step n) facts terms unit known cs) e1 ∙ ap (with_conditions (Step b.step) facts terms unit known) e2) ∙ h

-- a step of these parts is the flat step
pub step_made : (facts : List model.Atom) (terms : List Term) (unit : ℕ) (known : List Subgoal) (b : BoundStep) (step : FlatStep) → step.step ≡ b.step
    → ArePut known (all_subgoals facts terms unit b.needs) [] step.needs → step.adds ≡ facts_in facts b.adds → step.deletes ≡ facts_in facts (filter (λ a. not (is_among b.adds a)) b.deletes)
    → changes_from unit 0 b.changes terms ≡ step.changes → unsigned_abs b.cost.num ≡ step.cost → IsStepOf facts terms unit known b step
step_made facts terms unit known b step name needs adds deletes changes cost final s =
    by step.step step.needs step.adds step.deletes step.changes step.cost name (needs.numbers final s) adds deletes (sym changes) (sym cost)
  where
    by : (name : task.Step) (ns ads ds : List ℕ) (cs : List (ℕ × ℤ)) (cost : ℕ) → name ≡ b.step → ns ≡ (flat_step (numbers_with facts terms unit final) b).needs → ads ≡ facts_in facts b.adds
        → ds ≡ facts_in facts (filter (λ a. not (is_among b.adds a)) b.deletes) → cs ≡ changes_from unit 0 b.changes terms → cost ≡ unsigned_abs b.cost.num
        → record { step = name; needs = ns; adds = ads; deletes = ds; changes = cs; cost = cost } ≡ flat_step (numbers_with facts terms unit final) b
    by name ns ads ds cs cost e1 e2 e3 e4 e5 e6 = rw (e1, e2, e3, e4, e5, e6) refl

-- what is known only grows
pub step_grows : (facts : List model.Atom) (terms : List Term) (unit : ℕ) (known : List Subgoal) (b : BoundStep) (more : List Subgoal) → checked_step facts terms unit known b ≡ Ok more → IsStartOf known more
step_grows facts terms unit known b more e =
    goes_on (with_conditions (Step b.step) facts terms unit known b.needs) _ more e (λ next needs rest.
    goes_on (each_checked (checked_change unit b) terms) _ more rest (λ u changes later.
    goes_on (checked_cost b) _ more later (λ v costs last.
    subst (IsStartOf known) (same_Ok next more last) (with_subgoals_grows known (flat_map (checked_subgoals (Step b.step) facts terms unit) b.needs) next needs))))

-- ---- the loop

-- what is still to be known, where one more step is read
pub steps_more : (facts : List model.Atom) (terms : List Term) (unit : ℕ) (known mid : List Subgoal) (all : Result (List Subgoal) ScaleFault) (bs : List BoundStep) (i : ℕ) (d : BoundStep) → i < length bs
    → checked_steps facts terms unit known (drop i bs) ≡ all → checked_step facts terms unit known (get_or bs i d) ≡ Ok mid → checked_steps facts terms unit mid (drop (i + 1) bs) ≡ all
steps_more facts terms unit known mid all bs i d within before one =
    sym (ap (checked_steps facts terms unit known) (drop_more bs i d within) ∙ ap (λ r. and_then r (λ more. checked_steps facts terms unit more (drop (i + 1) bs))) one) ∙ before

-- and where it has a fault
pub steps_fault : (e : ScaleFault) (facts : List model.Atom) (terms : List Term) (unit : ℕ) (known : List Subgoal) (all : Result (List Subgoal) ScaleFault) (bs : List BoundStep) (i : ℕ) (d : BoundStep) → i < length bs
    → checked_steps facts terms unit known (drop i bs) ≡ all → Refuses e (checked_step facts terms unit known (get_or bs i d)) → Refuses e all
steps_fault e facts terms unit known all bs i d within before h =
    refuse_by e (checked_step facts terms unit known (get_or bs i d)) all
    (λ is. sym before ∙ ap (checked_steps facts terms unit known) (drop_more bs i d within) ∙ ap (λ r. and_then r (λ more. checked_steps facts terms unit more (drop (i + 1) bs))) is) h

-- the flat steps with one more
pub steps_put : (facts : List model.Atom) (terms : List Term) (unit : ℕ) (known mid : List Subgoal) (steps : List FlatStep) (step : FlatStep) (bs : List BoundStep) (i : ℕ) (d : BoundStep) → i < length bs
    → AreStepsOf facts terms unit known (take i bs) steps → checked_step facts terms unit known (get_or bs i d) ≡ Ok mid → IsStepOf facts terms unit mid (get_or bs i d) step
    → AreStepsOf facts terms unit mid (take (i + 1) bs) (steps ++ step ∷ [])
steps_put facts terms unit known mid steps step bs i d within before one is final s =
    ap (λ l. l ++ step ∷ []) (before final (start_trans known mid final (step_grows facts terms unit known (get_or bs i d) mid one) s))
    ∙ ap (λ x. map (flat_step (numbers_with facts terms unit final)) (take i bs) ++ x ∷ []) (is final s)
    ∙ sym (map-append (flat_step (numbers_with facts terms unit final)) (take i bs) (get_or bs i d ∷ []))
    ∙ ap (map (flat_step (numbers_with facts terms unit final))) (sym (take_more bs i d within))
