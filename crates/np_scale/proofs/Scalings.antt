-- The flat task from its tables, its start and its steps.
use Rattle.std.proofs.Common.{◌≡◌, ℕ, ◌+◌, ◌≤◌, ◌<◌, Bool, true, false, ℤ, pos, refl, sym, ◌∙◌, ap, subst, List, [], ◌∷◌, ◌++◌, map, length, take, drop, get_or, Result, Ok, Err, Some, None}
use Rattle.std.specs.Prelude.{not, nat_lt, if◌then◌else◌, filter, All}
use Rattle.std.specs.Borrow.{Bor}
use Rattle.std.specs.Int.{◌∣◌}
use Rattle.std.specs.List.{flat_map, list_any, AllByRecursion}
use Rattle.std.proofs.lemmas.List.{map-append, take-append-drop, take_more, take_all, drop_more, get_or-map}
use Rattle.std.proofs.lemmas.Bool.{lt-ltb, both_ways}
use Rattle.std.proofs.lemmas.List.Elements.{All-from_recursion, recursion_from_All, All-get_or}
use Rattle.np_frac.specs.Fractions.{Fraction}
use Rattle.np_model.specs.declared.task.Atom as model
use Rattle.np_model.specs.declared.task.Term.{Term}
use Rattle.np_model.specs.Ground.{same_term, same_term-Decides}
use Rattle.np_model.proofs.Distinct.{distinct_none}
use Rattle.np_linear.specs.Answers.{and_then}
use Rattle.np_bind.specs.declared.bound.BoundParts.{BoundParts}
use Rattle.np_bind.specs.declared.bound.Spot.TheVariants.{Value, Goal}
use Rattle.np_bind.specs.declared.bound.BoundCond.{BoundCond}
use Rattle.np_bind.specs.declared.bound.BoundCond.TheVariants.{Atom, Compare, Never}
use Rattle.np_bind.specs.declared.bound.BoundStep.{BoundStep}
use Rattle.np_bind.specs.BoundTasks.{IsCondition, IsKept, IsBound}
use Rattle.np_bind.specs.Grounding.{number_on}
use Rattle.np_flat.specs.declared.limits.TheConstants.{MOST_FACTS, MOST_VALUES, CHANGE_SIZE}
use Rattle.np_flat.specs.declared.state.FlatState.{FlatState}
use Rattle.np_flat.specs.declared.parts.FlatStep.{FlatStep}
use Rattle.np_flat.specs.declared.parts.Parts.{Parts}
use Rattle.np_flat.specs.declared.parts.Subgoal.{Subgoal}
use Rattle.np_scale.specs.declared.fault.ScaleFault.{ScaleFault}
use Rattle.np_scale.specs.declared.fault.ScaleFault.TheVariants.{TooManyFacts, TooManyValues, UnitWide, NumberWide}
use Rattle.np_scale.specs.Answers.{Answers, Refuses}
use Rattle.np_scale.specs.Tables.{terms_in, conditions_of, facts_of, values_of}
use Rattle.np_scale.specs.Wholes.{unit_of, scaled_number}
use Rattle.np_scale.specs.FlatOf.{all_subgoals, numbers_of, subgoal_numbers, flat_step, flat_with, flat_of}
use Rattle.np_scale.specs.Limits.{Checked, unless, each_checked, is_below, checked_subgoals, with_conditions, checked_start, checked_steps, subgoals_within_limits}
use Rattle.np_scale.specs.Scaling.{scale_task}
use Rattle.np_scale.specs.Code.{pointed, small, below, few, changes_on, unit_for, facts_in, numbers_with, AreMultiples, HasNonzero, IsReady, ArePut, AreStepsOf}
use Rattle.np_scale.specs.ScaledParts.{AreStarts, AreTablesOf, ArePartsReady, checked_value, checked_values, checked_state, checked_parts, parts_with, scaled_from}
use Rattle.np_scale.proofs.Every.{each_weaker, each_both, each_back, each_flat, each_unmap}
use Rattle.np_scale.proofs.Once.{once_distinct}
use Rattle.np_scale.proofs.Tables.{pointed_length, start_itself}
use Rattle.np_scale.proofs.Known.{with_subgoals_grows}
use Rattle.np_scale.proofs.Scaled.{below_is}
use Rattle.np_scale.proofs.Steps.{refuse_by, fault_of_check, passed}
use Rattle.np_scale.proofs.Wholes.{unit_above, unit_of_starts, all_divide}
use Rattle.np_scale.proofs.Limits.{within_limits}

-- ---- the start values, one after another

each_append : {A : Type 0} (check : A → Checked) (xs ys : List A) → each_checked check (xs ++ ys) ≡ and_then (each_checked check xs) (λ _. each_checked check ys)
each_append check [] ys = refl
each_append check (x ∷ xs) ys = by (check x) (each_append check xs ys)
  where
    by : (r : Checked) → each_checked check (xs ++ ys) ≡ and_then (each_checked check xs) (λ _. each_checked check ys)
        → and_then r (λ _. each_checked check (xs ++ ys)) ≡ and_then (and_then r (λ _. each_checked check xs)) (λ _. each_checked check ys)
    by (Ok u) e = e
    by (Err f) e = refl

pointed_more : {A : Type 0} (refs : List (Bor A)) (i : ℕ) (d : Bor A) → i < length refs → pointed (take (i + 1) refs) ≡ pointed (take i refs) ++ (get_or refs i d).now ∷ []
pointed_more refs i d within = ap pointed (take_more refs i d within) ∙ map-append (λ r. r.now) (take i refs) (get_or refs i d ∷ [])

-- a value within its limit, or past it
value_small : (unit : ℕ) (values : List (Term × Fraction)) (t : Term) (x : Fraction) (v : ℤ) → x ≡ number_on values t → Some v ≡ small CHANGE_SIZE (scaled_number unit x)
    → (checked_value unit values t ≡ Ok tt) × (v ≡ scaled_number unit (number_on values t))
value_small unit values t x v is e =
    by (scaled_number unit (number_on values t)) (is_below CHANGE_SIZE (scaled_number unit (number_on values t))) (e ∙ ap (λ y. small CHANGE_SIZE (scaled_number unit y)) is)
  where
    by : (n : ℤ) (b : Bool) → Some v ≡ (if b then Some n else None) → (unless b (NumberWide (Value t)) ≡ Ok tt) × (v ≡ n)
    by n true e = let same : v ≡ n = cc in (refl, same)
    by n false e = cc

value_past : (unit : ℕ) (values : List (Term × Fraction)) (t : Term) (x : Fraction) → x ≡ number_on values t → None ≡ small CHANGE_SIZE (scaled_number unit x)
    → checked_value unit values t ≡ Err (NumberWide (Value t))
value_past unit values t x is e =
    by (scaled_number unit (number_on values t)) (is_below CHANGE_SIZE (scaled_number unit (number_on values t))) (e ∙ ap (λ y. small CHANGE_SIZE (scaled_number unit y)) is)
  where
    by : (n : ℤ) (b : Bool) → None ≡ (if b then Some n else None) → unless b (NumberWide (Value t)) ≡ Err (NumberWide (Value t))
    by n true e = cc
    by n false e = refl

-- the unit makes the value whole
pub value_whole : (terms : List Term) (unit : ℕ) (values : List (Term × Fraction)) (refs : List (Bor Term)) (i : ℕ) (d : Bor Term) (x : Fraction) → i < length refs → pointed refs ≡ terms
    → AreStarts terms unit values → d ≡ get_or refs i d → x ≡ number_on values d.now → x.den ∣ unit
value_whole terms unit values refs i d x within are starts at is =
    subst (λ (y : Fraction). y.den ∣ unit) (ap (number_on values) (get_or-map (λ r. r.now) refs i d d.now within) ∙ ap (λ r. number_on values r.now) (sym at) ∙ sym is)
    (All-get_or (λ t. (number_on values t).den ∣ unit) (pointed refs) i d.now (subst (λ n. i < n) (sym (pointed_length refs)) within)
    (subst (λ l. AreStarts l unit values) (sym are) starts))

-- the values with one more
pub value_more : (unit : ℕ) (values : List (Term × Fraction)) (refs : List (Bor Term)) (i : ℕ) (d : Bor Term) (x : Fraction) (v : ℤ) (now next : List ℤ) → i < length refs → d ≡ get_or refs i d
    → x ≡ number_on values d.now → Some v ≡ small CHANGE_SIZE (scaled_number unit x) → next ≡ now ++ v ∷ [] → each_checked (checked_value unit values) (pointed (take i refs)) ≡ Ok tt
    → now ≡ map (λ t. scaled_number unit (number_on values t)) (pointed (take i refs))
    → (each_checked (checked_value unit values) (pointed (take (i + 1) refs)) ≡ Ok tt) × (next ≡ map (λ t. scaled_number unit (number_on values t)) (pointed (take (i + 1) refs)))
value_more unit values refs i d x v now next within at is said put passed before =
    let one = value_small unit values (get_or refs i d).now x v (is ∙ ap (λ r. number_on values r.now) at) said in (
      ap (each_checked (checked_value unit values)) (pointed_more refs i d within) ∙ each_append (checked_value unit values) (pointed (take i refs)) ((get_or refs i d).now ∷ [])
          ∙ ap (λ r. and_then r (λ _. each_checked (checked_value unit values) ((get_or refs i d).now ∷ []))) passed ∙ ap (λ r. and_then r (λ _. Ok tt)) one.0,
      put ∙ ap (λ l. l ++ v ∷ []) before ∙ ap (λ n. map (λ t. scaled_number unit (number_on values t)) (pointed (take i refs)) ++ n ∷ []) one.1
          ∙ sym (ap (map (λ t. scaled_number unit (number_on values t))) (pointed_more refs i d within) ∙ map-append (λ t. scaled_number unit (number_on values t)) (pointed (take i refs)) ((get_or refs i d).now ∷ [])),
    )

-- the first one that is past its limit
pub value_fault : (terms : List Term) (unit : ℕ) (values : List (Term × Fraction)) (refs : List (Bor Term)) (i : ℕ) (d : Bor Term) (x : Fraction) (t : Term) → i < length refs → pointed refs ≡ terms
    → d ≡ get_or refs i d → x ≡ number_on values d.now → None ≡ small CHANGE_SIZE (scaled_number unit x) → each_checked (checked_value unit values) (pointed (take i refs)) ≡ Ok tt → t ≡ d.now
    → checked_values terms unit values ≡ Err (NumberWide (Value t))
value_fault terms unit values refs i d x t within are at is said passed named =
    ap (λ l. checked_values l unit values) (sym are)
    ∙ ap (λ r. and_then r (λ _. Ok (map (λ t. scaled_number unit (number_on values t)) (pointed refs)))) (all ∙ here)
    ∙ ap (λ u. Err (NumberWide (Value u))) (ap (λ r. r.now) (sym at) ∙ sym named)
  where
    rest : List Term
    rest = pointed (drop (i + 1) refs)

    all : each_checked (checked_value unit values) (pointed refs) ≡ each_checked (checked_value unit values) ((get_or refs i d).now ∷ rest)
    all =
        ap (λ l. each_checked (checked_value unit values) (pointed l)) (sym (ap (λ l. take i refs ++ l) (sym (drop_more refs i d within)) ∙ take-append-drop i refs))
        ∙ ap (each_checked (checked_value unit values)) (map-append (λ r. r.now) (take i refs) (get_or refs i d ∷ drop (i + 1) refs))
        ∙ each_append (checked_value unit values) (pointed (take i refs)) ((get_or refs i d).now ∷ rest)
        ∙ ap (λ r. and_then r (λ _. each_checked (checked_value unit values) ((get_or refs i d).now ∷ rest))) passed

    here : each_checked (checked_value unit values) ((get_or refs i d).now ∷ rest) ≡ Err (NumberWide (Value (get_or refs i d).now))
    here =
        ap (λ r. and_then r (λ _. each_checked (checked_value unit values) rest)) (value_past unit values (get_or refs i d).now x (is ∙ ap (λ r. number_on values r.now) at) said)

-- all of them
pub values_read : (terms : List Term) (unit : ℕ) (values : List (Term × Fraction)) (refs : List (Bor Term)) (i : ℕ) (now : List ℤ) → length refs ≤ i → pointed refs ≡ terms
    → each_checked (checked_value unit values) (pointed (take i refs)) ≡ Ok tt → now ≡ map (λ t. scaled_number unit (number_on values t)) (pointed (take i refs))
    → checked_values terms unit values ≡ Ok now
values_read terms unit values refs i now past are passed before =
    let e : pointed (take i refs) ≡ terms = ap pointed (take_all i refs past) ∙ are in
    ap (λ r. and_then r (λ _. Ok (map (λ t. scaled_number unit (number_on values t)) terms))) (ap (each_checked (checked_value unit values)) (sym e) ∙ passed)
    ∙ ap Ok (ap (map (λ t. scaled_number unit (number_on values t))) (sym e) ∙ sym before)

-- ---- the whole

-- a check, and then two answers, in two ways
regroup : {A B C D E : Type 0} (ec : Checked) (cs : Result A ScaleFault) (wc : A → Result B ScaleFault) (v : C) (g : C → D) (h : D → B → E)
    → and_then (and_then ec (λ _. and_then cs wc)) (λ all. Ok (h (g v) all))
    ≡ and_then (and_then (and_then ec (λ _. Ok v)) (λ n. Ok (g n))) (λ start. and_then cs (λ known. and_then (wc known) (λ all. Ok (h start all))))
regroup (Err e) cs wc v g h = refl
regroup (Ok u) (Err e) wc v g h = refl
regroup (Ok u) (Ok k) wc v g h = refl

-- the flat task, opened
scale_is : (bound : BoundParts) → scale_task bound ≡ and_then (subgoals_within_limits bound) (λ _. Ok (flat_of bound))
unfolding scale_task
scale_is bound = refl

flat_is : (bound : BoundParts) → flat_of bound ≡ flat_with (numbers_of bound) bound
unfolding flat_of
flat_is bound = refl

-- the subgoals of a task that is within all limits are those of the definition
by_known : (bound : BoundParts)
    → scale_task bound ≡ and_then (subgoals_within_limits bound) (λ known. Ok (flat_with (numbers_with (facts_of bound) (values_of bound) (unit_of bound) known) bound))
by_known bound = scale_is bound ∙ by (subgoals_within_limits bound) refl
  where
    by : (r : Result (List Subgoal) ScaleFault) → subgoals_within_limits bound ≡ r
        → and_then r (λ _. Ok (flat_of bound)) ≡ and_then r (λ known. Ok (flat_with (numbers_with (facts_of bound) (values_of bound) (unit_of bound) known) bound))
    by (Ok known) e =
        ap Ok (flat_is bound) ∙ ap (λ k. Ok (flat_with (numbers_with (facts_of bound) (values_of bound) (unit_of bound) k) bound)) (sym (within_limits bound known e).is)
    by (Err e) is = refl

-- the unit makes each start value whole
pub starts_are : (bound : BoundParts) → AreStarts (values_of bound) (unit_of bound) bound.values
starts_are bound = All-from_recursion _ (values_of bound) (unit_of_starts bound)

-- ---- tables

-- what is checked of tables, and then the rest
abbrev facts_few : List model.Atom → Checked
facts_few facts = unless (not (nat_lt MOST_FACTS (length facts))) TooManyFacts

abbrev values_few : List Term → Checked
values_few terms = unless (not (nat_lt MOST_VALUES (length terms))) TooManyValues

abbrev unit_small : ℕ → Checked
unit_small unit = unless (nat_lt unit CHANGE_SIZE) UnitWide

abbrev by_checks : {B : Type 0} → Checked → Checked → Checked → Result B ScaleFault → Result B ScaleFault
by_checks a b c rest = and_then a (λ _. and_then b (λ _. and_then c (λ _. rest)))

-- the rest: start values, steps and the goal
abbrev after_tables : List model.Atom → List Term → ℕ → BoundParts → Result (List Subgoal) ScaleFault
after_tables facts terms unit bound =
    and_then (each_checked (checked_start unit bound) terms) (λ _. and_then (checked_steps facts terms unit [] bound.steps) (λ known. with_conditions Goal facts terms unit known bound.goal))

checks_are : (bound : BoundParts)
    → subgoals_within_limits bound ≡ by_checks (facts_few (facts_of bound)) (values_few (values_of bound)) (unit_small (unit_of bound)) (after_tables (facts_of bound) (values_of bound) (unit_of bound) bound)
unfolding subgoals_within_limits
checks_are bound = refl

-- the flat task by these checks
abbrev flat_by : Checked → Checked → Checked → BoundParts → Result Parts ScaleFault
flat_by a b c bound =
    and_then (by_checks a b c (after_tables (facts_of bound) (values_of bound) (unit_of bound) bound)) (λ known. Ok (flat_with (numbers_with (facts_of bound) (values_of bound) (unit_of bound) known) bound))

scale_by : (bound : BoundParts) → scale_task bound ≡ flat_by (facts_few (facts_of bound)) (values_few (values_of bound)) (unit_small (unit_of bound)) bound
scale_by bound = by_known bound ∙ ap (λ r. and_then r (λ known. Ok (flat_with (numbers_with (facts_of bound) (values_of bound) (unit_of bound) known) bound))) (checks_are bound)

-- too many facts, or values, or a unit that is too wide
pub facts_fault : (bound : BoundParts) (e : ScaleFault) → Refuses e (few MOST_FACTS TooManyFacts (facts_of bound)) → Refuses e (scale_task bound)
facts_fault bound e h =
    refuse_by e (few MOST_FACTS TooManyFacts (facts_of bound)) (scale_task bound)
    (λ is. scale_by bound ∙ ap (λ a. flat_by a (values_few (values_of bound)) (unit_small (unit_of bound)) bound) (fault_of_check (facts_few (facts_of bound)) (facts_of bound) e is)) h

pub values_fault : (bound : BoundParts) (facts : List model.Atom) (e : ScaleFault) → few MOST_FACTS TooManyFacts (facts_of bound) ≡ Ok facts → Refuses e (few MOST_VALUES TooManyValues (values_of bound))
    → Refuses e (scale_task bound)
values_fault bound facts e p h =
    refuse_by e (few MOST_VALUES TooManyValues (values_of bound)) (scale_task bound)
    (λ is. scale_by bound ∙ ap (λ a. flat_by a (values_few (values_of bound)) (unit_small (unit_of bound)) bound) (passed (facts_few (facts_of bound)) (facts_of bound) facts p).0
    ∙ ap (λ b. flat_by (Ok tt) b (unit_small (unit_of bound)) bound) (fault_of_check (values_few (values_of bound)) (values_of bound) e is)) h

-- the unit that is computed
unit_read : (bound : BoundParts) (terms : List Term) (values : List (Term × Fraction)) (steps : List BoundStep) → values_of bound ≡ terms → values ≡ bound.values → steps ≡ bound.steps
    → unit_for terms values steps ≡ unit_of bound
unit_read bound terms values steps t v s = ap (λ l. unit_for l values steps) (sym t) ∙ ap (λ l. unit_for (values_of bound) l steps) v ∙ ap (unit_for (values_of bound) bound.values) s

too_wide : (n : ℕ) → None ≡ below CHANGE_SIZE n → unit_small n ≡ Err UnitWide
too_wide n e = by (nat_lt n CHANGE_SIZE) e
  where
    by : (b : Bool) → None ≡ (if b then Some n else None) → unless b UnitWide ≡ Err UnitWide
    by true e = cc
    by false e = refl

pub unit_fault : (bound : BoundParts) (facts : List model.Atom) (terms : List Term) (values : List (Term × Fraction)) (steps : List BoundStep) → values ≡ bound.values → steps ≡ bound.steps
    → few MOST_FACTS TooManyFacts (facts_of bound) ≡ Ok facts → few MOST_VALUES TooManyValues (values_of bound) ≡ Ok terms → None ≡ below CHANGE_SIZE (unit_for terms values steps)
    → scale_task bound ≡ Err UnitWide
unit_fault bound facts terms values steps v s p q wide =
    let e = passed (values_few (values_of bound)) (values_of bound) terms q in
    scale_by bound ∙ ap (λ a. flat_by a (values_few (values_of bound)) (unit_small (unit_of bound)) bound) (passed (facts_few (facts_of bound)) (facts_of bound) facts p).0
    ∙ ap (λ b. flat_by (Ok tt) b (unit_small (unit_of bound)) bound) e.0
    ∙ ap (λ c. flat_by (Ok tt) (Ok tt) c bound) (too_wide (unit_of bound) (wide ∙ ap (below CHANGE_SIZE) (unit_read bound terms values steps e.1 v s)))

-- where all is within limits, what is left are the start, the steps and the goal
flat_left : (facts : List model.Atom) (terms : List Term) (unit : ℕ) (bound : BoundParts)
    → and_then (after_tables facts terms unit bound) (λ known. Ok (flat_with (numbers_with facts terms unit known) bound)) ≡ scaled_from facts terms unit bound
flat_left facts terms unit bound =
    regroup (each_checked (checked_start unit bound) terms) (checked_steps facts terms unit [] bound.steps) (λ known. with_conditions Goal facts terms unit known bound.goal)
    (map (λ t. scaled_number unit (number_on bound.values t)) terms) (start_with facts bound) (λ start known. parts_with facts terms unit known start bound)
  where
    start_with : List model.Atom → BoundParts → List ℤ → FlatState
    start_with facts bound numbers = record { facts = facts_in facts bound.atoms; values = numbers }

pub tables_are : (bound : BoundParts) (facts : List model.Atom) (terms : List Term) (unit : ℕ) (values : List (Term × Fraction)) (steps : List BoundStep) → values ≡ bound.values → steps ≡ bound.steps
    → few MOST_FACTS TooManyFacts (facts_of bound) ≡ Ok facts → few MOST_VALUES TooManyValues (values_of bound) ≡ Ok terms → Some unit ≡ below CHANGE_SIZE (unit_for terms values steps)
    → AreTablesOf bound facts terms unit
tables_are bound facts terms unit values steps v s p q fits = record {
  facts_are = sym f.1;
  terms_are = sym t.1;
  unit_is = is;
  small = u.1;
  rest =
      scale_by bound ∙ ap (λ a. flat_by a (values_few (values_of bound)) (unit_small (unit_of bound)) bound) f.0
      ∙ ap (λ b. flat_by (Ok tt) b (unit_small (unit_of bound)) bound) t.0
      ∙ ap (λ b. flat_by (Ok tt) (Ok tt) (unless b UnitWide) bound) (lt-ltb (unit_of bound) CHANGE_SIZE (subst (λ n. n < CHANGE_SIZE) is u.1))
      ∙ flat_left (facts_of bound) (values_of bound) (unit_of bound) bound
      ∙ ap (λ l. scaled_from l (values_of bound) (unit_of bound) bound) f.1 ∙ ap (λ l. scaled_from facts l (unit_of bound) bound) t.1 ∙ ap (λ n. scaled_from facts terms n bound) (sym is);
}
  where
    f : (facts_few (facts_of bound) ≡ Ok tt) × (facts_of bound ≡ facts)
    f = passed (facts_few (facts_of bound)) (facts_of bound) facts p

    t : (values_few (values_of bound) ≡ Ok tt) × (values_of bound ≡ terms)
    t = passed (values_few (values_of bound)) (values_of bound) terms q

    u : (unit ≡ unit_for terms values steps) × (unit < CHANGE_SIZE)
    u = below_is CHANGE_SIZE (unit_for terms values steps) unit fits

    is : unit ≡ unit_of bound
    is = u.0 ∙ unit_read bound terms values steps t.1 v s

-- ---- what the parts rest on

condition_some : (values : List (Term × Fraction)) (c : BoundCond) → IsCondition values c → HasNonzero c
condition_some values (Atom positive a) is = tt
condition_some values (Compare op l) is = is.coefficients
condition_some values Never is = tt

conditions_some : (values : List (Term × Fraction)) (cs : List BoundCond) → All (IsCondition values) cs → All HasNonzero cs
conditions_some values cs all =
    All-from_recursion HasNonzero cs (each_weaker (IsCondition values) HasNonzero (condition_some values) cs (recursion_from_All (IsCondition values) cs all))

multiples_from : (terms : List Term) (unit : ℕ) (cs : List (Term × Fraction)) → AllByRecursion (λ c. c.1.den ∣ unit) (filter (λ c. list_any (same_term c.0) terms) cs)
    → AllByRecursion (λ c. list_any (same_term c.0) terms ≡ true → c.1.den ∣ unit) cs
multiples_from terms unit [] all = tt
multiples_from terms unit (c ∷ cs) all = by (list_any (same_term c.0) terms) refl all (multiples_from terms unit cs)
  where
    by : (b : Bool) → list_any (same_term c.0) terms ≡ b
        → AllByRecursion (λ d. d.1.den ∣ unit) (if b then c ∷ filter (λ d. list_any (same_term d.0) terms) cs else filter (λ d. list_any (same_term d.0) terms) cs)
        → (AllByRecursion (λ d. d.1.den ∣ unit) (filter (λ d. list_any (same_term d.0) terms) cs) → AllByRecursion (λ d. list_any (same_term d.0) terms ≡ true → d.1.den ∣ unit) cs)
        → AllByRecursion (λ d. list_any (same_term d.0) terms ≡ true → d.1.den ∣ unit) (c ∷ cs)
    by true e all rest = ((λ _. all.0), rest all.1)
    by false e all rest = ((λ there. absurd (both_ways (list_any (same_term c.0) terms) e there)), rest all)

-- the unit makes each net change on a value whole
changes_divide : (bound : BoundParts) → AllByRecursion (λ b. AreMultiples (values_of bound) (unit_of bound) b.changes) bound.steps
changes_divide bound =
    each_weaker (λ b. AllByRecursion (λ (x : Fraction). x.den ∣ unit_of bound) (changes_on (values_of bound) b.changes)) (λ b. AreMultiples (values_of bound) (unit_of bound) b.changes)
    (λ b all. All-from_recursion _ b.changes
    (multiples_from (values_of bound) (unit_of bound) b.changes (each_unmap (λ (x : Fraction). x.den ∣ unit_of bound) (λ c. c.1) (filter (λ c. list_any (same_term c.0) (values_of bound)) b.changes) all)))
    bound.steps
    (each_flat (λ (x : Fraction). x.den ∣ unit_of bound) (λ b. changes_on (values_of bound) b.changes) bound.steps
    (each_back (λ (x : Fraction). x.den ∣ unit_of bound) (map (number_on bound.values) (values_of bound)) (flat_map (λ b. changes_on (values_of bound) b.changes) bound.steps) (all_divide bound)))

pub parts_ready : (bound : BoundParts) (facts : List model.Atom) (terms : List Term) (unit : ℕ) → IsBound bound → AreTablesOf bound facts terms unit → ArePartsReady terms unit bound
parts_ready bound facts terms unit is tables = record {
  small = tables.small;
  steps = subst (λ n. All (IsReady terms n) bound.steps) (sym tables.unit_is) (subst (λ l. All (IsReady l (unit_of bound)) bound.steps) (sym tables.terms_are) ready);
  goal = conditions_some bound.values bound.goal is.goal;
}
  where
    step_ready : (b : BoundStep) → IsKept bound.values b × AreMultiples (values_of bound) (unit_of bound) b.changes → IsReady (values_of bound) (unit_of bound) b
    step_ready b both = record {
      values = once_distinct same_term same_term-Decides [] (flat_map terms_in (conditions_of bound)) distinct_none;
      positive = unit_above bound;
      needs = conditions_some bound.values b.needs both.0.needs;
      multiples = both.1;
      distinct = both.0.changes.distinct;
    }

    ready : All (IsReady (values_of bound) (unit_of bound)) bound.steps
    ready =
        All-from_recursion _ bound.steps
        (each_weaker (λ b. IsKept bound.values b × AreMultiples (values_of bound) (unit_of bound) b.changes) (IsReady (values_of bound) (unit_of bound)) step_ready bound.steps
        (each_both (IsKept bound.values) (λ b. AreMultiples (values_of bound) (unit_of bound) b.changes) bound.steps (recursion_from_All (IsKept bound.values) bound.steps is.steps) (changes_divide bound)))

-- what the start rests on
pub starts_whole : (bound : BoundParts) (facts : List model.Atom) (terms : List Term) (unit : ℕ) (values : List (Term × Fraction)) → AreTablesOf bound facts terms unit → values ≡ bound.values
    → AreStarts terms unit values
starts_whole bound facts terms unit values tables v =
    subst (λ l. AreStarts terms unit l) (sym v) (subst (λ n. AreStarts terms n bound.values) (sym tables.unit_is) (subst (λ l. AreStarts l (unit_of bound) bound.values) (sym tables.terms_are) (starts_are bound)))

pub tables_positive : (bound : BoundParts) (facts : List model.Atom) (terms : List Term) (unit : ℕ) → AreTablesOf bound facts terms unit → 0 < unit
tables_positive bound facts terms unit tables = subst (λ n. 0 < n) (sym tables.unit_is) (unit_above bound)

-- ---- the whole

-- a fault of the start is one of the whole
pub start_fault : (e : ScaleFault) (bound : BoundParts) (facts : List model.Atom) (terms : List Term) (unit : ℕ) (values : List (Term × Fraction)) (atoms : List model.Atom)
    → AreTablesOf bound facts terms unit → values ≡ bound.values → atoms ≡ bound.atoms → Refuses e (checked_state facts terms unit values atoms) → Refuses e (scale_task bound)
start_fault e bound facts terms unit values atoms tables v a h =
    refuse_by e (checked_state facts terms unit values atoms) (scale_task bound)
    (λ is. tables.rest ∙ ap (λ r. and_then r (λ start. checked_parts facts terms unit start bound))
    (ap (λ l. checked_state facts terms unit l bound.atoms) (sym v) ∙ ap (checked_state facts terms unit values) (sym a) ∙ is)) h

-- after the start, the parts are the whole
pub start_then : (bound : BoundParts) (facts : List model.Atom) (terms : List Term) (unit : ℕ) (values : List (Term × Fraction)) (atoms : List model.Atom) (start : FlatState) (r : Result Parts ScaleFault)
    → AreTablesOf bound facts terms unit → values ≡ bound.values → atoms ≡ bound.atoms → checked_state facts terms unit values atoms ≡ Ok start
    → Answers r (checked_parts facts terms unit start bound) → Answers r (scale_task bound)
start_then bound facts terms unit values atoms start r tables v a read h =
    subst (Answers r)
    (sym (tables.rest ∙ ap (λ r. and_then r (λ start. checked_parts facts terms unit start bound))
    (ap (λ l. checked_state facts terms unit l bound.atoms) (sym v) ∙ ap (checked_state facts terms unit values) (sym a) ∙ read))) h

-- ---- the parts

-- a fault of the goal
pub goal_fault : (e : ScaleFault) (facts : List model.Atom) (terms : List Term) (unit : ℕ) (known : List Subgoal) (start : FlatState) (bound : BoundParts) → checked_steps facts terms unit [] bound.steps ≡ Ok known
    → Refuses e (with_conditions Goal facts terms unit known bound.goal) → Refuses e (checked_parts facts terms unit start bound)
goal_fault e facts terms unit known start bound read h =
    refuse_by e (with_conditions Goal facts terms unit known bound.goal) (checked_parts facts terms unit start bound)
    (λ is. ap (λ r. and_then r (λ known. and_then (with_conditions Goal facts terms unit known bound.goal) (λ all. Ok (parts_with facts terms unit all start bound)))) read
    ∙ ap (λ r. and_then r (λ all. Ok (parts_with facts terms unit all start bound))) is) h

-- parts that are made of these
pub parts_made : (facts : List model.Atom) (terms : List Term) (unit : ℕ) (known all : List Subgoal) (start : FlatState) (bound : BoundParts) (parts : Parts)
    → checked_steps facts terms unit [] bound.steps ≡ Ok known → AreStepsOf facts terms unit known bound.steps parts.steps
    → with_conditions Goal facts terms unit known bound.goal ≡ Ok all → ArePut all (all_subgoals facts terms unit bound.goal) [] parts.goal
    → parts.unit ≡ pos unit → parts.facts ≡ facts → parts.values ≡ terms → parts.start ≡ start → parts.subgoals ≡ all → checked_parts facts terms unit start bound ≡ Ok parts
parts_made facts terms unit known all start bound parts read steps last goal e1 e2 e3 e4 e5 =
    ap (λ r. and_then r (λ known. and_then (with_conditions Goal facts terms unit known bound.goal) (λ all. Ok (parts_with facts terms unit all start bound)))) read
    ∙ ap (λ r. and_then r (λ all. Ok (parts_with facts terms unit all start bound))) last
    ∙ ap Ok (sym (by parts.unit parts.facts parts.values parts.start parts.subgoals parts.steps parts.goal e1 e2 e3 e4 e5
    (steps all (with_subgoals_grows known (flat_map (checked_subgoals Goal facts terms unit) bound.goal) all last)) (goal.numbers all (start_itself all))))
  where
    by : (n : ℤ) (fs : List model.Atom) (ts : List Term) (st : FlatState) (qs : List Subgoal) (ss : List FlatStep) (gs : List ℕ) → n ≡ pos unit → fs ≡ facts → ts ≡ terms → st ≡ start → qs ≡ all
        → ss ≡ map (flat_step (numbers_with facts terms unit all)) bound.steps → gs ≡ subgoal_numbers (numbers_with facts terms unit all) bound.goal
        → record { unit = n; facts = fs; values = ts; start = st; subgoals = qs; steps = ss; goal = gs } ≡ parts_with facts terms unit all start bound
    by n fs ts st qs ss gs e1 e2 e3 e4 e5 e6 e7 = rw (e1, e2, e3, e4, e5, e6, e7) refl
