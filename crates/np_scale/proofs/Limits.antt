-- What it says that a bound task is within all limits.
use Rattle.std.proofs.Common.{◌≡◌, ℕ, ◌≤◌, ◌<◌, Bool, true, false, not, ◌&&◌, pos, unsigned_abs, nat_lt, int_lt, ◌==◌, refl, sym, ◌∙◌, ap, subst, arith, List, [], ◌∷◌, ◌++◌, map, length, Result, Ok, Err}
use Rattle.std.specs.Prelude.{if◌then◌else◌}
use Rattle.std.specs.List.{flat_map, list_any, AllByRecursion}
use Rattle.std.proofs.lemmas.Bool.{and_parts, ltb-true, ltb-false, not-true, eqb-true}
use Rattle.std.proofs.lemmas.List.{length_push, length-map}
use Rattle.std.proofs.lemmas.List.Concat.{flat_map-append}
use Rattle.np_model.specs.declared.task.Atom as model
use Rattle.np_model.specs.declared.task.Term.{Term}
use Rattle.np_model.specs.Ground.{same_term}
use Rattle.np_linear.specs.Answers.{and_then}
use Rattle.np_linear.proofs.Chains.{goes_on, same_Ok, cause_answers}
use Rattle.np_bind.specs.declared.bound.Spot.{Spot}
use Rattle.np_bind.specs.declared.bound.Spot.TheVariants.{Step, Value, Goal}
use Rattle.np_bind.specs.declared.bound.BoundCond.{BoundCond}
use Rattle.np_bind.specs.declared.bound.BoundCond.TheVariants.{Atom, Compare, Never}
use Rattle.np_bind.specs.declared.bound.BoundStep.{BoundStep}
use Rattle.np_bind.specs.declared.bound.BoundParts.{BoundParts}
use Rattle.np_bind.specs.Grounding.{number_on}
use Rattle.np_flat.specs.declared.limits.TheConstants.{MOST_FACTS, MOST_VALUES, MOST_SUBGOALS, MOST_TERMS, CHANGE_SIZE, COST_SIZE}
use Rattle.np_flat.specs.declared.parts.Parts.{Parts}
use Rattle.np_flat.specs.declared.parts.Subgoal.{Subgoal}
use Rattle.np_flat.specs.declared.parts.Subgoal.TheVariants as subgoal
use Rattle.np_scale.specs.declared.fault.ScaleFault.{ScaleFault}
use Rattle.np_scale.specs.declared.fault.ScaleFault.TheVariants.{TooManyFacts, TooManyValues, TooManySubgoals, UnitWide, NumberWide, FormLong, CostNegative, CostNotWhole, CostWide}
use Rattle.np_scale.specs.Tables.{each_once, number_of, conditions_of, facts_of, values_of}
use Rattle.np_scale.specs.Wholes.{unit_of, scaled_number, whole_times}
use Rattle.np_scale.specs.Forms.{Inequality, inequalities_of, form_of, literal_of, never_form, subgoals_in, coefficients_of, factor_on}
use Rattle.np_scale.specs.FlatOf.{same_subgoal, all_subgoals, flat_of}
use Rattle.np_scale.specs.Limits.{Checked, unless, each_checked, is_small_form, fractions_fit, checked_form, checked_subgoals, with_subgoal, with_subgoals, with_conditions, checked_start, checked_change, checked_cost, checked_step, checked_steps, subgoals_within_limits}
use Rattle.np_scale.specs.Scaling.{scale_task}
use Rattle.np_scale.proofs.Once.{once_append}
use Rattle.np_scale.proofs.InPlace.{length_ascending}

-- ---- what is checked

unless_ok : (b : Bool) (fault : ScaleFault) (u : Unit {0}) → unless b fault ≡ Ok u → b ≡ true
unless_ok true fault u e = refl
unless_ok false fault u e = cause_answers fault u e

each_ok : {A : Type 0} (P : A → Type 0) (check : A → Checked) → ((x : A) (u : Unit {0}) → check x ≡ Ok u → P x) → (xs : List A) (u : Unit {0}) → each_checked check xs ≡ Ok u → AllByRecursion P xs
each_ok P check says [] u e = tt
each_ok P check says (x ∷ xs) u e =
    goes_on (check x) (λ v. each_checked check xs) u e (λ v one rest. (says x v one, each_ok P check says xs u rest))

at_most : (limit n : ℕ) → not (nat_lt limit n) ≡ true → n ≤ limit
at_most limit n e = ltb-false limit n (not-true (nat_lt limit n) e)

-- ---- subgoals

-- a subgoal within its limits: a form with few terms and small numbers
abbrev pub IsSmall : Subgoal → Type 0
IsSmall (subgoal.Fact p) = Unit {0}
IsSmall (subgoal.NotFact p) = Unit {0}
IsSmall (subgoal.Form form) = (length form.terms ≤ MOST_TERMS) × (is_small_form form ≡ true)

-- if there is an answer, it is this subgoal, which is small
abbrev Comes : Result Subgoal ScaleFault → Subgoal → Type 0
Comes r q = (y : Subgoal) → r ≡ Ok y → (y ≡ q) × IsSmall q

-- one by one
abbrev AllCome : List (Result Subgoal ScaleFault) → List Subgoal → Type 0
AllCome [] [] = Unit {0}
AllCome [] (q ∷ qs) = ⊥
AllCome (r ∷ rs) [] = ⊥
AllCome (r ∷ rs) (q ∷ qs) = Comes r q × AllCome rs qs

come_append : (rs : List (Result Subgoal ScaleFault)) (qs : List Subgoal) (ss : List (Result Subgoal ScaleFault)) (ps : List Subgoal) → AllCome rs qs → AllCome ss ps → AllCome (rs ++ ss) (qs ++ ps)
come_append [] [] ss ps p q = q
come_append [] (x ∷ qs) ss ps p q = absurd p
come_append (r ∷ rs) [] ss ps p q = absurd p
come_append (r ∷ rs) (x ∷ qs) ss ps p q = (p.0, come_append rs qs ss ps p.1 q)

length_terms : (terms : List Term) (unit : ℕ) (side : Inequality) → length (form_of terms unit side).terms ≡ length side.1.terms
length_terms terms unit side =
    length-map (coefficients_of terms side.1) (λ c. (c.0, whole_times (factor_on terms side.1) c.1))
    ∙ length_ascending (map (λ t. (number_of same_term terms t.0, t.1)) side.1.terms)
    ∙ length-map side.1.terms (λ t. (number_of same_term terms t.0, t.1))

form_comes : (spot : Spot) (terms : List Term) (unit : ℕ) (side : Inequality) → Comes (checked_form spot terms unit side) (subgoal.Form (form_of terms unit side))
form_comes spot terms unit side y e =
    goes_on (unless (not (nat_lt MOST_TERMS (length side.1.terms))) (FormLong spot)) _ y e (λ u short rest.
    goes_on (unless (fractions_fit terms unit side.1 && is_small_form (form_of terms unit side)) (NumberWide spot)) _ y rest (λ v small last. (
      sym (same_Ok (subgoal.Form (form_of terms unit side)) y last),
      (
        subst (λ n. n ≤ MOST_TERMS) (sym (length_terms terms unit side)) (at_most MOST_TERMS (length side.1.terms) (unless_ok _ (FormLong spot) u short)),
        (and_parts (fractions_fit terms unit side.1) (is_small_form (form_of terms unit side)) (unless_ok _ (NumberWide spot) v small)).1,
      ),
    )))

forms_come : (spot : Spot) (terms : List Term) (unit : ℕ) (sides : List Inequality) → AllCome (map (checked_form spot terms unit) sides) (map (λ side. subgoal.Form (form_of terms unit side)) sides)
forms_come spot terms unit [] = tt
forms_come spot terms unit (side ∷ sides) = (form_comes spot terms unit side, forms_come spot terms unit sides)

literal_comes : (facts : List model.Atom) (positive : Bool) (a : model.Atom) → Comes (Ok (literal_of facts positive a)) (literal_of facts positive a)
literal_comes facts true a y e = (sym (same_Ok (literal_of facts true a) y e), tt)
literal_comes facts false a y e = (sym (same_Ok (literal_of facts false a) y e), tt)

never_comes : Comes (Ok (subgoal.Form never_form)) (subgoal.Form never_form)
never_comes y e = (sym (same_Ok (subgoal.Form never_form) y e), (few, refl))
  where
    few : 0 ≤ MOST_TERMS
    few = omega arith

condition_comes : (spot : Spot) (facts : List model.Atom) (terms : List Term) (unit : ℕ) (c : BoundCond) → AllCome (checked_subgoals spot facts terms unit c) (subgoals_in facts terms unit c)
condition_comes spot facts terms unit (Atom positive a) = (literal_comes facts positive a, tt)
condition_comes spot facts terms unit (Compare op l) = forms_come spot terms unit (inequalities_of op l)
condition_comes spot facts terms unit Never = (never_comes, tt)

all_come : (spot : Spot) (facts : List model.Atom) (terms : List Term) (unit : ℕ) (cs : List BoundCond) → AllCome (flat_map (checked_subgoals spot facts terms unit) cs) (all_subgoals facts terms unit cs)
all_come spot facts terms unit [] = tt
all_come spot facts terms unit (c ∷ cs) =
    come_append (checked_subgoals spot facts terms unit c) (subgoals_in facts terms unit c) (flat_map (checked_subgoals spot facts terms unit) cs) (all_subgoals facts terms unit cs)
    (condition_comes spot facts terms unit c) (all_come spot facts terms unit cs)

-- the known subgoals with these: each once, few enough, and the new ones are small
pub record AreKnown (known qs more : List Subgoal) : Type 0 where
  pub is : more ≡ each_once same_subgoal known qs
  pub few : length more ≤ MOST_SUBGOALS
  pub small : AllByRecursion IsSmall qs

one_known : (known : List Subgoal) (q : Subgoal) (more : List Subgoal) → length known ≤ MOST_SUBGOALS → with_subgoal known q ≡ Ok more
    → (more ≡ (if list_any (same_subgoal q) known then known else known ++ q ∷ [])) × (length more ≤ MOST_SUBGOALS)
one_known known q more few e = by (list_any (same_subgoal q) known) (nat_lt (length known) MOST_SUBGOALS) refl e
  where
    by : (there room : Bool) → nat_lt (length known) MOST_SUBGOALS ≡ room
        → (if there then Ok known else if room then Ok (known ++ q ∷ []) else Err TooManySubgoals) ≡ Ok more
        → (more ≡ (if there then known else known ++ q ∷ [])) × (length more ≤ MOST_SUBGOALS)
    by true room is e = let same : known ≡ more = same_Ok known more e in (sym same, subst (λ (xs : List Subgoal). length xs ≤ MOST_SUBGOALS) same few)
    by false true is e =
        let same : (known ++ q ∷ []) ≡ more = same_Ok (known ++ q ∷ []) more e in
        (sym same, subst (λ (xs : List Subgoal). length xs ≤ MOST_SUBGOALS) same (subst (λ n. n ≤ MOST_SUBGOALS) (sym (length_push known q)) (omega (arith, ltb-true (length known) MOST_SUBGOALS is))))
    by false false is e = cause_answers TooManySubgoals more e

known_from : (known : List Subgoal) (rs : List (Result Subgoal ScaleFault)) (qs more : List Subgoal) → AllCome rs qs → length known ≤ MOST_SUBGOALS → with_subgoals known rs ≡ Ok more → AreKnown known qs more
known_from known [] [] more come few e =
    let same : known ≡ more = same_Ok known more e in
    record { is = sym same; few = subst (λ (xs : List Subgoal). length xs ≤ MOST_SUBGOALS) same few; small = tt }
known_from known [] (q ∷ qs) more come few e = absurd come
known_from known (r ∷ rs) [] more come few e = absurd come
known_from known (r ∷ rs) (q ∷ qs) more come few e =
    goes_on r (λ p. and_then (with_subgoal known p) (λ next. with_subgoals next rs)) more e (λ p read rest.
    goes_on (with_subgoal known p) (λ next. with_subgoals next rs) more rest (λ next one last.
    let is = come.0 p read in
    let known_one = one_known known p next few one in
    let later = known_from next rs qs more come.1 known_one.1 last in
    record {
      is = later.is ∙ ap (λ xs. each_once same_subgoal xs qs) (known_one.0 ∙ ap (λ z. if list_any (same_subgoal z) known then known else known ++ z ∷ []) is.0);
      few = later.few;
      small = (is.1, later.small);
    }))

conditions_known : (spot : Spot) (facts : List model.Atom) (terms : List Term) (unit : ℕ) (known : List Subgoal) (cs : List BoundCond) (more : List Subgoal)
    → length known ≤ MOST_SUBGOALS → with_conditions spot facts terms unit known cs ≡ Ok more → AreKnown known (all_subgoals facts terms unit cs) more
conditions_known spot facts terms unit known cs more few e =
    known_from known (flat_map (checked_subgoals spot facts terms unit) cs) (all_subgoals facts terms unit cs) more (all_come spot facts terms unit cs) few e

-- ---- steps

-- a step within its limits
pub record IsFitting (facts : List model.Atom) (terms : List Term) (unit : ℕ) (b : BoundStep) : Type 0 where
  pub needs : AllByRecursion IsSmall (all_subgoals facts terms unit b.needs)
  pub changes : AllByRecursion (λ t. unsigned_abs (scaled_number unit (number_on b.changes t)) < CHANGE_SIZE) terms
  pub cost_sign : int_lt b.cost.num (pos 0) ≡ false
  pub cost_whole : b.cost.den ≡ 1
  pub cost : unsigned_abs b.cost.num < COST_SIZE

record StepKnown (facts : List model.Atom) (terms : List Term) (unit : ℕ) (known : List Subgoal) (b : BoundStep) (more : List Subgoal) : Type 0 where
  fits : IsFitting facts terms unit b
  all : AreKnown known (all_subgoals facts terms unit b.needs) more

step_known : (facts : List model.Atom) (terms : List Term) (unit : ℕ) (known : List Subgoal) (b : BoundStep) (more : List Subgoal)
    → length known ≤ MOST_SUBGOALS → checked_step facts terms unit known b ≡ Ok more → StepKnown facts terms unit known b more
step_known facts terms unit known b more few e =
    goes_on (with_conditions (Step b.step) facts terms unit known b.needs) _ more e (λ next needs rest.
    goes_on (each_checked (checked_change unit b) terms) _ more rest (λ u changes later.
    goes_on (checked_cost b) _ more later (λ v costs last.
    goes_on (unless (not (int_lt b.cost.num (pos 0))) (CostNegative b.step)) _ v costs (λ x sign whole_and_small.
    goes_on (unless (b.cost.den == 1) (CostNotWhole b.step)) _ v whole_and_small (λ y whole small.
    let all = conditions_known (Step b.step) facts terms unit known b.needs next few needs in
    record {
      fits = record {
        needs = all.small;
        changes = each_ok (λ t. unsigned_abs (scaled_number unit (number_on b.changes t)) < CHANGE_SIZE) (checked_change unit b) change_is terms u changes;
        cost_sign = not-true (int_lt b.cost.num (pos 0)) (unless_ok _ (CostNegative b.step) x sign);
        cost_whole = eqb-true b.cost.den 1 (unless_ok _ (CostNotWhole b.step) y whole);
        cost = ltb-true (unsigned_abs b.cost.num) COST_SIZE (unless_ok _ (CostWide b.step) v small);
      };
      all = subst (λ (xs : List Subgoal). AreKnown known (all_subgoals facts terms unit b.needs) xs) (same_Ok next more last) all;
    })))))
  where
    change_is : (t : Term) (u : Unit {0}) → checked_change unit b t ≡ Ok u → unsigned_abs (scaled_number unit (number_on b.changes t)) < CHANGE_SIZE
    change_is t u e = ltb-true (unsigned_abs (scaled_number unit (number_on b.changes t))) CHANGE_SIZE (unless_ok _ (NumberWide (Step b.step)) u e)

-- the conditions of steps
abbrev pub needs_of : List BoundStep → List BoundCond
needs_of bs = flat_map (λ b. b.needs) bs

pub record StepsKnown (facts : List model.Atom) (terms : List Term) (unit : ℕ) (known : List Subgoal) (bs : List BoundStep) (more : List Subgoal) : Type 0 where
  pub fit : AllByRecursion (IsFitting facts terms unit) bs
  pub is : more ≡ each_once same_subgoal known (all_subgoals facts terms unit (needs_of bs))
  pub few : length more ≤ MOST_SUBGOALS

steps_known : (facts : List model.Atom) (terms : List Term) (unit : ℕ) (known : List Subgoal) (bs : List BoundStep) (more : List Subgoal)
    → length known ≤ MOST_SUBGOALS → checked_steps facts terms unit known bs ≡ Ok more → StepsKnown facts terms unit known bs more
steps_known facts terms unit known [] more few e =
    let same : known ≡ more = same_Ok known more e in
    record { fit = tt; is = sym same; few = subst (λ (xs : List Subgoal). length xs ≤ MOST_SUBGOALS) same few }
steps_known facts terms unit known (b ∷ bs) more few e =
    goes_on (checked_step facts terms unit known b) (λ next. checked_steps facts terms unit next bs) more e (λ next one rest.
    let first = step_known facts terms unit known b next few one in
    let later = steps_known facts terms unit next bs more first.all.few rest in
    record {
      fit = (first.fits, later.fit);
      is =
          later.is ∙ ap (λ xs. each_once same_subgoal xs (all_subgoals facts terms unit (needs_of bs))) first.all.is
          ∙ sym (once_append same_subgoal known (all_subgoals facts terms unit b.needs) (all_subgoals facts terms unit (needs_of bs)))
          ∙ ap (each_once same_subgoal known) (sym (flat_map-append (subgoals_in facts terms unit) b.needs (needs_of bs)));
      few = later.few;
    })

-- ---- the whole

-- a bound task within all limits, with its subgoals
pub record IsWithin (bound : BoundParts) (known : List Subgoal) : Type 0 where
  pub few_facts : length (facts_of bound) ≤ MOST_FACTS
  pub few_values : length (values_of bound) ≤ MOST_VALUES
  pub unit : unit_of bound < CHANGE_SIZE
  pub starts : AllByRecursion (λ t. unsigned_abs (scaled_number (unit_of bound) (number_on bound.values t)) < CHANGE_SIZE) (values_of bound)
  pub steps : AllByRecursion (IsFitting (facts_of bound) (values_of bound) (unit_of bound)) bound.steps
  pub goal : AllByRecursion IsSmall (all_subgoals (facts_of bound) (values_of bound) (unit_of bound) bound.goal)
  pub is : known ≡ each_once same_subgoal [] (all_subgoals (facts_of bound) (values_of bound) (unit_of bound) (conditions_of bound))
  pub few_subgoals : length known ≤ MOST_SUBGOALS

pub within_limits : (bound : BoundParts) (known : List Subgoal) → subgoals_within_limits bound ≡ Ok known → IsWithin bound known
unfolding subgoals_within_limits
within_limits bound known e =
    goes_on (unless (not (nat_lt MOST_FACTS (length (facts_of bound)))) TooManyFacts) _ known e (λ a facts e1.
    goes_on (unless (not (nat_lt MOST_VALUES (length (values_of bound)))) TooManyValues) _ known e1 (λ b values e2.
    goes_on (unless (nat_lt (unit_of bound) CHANGE_SIZE) UnitWide) _ known e2 (λ c unit e3.
    goes_on (each_checked (checked_start (unit_of bound) bound) (values_of bound)) _ known e3 (λ d starts e4.
    goes_on (checked_steps (facts_of bound) (values_of bound) (unit_of bound) [] bound.steps) _ known e4 (λ mid steps goal.
    let first = steps_known (facts_of bound) (values_of bound) (unit_of bound) [] bound.steps mid none steps in
    let last = conditions_known Goal (facts_of bound) (values_of bound) (unit_of bound) mid bound.goal known first.few goal in
    record {
      few_facts = at_most MOST_FACTS (length (facts_of bound)) (unless_ok _ TooManyFacts a facts);
      few_values = at_most MOST_VALUES (length (values_of bound)) (unless_ok _ TooManyValues b values);
      unit = ltb-true (unit_of bound) CHANGE_SIZE (unless_ok _ UnitWide c unit);
      starts = each_ok (λ t. unsigned_abs (scaled_number (unit_of bound) (number_on bound.values t)) < CHANGE_SIZE) (checked_start (unit_of bound) bound) start_is (values_of bound) d starts;
      steps = first.fit;
      goal = last.small;
      is =
          last.is ∙ ap (λ xs. each_once same_subgoal xs (all_subgoals (facts_of bound) (values_of bound) (unit_of bound) bound.goal)) first.is
          ∙ sym (once_append same_subgoal [] (all_subgoals (facts_of bound) (values_of bound) (unit_of bound) (needs_of bound.steps)) (all_subgoals (facts_of bound) (values_of bound) (unit_of bound) bound.goal))
          ∙ ap (each_once same_subgoal []) (sym (flat_map-append (subgoals_in (facts_of bound) (values_of bound) (unit_of bound)) (needs_of bound.steps) bound.goal));
      few_subgoals = last.few;
    })))))
  where
    none : 0 ≤ MOST_SUBGOALS
    none = omega arith

    start_is : (t : Term) (u : Unit {0}) → checked_start (unit_of bound) bound t ≡ Ok u → unsigned_abs (scaled_number (unit_of bound) (number_on bound.values t)) < CHANGE_SIZE
    start_is t u e = ltb-true (unsigned_abs (scaled_number (unit_of bound) (number_on bound.values t))) CHANGE_SIZE (unless_ok _ (NumberWide (Value t)) u e)

-- a flat task that is answered: it is that of the definitions, and the bound task is within all limits
pub record IsScaled (bound : BoundParts) (flat : Parts) : Type 0 where
  pub known : List Subgoal
  pub within : IsWithin bound known
  pub is : flat ≡ flat_of bound

pub scaled_task : (bound : BoundParts) (flat : Parts) → scale_task bound ≡ Ok flat → IsScaled bound flat
unfolding scale_task
scaled_task bound flat e =
    goes_on (subgoals_within_limits bound) (λ known. Ok (flat_of bound)) flat e (λ known all last.
    record { known = known; within = within_limits bound known all; is = sym (same_Ok (flat_of bound) flat last) })
