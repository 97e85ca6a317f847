-- The flat steps of a flat task are the images of its bound steps, and its start stands for the start.
use Rattle.std.proofs.Common.{◌≡◌, ℕ, zero, suc, ◌+◌, ◌<◌, Bool, true, false, ◌||◌, not, ◌==◌, unsigned_abs, ℤ, pos, ◌+ℤ◌, refl, sym, ◌∙◌, ap, ap₂, subst, arith, List, [], ◌∷◌, map, length, Some, None, Option, IsTrue, is_some}
use Rattle.std.specs.Prelude.{option_map, filter, if◌then◌else◌, slice_get}
use Rattle.std.specs.Option.{option_map_or}
use Rattle.std.specs.List.{AllByRecursion, list_any, flat_map}
use Rattle.std.proofs.lemmas.Bool.{both_ways, false≢true, false_from_ne_true}
use Rattle.std.proofs.lemmas.Bool.Decides.{Decides-eqb, Decides-like, same_from_decides}
use Rattle.std.proofs.Math.Bool.{or-false}
use Rattle.std.proofs.lemmas.Int.{ints}
use Rattle.std.proofs.lemmas.List.{length-set, get_or-map, get_or-set_same, get_or-set_other}
use Rattle.std.proofs.lemmas.List.Elements.{recursion_from_All}
use Rattle.std.proofs.lemmas.Option.{none-some, same_Some, slice_get_within, get_or_from_slice_get, slice_get-map}
use Rattle.np_frac.specs.Fractions.{Fraction, whole, plus, times}
use Rattle.np_frac.specs.Field.{whole_plus, whole_num, times_zero}
use Rattle.np_frac.specs.Checked.{is_zero}
use Rattle.np_frac.specs.Quotients.{zero_is}
use Rattle.np_model.specs.declared.task.Atom as model
use Rattle.np_model.specs.declared.task.Term.{Term}
use Rattle.np_model.specs.Ground.{same_atom, same_term, same_atom-Decides, same_term-Decides}
use Rattle.np_model.specs.States.{State, is_among, value_among}
use Rattle.np_model.specs.Tasks.{AreDistinct}
use Rattle.np_model.proofs.Lists.{has_kept}
use Rattle.np_flat.specs.declared.state.FlatState.{FlatState}
use Rattle.np_flat.specs.Flats.{IsFlat}
use Rattle.np_flat.specs.States as flat_states
use Rattle.np_flat.specs.States.{has, value_at, changed, all_changed}
use Rattle.np_flat.proofs.Ascending.{has_put_all}
use Rattle.np_flat.proofs.Steps.{state_of_after}
use Rattle.np_flat.proofs.Runs.{step_there}
use Rattle.np_linear.specs.Linears.{zero as zero_number}
use Rattle.np_bind.specs.declared.bound.BoundCond.{BoundCond}
use Rattle.np_bind.specs.declared.bound.BoundCond.TheVariants.{Atom, Compare, Never}
use Rattle.np_bind.specs.declared.bound.BoundStep.{BoundStep}
use Rattle.np_bind.specs.declared.bound.BoundParts.{BoundParts}
use Rattle.np_bind.specs.BoundTasks.{HasValue, IsCondition, IsBound}
use Rattle.np_bind.specs.Grounding.{number_on}
use Rattle.np_bind.specs.BoundPlans.{bound_start, is_bound_goal}
use Rattle.np_scale.specs.Same.{StandsFor}
use Rattle.np_scale.specs.Tables.{number_of, terms_in, conditions_of}
use Rattle.np_scale.specs.Wholes.{scaled_number}
use Rattle.np_scale.specs.Forms.{subgoals_in}
use Rattle.np_scale.specs.FlatOf.{FlatTables, fact_numbers, changes_from, flat_step, flat_start, flat_with}
use Rattle.np_scale.proofs.Every.{each_weaker, each_map, each_flat_from, each_all, each_at}
use Rattle.np_scale.proofs.Once.{number_names, number_at, there_at}
use Rattle.np_scale.proofs.Readings.{IsFound, conditions_found, of_steps, of_goal}
use Rattle.np_scale.proofs.SubgoalNumbers.{AreListed, Agrees, hold_by_number}
use Rattle.np_scale.proofs.Images.{IsImage}

-- what tables, the unit and limits give: numbers name what they stand for, and scaled numbers are exact
pub record HasExactNumbers (n : FlatTables) (bound : BoundParts) : Type 0 where
  pub flat : IsFlat (flat_with n bound)
  pub facts : AreDistinct n.facts
  pub listed : AllByRecursion (λ c. AreListed n.subgoals (subgoals_in n.facts n.terms n.unit c)) (conditions_of bound)
  pub there : (k : ℕ) (t : Term) → slice_get n.terms k ≡ Some t → HasValue bound.values t
  pub starts : (k : ℕ) (t : Term) → slice_get n.terms k ≡ Some t → whole (scaled_number n.unit (number_on bound.values t)) ≡ times (whole (pos n.unit)) (number_on bound.values t)
  pub changes : (i : ℕ) (b : BoundStep) → slice_get bound.steps i ≡ Some b → (k : ℕ) (t : Term) → slice_get n.terms k ≡ Some t
      → whole (scaled_number n.unit (number_on b.changes t)) ≡ times (whole (pos n.unit)) (number_on b.changes t)
  pub costs : (i : ℕ) (b : BoundStep) → slice_get bound.steps i ≡ Some b → whole (pos (unsigned_abs b.cost.num)) ≡ b.cost
  pub agree : (s : State) (f : FlatState) → StandsFor (flat_with n bound) s f → AllByRecursion (Agrees n.facts n.terms n.unit s f) (conditions_of bound)

-- ---- facts

-- a fact is among atoms exactly where its number is among the numbers of those that are facts
numbers_have : (facts atoms : List model.Atom) (p : ℕ) (a : model.Atom) → AreDistinct facts → slice_get facts p ≡ Some a
    → has (map (number_of same_atom facts) (filter (is_among facts) atoms)) p ≡ is_among atoms a
numbers_have facts [] p a apart at = refl
numbers_have facts (x ∷ atoms) p a apart at = by (is_among facts x) refl (numbers_have facts atoms p a apart at)
  where
    -- the fact of the number p is the atom, and no other
    is_fact : is_among facts x ≡ true → number_of same_atom facts x ≡ p → a ≡ x
    is_fact is e = same_Some a x (sym at ∙ ap (slice_get facts) (sym e) ∙ number_names same_atom same_atom-Decides facts x is)

    has_number : a ≡ x → number_of same_atom facts x ≡ p
    has_number e = ap (number_of same_atom facts) (sym e) ∙ number_at same_atom same_atom-Decides facts apart p a at

    other : is_among facts x ≡ false → same_atom a x ≡ false
    other is =
        false_from_ne_true (same_atom a x)
        (λ e. both_ways (is_among facts x) is (ap (is_among facts) (sym ((same_atom-Decides a x).0 e)) ∙ there_at same_atom same_atom-Decides facts p a at))

    by : (c : Bool) → is_among facts x ≡ c → has (map (number_of same_atom facts) (filter (is_among facts) atoms)) p ≡ is_among atoms a
        → has (map (number_of same_atom facts) (if c then x ∷ filter (is_among facts) atoms else filter (is_among facts) atoms)) p ≡ (same_atom a x || is_among atoms a)
    by true is rest =
        ap₂ (λ b c. b || c)
        (same_from_decides (number_of same_atom facts x == p) (same_atom a x)
        (Decides-like (number_of same_atom facts x == p) (is_fact is) has_number (Decides-eqb (number_of same_atom facts x) p)) (same_atom-Decides a x))
        rest
    by false is rest = rest ∙ ap (λ b. b || is_among atoms a) (sym (other is))

pub fact_numbers_have : (n : FlatTables) (atoms : List model.Atom) (p : ℕ) (a : model.Atom) → AreDistinct n.facts → slice_get n.facts p ≡ Some a → has (fact_numbers n atoms) p ≡ is_among atoms a
fact_numbers_have n atoms p a apart at =
    let ns : List ℕ = map (number_of same_atom n.facts) (filter (is_among n.facts) atoms) in
    has_put_all ns [] p ∙ or-false (has ns p) ∙ numbers_have n.facts atoms p a apart at

-- ---- values

-- a number that is 0 is 0 also when it is scaled
pub scaled_zero : (unit : ℕ) (x : Fraction) → is_zero x ≡ true → scaled_number unit x ≡ pos 0
scaled_zero unit x e = ap (λ (y : Fraction). (times (whole (pos unit)) y).num) (zero_is x e) ∙ ap (λ (y : Fraction). y.num) (times_zero (whole (pos unit))) ∙ whole_num (pos 0)

-- the changes from a number on leave the values before it as they are
before_kept : (unit k : ℕ) (changes : List (Term × Fraction)) (ts : List Term) (xs : List ℤ) (m : ℕ) → m < k → value_at (all_changed (changes_from unit k changes ts) xs) m ≡ value_at xs m
before_kept unit k changes [] xs m less = refl
before_kept unit k changes (t ∷ ts) xs m less = by (is_zero (number_on changes t)) (λ ys. before_kept unit (suc k) changes ts ys m (omega arith))
  where
    by : (c : Bool) → ((ys : List ℤ) → value_at (all_changed (changes_from unit (suc k) changes ts) ys) m ≡ value_at ys m)
        → value_at (all_changed (if c then changes_from unit (suc k) changes ts else ((k, scaled_number unit (number_on changes t)) ∷ changes_from unit (suc k) changes ts)) xs) m ≡ value_at xs m
    by true later = later xs
    by false later =
        later (changed xs (k, scaled_number unit (number_on changes t)))
        ∙ get_or-set_other xs k m (value_at xs k +ℤ scaled_number unit (number_on changes t)) (pos 0) (omega arith)

plus_zero : (v : ℤ) → v ≡ v +ℤ pos 0
plus_zero v = omega (arith, ints)

-- the value of a term grows by the scaled change on it
pub value_changed : (unit k : ℕ) (changes : List (Term × Fraction)) (ts : List Term) (xs : List ℤ) (j m : ℕ) (t : Term) → slice_get ts j ≡ Some t → m ≡ k + j → m < length xs
    → value_at (all_changed (changes_from unit k changes ts) xs) m ≡ value_at xs m +ℤ scaled_number unit (number_on changes t)
value_changed unit k changes [] xs j m t at is within = absurd (none-some t at)
value_changed unit k changes (u ∷ ts) xs zero m t at is within =
    subst (λ w. value_at (all_changed (changes_from unit k changes (u ∷ ts)) xs) m ≡ value_at xs m +ℤ scaled_number unit (number_on changes w)) (same_Some u t at)
    (by (is_zero (number_on changes u)) refl)
  where
    here : m ≡ k
    here = omega arith

    by : (c : Bool) → is_zero (number_on changes u) ≡ c
        → value_at (all_changed (if c then changes_from unit (suc k) changes ts else ((k, scaled_number unit (number_on changes u)) ∷ changes_from unit (suc k) changes ts)) xs) m
        ≡ value_at xs m +ℤ scaled_number unit (number_on changes u)
    by true e =
        before_kept unit (suc k) changes ts xs m (omega arith)
        ∙ plus_zero (value_at xs m)
        ∙ ap (λ z. value_at xs m +ℤ z) (sym (scaled_zero unit (number_on changes u) e))
    by false e =
        before_kept unit (suc k) changes ts (changed xs (k, scaled_number unit (number_on changes u))) m (omega arith)
        ∙ subst (λ j. value_at (changed xs (j, scaled_number unit (number_on changes u))) m ≡ value_at xs m +ℤ scaled_number unit (number_on changes u)) here
        (get_or-set_same xs m (value_at xs m +ℤ scaled_number unit (number_on changes u)) (pos 0) within)
value_changed unit k changes (u ∷ ts) xs (suc j) m t at is within =
    by (is_zero (number_on changes u)) (λ ys long. value_changed unit (suc k) changes ts ys j m t at (omega arith) long)
  where
    by : (c : Bool) → ((ys : List ℤ) → m < length ys → value_at (all_changed (changes_from unit (suc k) changes ts) ys) m ≡ value_at ys m +ℤ scaled_number unit (number_on changes t))
        → value_at (all_changed (if c then changes_from unit (suc k) changes ts else ((k, scaled_number unit (number_on changes u)) ∷ changes_from unit (suc k) changes ts)) xs) m
        ≡ value_at xs m +ℤ scaled_number unit (number_on changes t)
    by true later = later xs within
    by false later =
        let value : ℤ = value_at xs k +ℤ scaled_number unit (number_on changes u) in
        later (changed xs (k, scaled_number unit (number_on changes u))) (subst (λ l. m < l) (sym (length-set xs k value)) within)
        ∙ ap (λ z. z +ℤ scaled_number unit (number_on changes t)) (get_or-set_other xs k m value (pos 0) (omega arith))

-- the scaled start value of a term is at its number
start_value : (unit : ℕ) (values : List (Term × Fraction)) (ts : List Term) (k : ℕ) (t : Term) → slice_get ts k ≡ Some t
    → value_at (map (λ u. scaled_number unit (number_on values u)) ts) k ≡ scaled_number unit (number_on values t)
start_value unit values ts k t at =
    get_or-map (λ u. scaled_number unit (number_on values u)) ts k t (pos 0) (slice_get_within ts k t at)
    ∙ ap (λ u. scaled_number unit (number_on values u)) (get_or_from_slice_get ts k t t at)

-- a value that is there is the one that is read
is_read : (o : Option Fraction) → IsTrue (is_some o) → o ≡ Some (option_map_or (λ x. x) o zero_number)
is_read None e = absurd (false≢true e)
is_read (Some x) e = refl

-- ---- the terms that comparisons read have values

terms_have : (values : List (Term × Fraction)) (c : BoundCond) → IsCondition values c → AllByRecursion (HasValue values) (terms_in c)
terms_have values (Atom positive a) h = tt
terms_have values Never h = tt
terms_have values (Compare op l) h =
    each_map (HasValue values) (λ (t : Term × Fraction). t.0) l.terms (recursion_from_All (λ (t : Term × Fraction). HasValue values t.0) l.terms h.terms.there)

-- each term that a bound task's comparisons read has a value at the start
pub read_has_value : (bound : BoundParts) (t : Term) → IsBound bound → list_any (same_term t) (flat_map terms_in (conditions_of bound)) ≡ true → HasValue bound.values t
read_has_value bound t h there =
    each_all same_term same_term-Decides (HasValue bound.values) (flat_map terms_in (conditions_of bound))
    (each_flat_from (HasValue bound.values) terms_in (conditions_of bound)
    (each_weaker (IsFound bound) (λ c. AllByRecursion (HasValue bound.values) (terms_in c)) (λ c found. terms_have bound.values c found.condition) (conditions_of bound) (conditions_found bound h)))
    t there

-- ---- the start, steps and the goal

-- what holds of each condition that is read holds of each that a step needs
each_need : (P : BoundCond → Type 0) (bound : BoundParts) (i : ℕ) (b : BoundStep) → AllByRecursion P (conditions_of bound) → slice_get bound.steps i ≡ Some b → AllByRecursion P b.needs
each_need P bound i b all at = each_at (λ (x : BoundStep). AllByRecursion P x.needs) bound.steps (of_steps P bound all) i b at

module _ (n : FlatTables) (bound : BoundParts) (h : HasExactNumbers n bound) where
  -- the flat start stands for the start
  pub start_stands : StandsFor (flat_with n bound) (bound_start bound) (flat_start n bound)
  start_stands = record {
    state = h.flat.start;
    facts = λ p a at. fact_numbers_have n bound.atoms p a h.facts at;
    there = λ k t at. is_read (value_among bound.values t) (h.there k t at);
    values = λ k t at. ap (λ z. whole z) (start_value n.unit bound.values n.terms k t at) ∙ h.starts k t at;
  }

  -- each flat step is the image of its bound step
  pub step_image : (i : ℕ) (b : BoundStep) → slice_get bound.steps i ≡ Some b → IsImage (flat_with n bound) b (flat_step n b)
  step_image i b at = record {
    name = refl;
    cost = h.costs i b at;
    needs = λ s f stands.
        hold_by_number n (flat_with n bound) s f b.needs refl
        (each_need (Agrees n.facts n.terms n.unit s f) bound i b (h.agree s f stands) at)
        (each_need (λ c. AreListed n.subgoals (subgoals_in n.facts n.terms n.unit c)) bound i b h.listed at);
    state = λ f of.
        state_of_after (length n.facts) (length n.terms) (length n.subgoals) (flat_step n b) f
        (step_there (flat_with n bound) i (flat_step n b) h.flat (slice_get-map (flat_step n) bound.steps i ∙ ap (option_map (flat_step n)) at)) of;
    adds = λ p a is. fact_numbers_have n b.adds p a h.facts is;
    deletes = λ p a is.
        fact_numbers_have n (filter (λ x. not (is_among b.adds x)) b.deletes) p a h.facts is
        ∙ has_kept (λ x. not (is_among b.adds x)) b.deletes [] a;
    changes = λ k t is xs long.
        ap (λ z. whole z) (value_changed n.unit 0 b.changes n.terms xs k k t is (omega arith) (subst (λ l. k < l) (sym long) (slice_get_within n.terms k t is)))
        ∙ sym (whole_plus (value_at xs k) (scaled_number n.unit (number_on b.changes t)))
        ∙ ap (plus (whole (value_at xs k))) (h.changes i b at k t is);
  }

  -- the goal holds in both or in none
  pub same_goal : (s : State) (f : FlatState) → StandsFor (flat_with n bound) s f → is_bound_goal bound s ≡ flat_states.is_goal (flat_with n bound) f
  same_goal s f stands =
      hold_by_number n (flat_with n bound) s f bound.goal refl
      (of_goal (Agrees n.facts n.terms n.unit s f) bound (h.agree s f stands))
      (of_goal (λ c. AreListed n.subgoals (subgoals_in n.facts n.terms n.unit c)) bound h.listed)
