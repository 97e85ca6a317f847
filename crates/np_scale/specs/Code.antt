-- What the functions of the code give, in the words of the definitions. It is scaffolding of proofs, and no part of the statement.
use Rattle.std.specs.Prelude.{◌≡◌, ◌≢◌, ℕ, ◌<◌, pos, negsuc, ℤ, Bool, true, false, not, ◌&&◌, nat_lt, if◌then◌else◌, List, [], ◌∷◌, ◌++◌, map, filter, length, All, Option, Some, None, Result, Ok, Err}
use Rattle.std.specs.List.{list_all, list_any, flat_map}
use Rattle.std.specs.Borrow.{Bor}
use Rattle.std.specs.Int.{◌∣◌}
use Rattle.np_frac.specs.Fractions.{Fraction, times, whole}
use Rattle.np_frac.specs.Checked.{reciprocal, is_zero, times_fits}
use Rattle.np_model.specs.declared.task.Atom as model
use Rattle.np_model.specs.declared.task.Term.{Term}
use Rattle.np_model.specs.Ground.{same_atom, same_term}
use Rattle.np_model.specs.States.{is_among}
use Rattle.np_model.specs.Tasks.{AreDistinct}
use Rattle.np_model.specs.Values.{negated}
use Rattle.np_linear.specs.declared.linear.Linear.{Linear}
use Rattle.np_bind.specs.Grounding.{number_on}
use Rattle.np_linear.specs.Answers.{and_then}
use Rattle.np_flat.specs.declared.limits.TheConstants.{COEFFICIENT_SIZE, CONSTANT_SIZE, CHANGE_SIZE}
use Rattle.np_flat.specs.declared.parts.Form.{Form}
use Rattle.np_flat.specs.declared.parts.FlatStep.{FlatStep}
use Rattle.np_flat.specs.declared.parts.Subgoal.{Subgoal}
use Rattle.np_flat.specs.Flats.{IsAscending}
use Rattle.np_flat.specs.States.{put_all}
use Rattle.np_bind.specs.declared.bound.Spot.TheVariants.{Step}
use Rattle.np_bind.specs.declared.bound.BoundCond.{BoundCond}
use Rattle.np_bind.specs.declared.bound.BoundCond.TheVariants.{Atom, Compare, Never}
use Rattle.np_bind.specs.declared.bound.BoundStep.{BoundStep}
use Rattle.np_scale.specs.declared.fault.ScaleFault.{ScaleFault}
use Rattle.np_scale.specs.declared.fault.ScaleFault.TheVariants.{NumberWide}
use Rattle.np_scale.specs.Answers.{Refuses}
use Rattle.np_scale.specs.Tables.{number_of}
use Rattle.np_scale.specs.Wholes.{lcm_of, factor_of, whole_times, scaled_number}
use Rattle.np_scale.specs.Forms.{Inequality, negated_sum, in_place, form_of, constant_from}
use Rattle.np_scale.specs.FlatOf.{same_subgoal, FlatTables, flat_step}
use Rattle.np_scale.specs.Limits.{unless, is_below, factor_fits, fractions_fit, is_small_form}

-- ---- answers

-- an answer of the code that changes something: that has become what is defined, unless memory runs out
abbrev pub AnswersInto : {A B : Type 0} → Result A ScaleFault → B → Result B ScaleFault → Type 0
AnswersInto (Ok x) new expected = expected ≡ Ok new
AnswersInto (Err e) new expected = Refuses e expected

-- the list, where it is no longer than the limit, or the fault
abbrev pub few : {A : Type 0} → ℕ → ScaleFault → List A → Result (List A) ScaleFault
few limit fault xs = and_then (unless (not (nat_lt limit (length xs))) fault) (λ _. Ok xs)

-- ---- tables

-- what references point to
abbrev pub pointed : {A : Type 0} → List (Bor A) → List A
pointed refs = map (λ r. r.now) refs

-- the place of a thing in a list, if it is there
abbrev pub place_of : {A : Type 0} → (A → A → Bool) → List A → A → Option ℕ
place_of same xs y = if list_any (same y) xs then Some (number_of same xs y) else None

-- a list and one that goes on after it
pub record IsStartOf {A : Type 0} (known final : List A) : Type 0 where
  pub rest : List A
  pub is : final ≡ known ++ rest

-- ---- numbers

-- the number, where it is below the limit
abbrev pub below : ℕ → ℕ → Option ℕ
below limit n = if nat_lt n limit then Some n else None

-- the number, where it is below the limit in size
abbrev pub small : ℕ → ℤ → Option ℤ
small limit n = if is_below limit n then Some n else None

-- the sign of a number; 1 for 0
abbrev pub sign_of : ℤ → ℤ
sign_of (pos m) = pos 1
sign_of (negsuc m) = negsuc 0

-- this is the first coefficient
abbrev pub IsFirst : Fraction → List (ℕ × Fraction) → Type 0
IsFirst a [] = ⊥
IsFirst a (c ∷ cs) = c.1 ≡ a

-- no coefficient is 0
abbrev pub AreNonzero : List (ℕ × Fraction) → Type 0
AreNonzero cs = All (λ c. is_zero c.1 ≡ false) cs

-- the least common multiple of the denominators of ratios to the first coefficient
abbrev pub ratio_lcm : Fraction → List (ℕ × Fraction) → ℕ
ratio_lcm first cs = lcm_of (map (λ c. (times c.1 (reciprocal first)).den) cs)

-- the factor of coefficients
abbrev pub factor_for : List (ℕ × Fraction) → Fraction
factor_for cs = factor_of (map (λ c. c.1) cs)

-- the whole coefficients that a factor makes
abbrev pub whole_by : Fraction → List (ℕ × Fraction) → List (ℕ × ℤ)
whole_by factor cs = map (λ c. (c.0, whole_times factor c.1)) cs

-- whether all are below their limit
abbrev pub are_small : List (ℕ × ℤ) → Bool
are_small ws = list_all (λ w. is_below COEFFICIENT_SIZE w.1) ws

-- the whole coefficients, where all are below their limit
abbrev pub small_terms : Fraction → List (ℕ × Fraction) → Option (List (ℕ × ℤ))
small_terms factor cs = if are_small (whole_by factor cs) then Some (whole_by factor cs) else None

-- each coefficient is made whole
abbrev pub AreMadeWhole : Fraction → List (ℕ × Fraction) → Type 0
AreMadeWhole factor cs = All (λ c. (times factor c.1).den ≡ 1) cs

-- whether the factor is answered, and all whole coefficients are below their limit
abbrev pub is_fitting : List (ℕ × Fraction) → Bool
is_fitting cs = factor_fits (factor_for cs) cs && are_small (whole_by (factor_for cs) cs)

-- the factor of coefficients, which is answered
pub record IsFactor (cs : List (ℕ × Fraction)) (factor : Fraction) : Type 0 where
  pub is : factor ≡ factor_for cs
  pub fits : factor_fits factor cs ≡ true

-- the constant of a form, where it is answered and below its limit
abbrev pub small_constant : Bool → Fraction → ℕ → Fraction → Option ℤ
small_constant strict c unit factor =
    if times_fits c (whole (pos unit)) && (times_fits (times c (whole (pos unit))) factor && is_below CONSTANT_SIZE (constant_from strict (times (times c (whole (pos unit))) factor)))
    then Some (constant_from strict (times (times c (whole (pos unit))) factor))
    else None

-- a linear sum, or the one with each sign changed
abbrev pub turned : Bool → Linear → Linear
turned false l = l
turned true l = negated_sum l

-- a number, or the negated one
abbrev pub signed : Bool → Fraction → Fraction
signed false x = x
signed true x = negated x

-- the form, where its numbers are within their limits
abbrev pub small_form : List Term → ℕ → Inequality → Option Form
small_form terms unit side =
    if fractions_fit terms unit side.1 && is_small_form (form_of terms unit side) then Some (form_of terms unit side) else None

-- no coefficient of a condition is 0
abbrev pub HasNonzero : BoundCond → Type 0
HasNonzero (Atom positive a) = Unit {0}
HasNonzero (Compare op l) = All (λ t. t.1 ≢ whole (pos 0)) l.terms
HasNonzero Never = Unit {0}

-- ---- the unit

-- denominators
abbrev pub dens : List Fraction → List ℕ
dens xs = map (λ x. x.den) xs

-- the net changes on terms that are values
abbrev pub changes_on : List Term → List (Term × Fraction) → List Fraction
changes_on terms changes = map (λ c. c.1) (filter (λ c. list_any (same_term c.0) terms) changes)

-- the least common multiple of all these
abbrev pub unit_for : List Term → List (Term × Fraction) → List BoundStep → ℕ
unit_for terms values steps = lcm_of (dens (map (number_on values) terms ++ flat_map (λ b. changes_on terms b.changes) steps))

-- ---- changes

-- the fractions that a unit makes whole: those of the changes on values
abbrev pub AreMultiples : List Term → ℕ → List (Term × Fraction) → Type 0
AreMultiples terms unit changes = All (λ c. list_any (same_term c.0) terms ≡ true → c.1.den ∣ unit) changes

-- whether a change is on a value, and not 0
abbrev pub counts : List Term → Term × Fraction → Bool
counts terms c = list_any (same_term c.0) terms && not (is_zero c.1)

-- whether a scaled change is below its limit, or doesn't count
abbrev pub is_small_change : List Term → ℕ → Term × Fraction → Bool
is_small_change terms unit c = if counts terms c then is_below CHANGE_SIZE (scaled_number unit c.1) else true

-- the scaled change in its place, where it counts
abbrev pub with_amount : List Term → ℕ → Term × Fraction → List (ℕ × ℤ) → List (ℕ × ℤ)
with_amount terms unit c amounts =
    if counts terms c then in_place (number_of same_term terms c.0, scaled_number unit c.1) amounts else amounts

-- those of all changes, from the last one on
abbrev pub all_amounts : List Term → ℕ → List (Term × Fraction) → List (ℕ × ℤ)
all_amounts terms unit [] = []
all_amounts terms unit (c ∷ cs) = with_amount terms unit c (all_amounts terms unit cs)

-- the scaled changes of a step, or the fault
abbrev pub checked_amounts : List Term → ℕ → BoundStep → Result (List (ℕ × ℤ)) ScaleFault
checked_amounts terms unit b =
    if list_all (is_small_change terms unit) b.changes then Ok (all_amounts terms unit b.changes) else Err (NumberWide (Step b.step))

-- what the flat step of a bound step rests on
pub record IsReady (terms : List Term) (unit : ℕ) (b : BoundStep) : Type 0 where
  pub values : AreDistinct terms
  pub positive : 0 < unit
  pub needs : All HasNonzero b.needs
  pub multiples : AreMultiples terms unit b.changes
  pub distinct : AreDistinct (map (λ c. c.0) b.changes)

-- ---- facts

-- the number of an atom that is a fact
abbrev pub fact_of : List model.Atom → model.Atom → List ℕ
fact_of facts a = if list_any (same_atom a) facts then number_of same_atom facts a ∷ [] else []

-- the numbers of those atoms that are facts, ascending
abbrev pub facts_in : List model.Atom → List model.Atom → List ℕ
facts_in facts atoms = put_all (map (number_of same_atom facts) (filter (is_among facts) atoms)) []

-- ---- subgoals

-- the numbers of subgoals were put among others, whatever subgoals follow the known ones
pub record ArePut (known : List Subgoal) (qs : List Subgoal) (old new : List ℕ) : Type 0 where
  pub numbers : (final : List Subgoal) → IsStartOf known final → new ≡ put_all (map (number_of same_subgoal final) qs) old
  pub ascending : IsAscending new

-- the numbers of a flat task with these subgoals
abbrev pub numbers_with : List model.Atom → List Term → ℕ → List Subgoal → FlatTables
numbers_with facts terms unit final = record { facts = facts; terms = terms; unit = unit; subgoals = final }

-- the flat step of a bound step, whatever subgoals follow the known ones
abbrev pub IsStepOf : List model.Atom → List Term → ℕ → List Subgoal → BoundStep → FlatStep → Type 0
IsStepOf facts terms unit known b step = (final : List Subgoal) → IsStartOf known final → step ≡ flat_step (numbers_with facts terms unit final) b

-- the flat steps of bound steps
abbrev pub AreStepsOf : List model.Atom → List Term → ℕ → List Subgoal → List BoundStep → List FlatStep → Type 0
AreStepsOf facts terms unit known bs steps = (final : List Subgoal) → IsStartOf known final → steps ≡ map (flat_step (numbers_with facts terms unit final)) bs
