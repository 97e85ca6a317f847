-- What is past a limit in the flat task of a bound task, in order. The limits and the order are this project's own.
use Rattle.std.specs.Prelude.{ℕ, pos, ℤ, unsigned_abs, Bool, true, false, not, ◌&&◌, ◌==◌, nat_lt, int_lt, if◌then◌else◌, List, [], ◌∷◌, ◌++◌, map, length, Result, Ok, Err}
use Rattle.std.specs.List.{list_all, list_any, flat_map}
use Rattle.np_frac.specs.Fractions.{Fraction, whole, times}
use Rattle.np_frac.specs.Checked.{times_fits, reciprocal}
use Rattle.np_model.specs.declared.task.Atom as model
use Rattle.np_model.specs.declared.task.Term.{Term}
use Rattle.np_linear.specs.declared.linear.Linear.{Linear}
use Rattle.np_linear.specs.Answers.{and_then}
use Rattle.np_bind.specs.declared.bound.Spot.{Spot}
use Rattle.np_bind.specs.declared.bound.Spot.TheVariants.{Step, Value, Goal}
use Rattle.np_bind.specs.declared.bound.BoundCond.{BoundCond}
use Rattle.np_bind.specs.declared.bound.BoundCond.TheVariants.{Atom, Compare, Never}
use Rattle.np_bind.specs.declared.bound.BoundStep.{BoundStep}
use Rattle.np_bind.specs.declared.bound.BoundParts.{BoundParts}
use Rattle.np_bind.specs.Grounding.{number_on}
use Rattle.np_flat.specs.declared.limits.TheConstants.{MOST_FACTS, MOST_VALUES, MOST_SUBGOALS, MOST_TERMS, CHANGE_SIZE, COEFFICIENT_SIZE, CONSTANT_SIZE, COST_SIZE}
use Rattle.np_flat.specs.declared.parts.Form.{Form}
use Rattle.np_flat.specs.declared.parts.Subgoal.{Subgoal}
use Rattle.np_flat.specs.declared.parts.Subgoal.TheVariants as subgoal
use Rattle.np_scale.specs.declared.fault.ScaleFault.{ScaleFault}
use Rattle.np_scale.specs.declared.fault.ScaleFault.TheVariants.{TooManyFacts, TooManyValues, TooManySubgoals, UnitWide, NumberWide, FormLong, CostNegative, CostNotWhole, CostWide}
use Rattle.np_scale.specs.Tables.{facts_of, values_of}
use Rattle.np_scale.specs.Wholes.{unit_of, scaled_number}
use Rattle.np_scale.specs.Forms.{Inequality, inequalities_of, coefficients_of, factor_on, form_of, literal_of, never_form}
use Rattle.np_scale.specs.FlatOf.{same_subgoal}

-- nothing, or a fault
abbrev pub Checked : Type 0
Checked = Result (Unit {0}) ScaleFault

-- the fault, unless this is so
abbrev pub unless : Bool → ScaleFault → Checked
unless true fault = Ok tt
unless false fault = Err fault

-- things checked in their order
abbrev pub each_checked : {A : Type 0} → (A → Checked) → List A → Checked
each_checked check [] = Ok tt
each_checked check (x ∷ xs) = and_then (check x) (λ _. each_checked check xs)

-- whether a number is below a limit in size
abbrev pub is_below : ℕ → ℤ → Bool
is_below limit n = nat_lt (unsigned_abs n) limit

-- ---- forms

-- whether the fractions by which a form is made fit: first the factor, as the first whole coefficient over the first one; then the
-- constant times the unit; then that times the factor
abbrev pub factor_fits : Fraction → List (ℕ × Fraction) → Bool
factor_fits factor [] = true
factor_fits factor (c ∷ cs) = times_fits (times factor c.1) (reciprocal c.1)

abbrev pub fractions_fit : List Term → ℕ → Linear → Bool
fractions_fit terms unit l =
    factor_fits (factor_on terms l) (coefficients_of terms l)
    && (times_fits l.constant (whole (pos unit)) && times_fits (times l.constant (whole (pos unit))) (factor_on terms l))

-- whether a form's numbers are within their limits
abbrev pub is_small_form : Form → Bool
is_small_form form = is_below CONSTANT_SIZE form.constant && list_all (λ t. is_below COEFFICIENT_SIZE t.1) form.terms

-- the form of a comparison's side, or its fault: too many terms come first
abbrev pub checked_form : Spot → List Term → ℕ → Inequality → Result Subgoal ScaleFault
checked_form spot terms unit side =
    and_then (unless (not (nat_lt MOST_TERMS (length side.1.terms))) (FormLong spot)) (λ _.
    and_then (unless (fractions_fit terms unit side.1 && is_small_form (form_of terms unit side)) (NumberWide spot)) (λ _.
    Ok (subgoal.Form (form_of terms unit side))))

-- the subgoals that a condition comes to, each with its fault
abbrev pub checked_subgoals : Spot → List model.Atom → List Term → ℕ → BoundCond → List (Result Subgoal ScaleFault)
checked_subgoals spot facts terms unit (Atom positive a) = Ok (literal_of facts positive a) ∷ []
checked_subgoals spot facts terms unit (Compare op l) = map (checked_form spot terms unit) (inequalities_of op l)
checked_subgoals spot facts terms unit Never = Ok (subgoal.Form never_form) ∷ []

-- the known subgoals, and after them a new one, where there is room
abbrev pub with_subgoal : List Subgoal → Subgoal → Result (List Subgoal) ScaleFault
with_subgoal known q =
    if list_any (same_subgoal q) known then Ok known
    else if nat_lt (length known) MOST_SUBGOALS then Ok (known ++ q ∷ []) else Err TooManySubgoals

abbrev pub with_subgoals : List Subgoal → List (Result Subgoal ScaleFault) → Result (List Subgoal) ScaleFault
with_subgoals known [] = Ok known
with_subgoals known (x ∷ xs) = and_then x (λ q. and_then (with_subgoal known q) (λ more. with_subgoals more xs))

-- the known subgoals, and after them the new ones of conditions
abbrev pub with_conditions : Spot → List model.Atom → List Term → ℕ → List Subgoal → List BoundCond → Result (List Subgoal) ScaleFault
with_conditions spot facts terms unit known conditions = with_subgoals known (flat_map (checked_subgoals spot facts terms unit) conditions)

-- ---- values, changes and costs

-- a scaled start value
abbrev pub checked_start : ℕ → BoundParts → Term → Checked
checked_start unit bound t = unless (is_below CHANGE_SIZE (scaled_number unit (number_on bound.values t))) (NumberWide (Value t))

-- a scaled net change
abbrev pub checked_change : ℕ → BoundStep → Term → Checked
checked_change unit b t = unless (is_below CHANGE_SIZE (scaled_number unit (number_on b.changes t))) (NumberWide (Step b.step))

-- a cost: not below 0, then whole, then within its limit
abbrev pub checked_cost : BoundStep → Checked
checked_cost b =
    and_then (unless (not (int_lt b.cost.num (pos 0))) (CostNegative b.step)) (λ _.
    and_then (unless (b.cost.den == 1) (CostNotWhole b.step)) (λ _.
    unless (is_below COST_SIZE b.cost.num) (CostWide b.step)))

-- a step: its conditions, then its changes by number, then its cost; what comes of it are the known subgoals with its new ones
abbrev pub checked_step : List model.Atom → List Term → ℕ → List Subgoal → BoundStep → Result (List Subgoal) ScaleFault
checked_step facts terms unit known b =
    and_then (with_conditions (Step b.step) facts terms unit known b.needs) (λ more.
    and_then (each_checked (checked_change unit b) terms) (λ _.
    and_then (checked_cost b) (λ _. Ok more)))

abbrev pub checked_steps : List model.Atom → List Term → ℕ → List Subgoal → List BoundStep → Result (List Subgoal) ScaleFault
checked_steps facts terms unit known [] = Ok known
checked_steps facts terms unit known (b ∷ bs) =
    and_then (checked_step facts terms unit known b) (λ more. checked_steps facts terms unit more bs)

-- ---- the whole

-- the numbers of facts, of values and the unit; then start values, steps and the goal
abbrev pub subgoals_within_limits_with : List model.Atom → List Term → ℕ → BoundParts → Result (List Subgoal) ScaleFault
subgoals_within_limits_with facts terms unit bound =
    and_then (unless (not (nat_lt MOST_FACTS (length facts))) TooManyFacts) (λ _.
    and_then (unless (not (nat_lt MOST_VALUES (length terms))) TooManyValues) (λ _.
    and_then (unless (nat_lt unit CHANGE_SIZE) UnitWide) (λ _.
    and_then (each_checked (checked_start unit bound) terms) (λ _.
    and_then (checked_steps facts terms unit [] bound.steps) (λ known.
    with_conditions Goal facts terms unit known bound.goal)))))

-- the subgoals of a bound task that is within all limits, or its first fault
unfoldable pub subgoals_within_limits : BoundParts → Result (List Subgoal) ScaleFault
subgoals_within_limits bound = subgoals_within_limits_with (facts_of bound) (values_of bound) (unit_of bound) bound
