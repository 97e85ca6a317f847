-- What is left of conditions, effects and the metric where objects stand for the parameters and what no step changes is put
-- in, or the first finding in order of text. This project's own.
use Rattle.std.specs.Prelude.{ℕ, pos, Bool, true, false, ◌==◌, if◌then◌else◌, List, [], ◌∷◌, ◌++◌, Option, Some, None, Result, Ok, Err}
use Rattle.std.specs.Option.{option_map_or}
use Rattle.np_frac.specs.Fractions.{Fraction, whole}
use Rattle.np_model.specs.declared.task.Op.{Op}
use Rattle.np_model.specs.declared.task.Term.{Term}
use Rattle.np_model.specs.declared.task.Atom as model
use Rattle.np_model.specs.declared.task.Sum.{Sum}
use Rattle.np_model.specs.declared.task.Cond.{Cond}
use Rattle.np_model.specs.declared.task.Cond.TheVariants as cond
use Rattle.np_model.specs.declared.task.Eff.{Eff}
use Rattle.np_model.specs.declared.task.Eff.TheVariants as eff
use Rattle.np_model.specs.declared.task.Action.{Action}
use Rattle.np_model.specs.declared.task.Step.{Step}
use Rattle.np_model.specs.declared.task.TaskParts.{TaskParts}
use Rattle.np_model.specs.Ground.{object_of, atom_of, term_of}
use Rattle.np_model.specs.States.{is_among, value_among}
use Rattle.np_model.specs.Conditions.{compares, with_sign}
use Rattle.np_model.specs.Tasks.{is_fixed}
use Rattle.np_linear.specs.declared.linear.Linear.{Linear}
use Rattle.np_linear.specs.declared.finding.Finding.{Finding}
use Rattle.np_linear.specs.declared.finding.Finding.TheVariants.{Fails, Missing, NotLinear, Wide}
use Rattle.np_linear.specs.Answers.{and_then}
use Rattle.np_linear.specs.Linears.{zero, is_constant, linear_sum, checked_sum, checked_product, with_multiple, linear_of}
use Rattle.np_bind.specs.declared.bound.BoundCond.{BoundCond}
use Rattle.np_bind.specs.declared.bound.BoundCond.TheVariants.{Atom, Compare, Never}
use Rattle.np_bind.specs.declared.bound.BoundStep.{BoundStep}
use Rattle.np_bind.specs.declared.net.Net.{Net}

-- ---- conditions

-- nothing is left of a condition that is known to hold; one that is known to fail is a finding
abbrev pub left_of_known : Bool → Result (List BoundCond) Finding
left_of_known true = Ok []
left_of_known false = Err Fails

-- an atom of a static predicate is known; the flags say whether it is static, whether it is to be true, and whether it is at the start
abbrev pub left_of_atom : Bool → Bool → Bool → model.Atom → Result (List BoundCond) Finding
left_of_atom true positive there a = left_of_known (with_sign positive there)
left_of_atom false positive there a = Ok (Atom positive a ∷ [])

-- a comparison with 0 is known where the sum is constant
abbrev pub left_of_comparison : Op → Linear → Result (List BoundCond) Finding
left_of_comparison op l = if is_constant l then left_of_known (compares op l.constant zero) else Ok (Compare op l ∷ [])

-- the left side of a comparison less the right one
unfoldable pub difference_of : TaskParts → List (Term × Fraction) → List ℕ → Sum → Sum → Result Linear Finding
difference_of task values objects x y =
    and_then (linear_of task.functions values objects x) (λ l.
    and_then (linear_of task.functions values objects y) (λ r. linear_sum false l r))

abbrev pub left_of_condition : TaskParts → List (Term × Fraction) → List ℕ → Cond → Result (List BoundCond) Finding
left_of_condition task values objects (cond.Atom positive predicate refs) =
    left_of_atom (is_fixed task.predicates predicate) positive (is_among task.atoms (atom_of objects predicate refs)) (atom_of objects predicate refs)
left_of_condition task values objects (cond.Same positive a b) =
    left_of_known (with_sign positive (object_of objects a == object_of objects b))
left_of_condition task values objects (cond.Compare op x y) = and_then (difference_of task values objects x y) (left_of_comparison op)

-- what is left of conditions, in their order
abbrev pub left_of_all : (Cond → Result (List BoundCond) Finding) → List Cond → Result (List BoundCond) Finding
left_of_all left [] = Ok []
left_of_all left (c ∷ cs) = and_then (left c) (λ b. and_then (left_of_all left cs) (λ bs. Ok (b ++ bs)))

-- a condition of the goal that holds in no state stays
abbrev pub or_never : Result (List BoundCond) Finding → Result (List BoundCond) Finding
or_never (Ok bs) = Ok bs
or_never (Err Fails) = Ok (Never ∷ [])
or_never (Err Missing) = Err Missing
or_never (Err NotLinear) = Err NotLinear
or_never (Err Wide) = Err Wide

-- what is left of the goal
abbrev pub left_of_goal : TaskParts → List (Term × Fraction) → Result (List BoundCond) Finding
left_of_goal task values = left_of_all (λ c. or_never (left_of_condition task values [] c)) task.goal

-- ---- effects

abbrev pub constant_of : Linear → Result Fraction Finding
constant_of l = if is_constant l then Ok l.constant else Err NotLinear

-- the number that an amount is
unfoldable pub number_of_amount : TaskParts → List (Term × Fraction) → List ℕ → Sum → Result Fraction Finding
number_of_amount task values objects amount = and_then (linear_of task.functions values objects amount) constant_of

abbrev pub no_effects : Net
no_effects = record { adds = []; deletes = []; changes = [] }

-- a change of a term that has a start value is taken into the net change on it; the term comes before the amount
abbrev pub with_change : Option Fraction → Bool → Term → Result Fraction Finding → Net → Result Net Finding
with_change None up t amount n = Err Missing
with_change (Some v) up t amount n =
    and_then amount (λ c.
    and_then (with_multiple true up t c n.changes) (λ cs. Ok (record { adds = n.adds; deletes = n.deletes; changes = cs })))

-- an effect is taken into what those before it come to
abbrev pub with_effect : TaskParts → List (Term × Fraction) → List ℕ → Net → Eff → Result Net Finding
with_effect task values objects n (eff.Add predicate refs) =
    Ok (record { adds = n.adds ++ atom_of objects predicate refs ∷ []; deletes = n.deletes; changes = n.changes })
with_effect task values objects n (eff.Delete predicate refs) =
    Ok (record { adds = n.adds; deletes = n.deletes ++ atom_of objects predicate refs ∷ []; changes = n.changes })
with_effect task values objects n (eff.Change up function refs amount) =
    with_change (value_among values (term_of objects function refs)) up (term_of objects function refs) (number_of_amount task values objects amount) n

abbrev pub with_effects : TaskParts → List (Term × Fraction) → List ℕ → Net → List Eff → Result Net Finding
with_effects task values objects n [] = Ok n
with_effects task values objects n (e ∷ es) = and_then (with_effect task values objects n e) (λ m. with_effects task values objects m es)

-- the number that a list gives a term: 0 where it gives none
abbrev pub number_on : List (Term × Fraction) → Term → Fraction
number_on changes t = option_map_or (λ c. c) (value_among changes t) zero

-- ---- the cost

-- the metric as a linear sum
abbrev pub linear_metric : TaskParts → List (Term × Fraction) → Option Sum → Result (Option Linear) Finding
linear_metric task values None = Ok None
linear_metric task values (Some m) = and_then (linear_of task.functions values [] m) (λ l. Ok (Some l))

-- coefficient times net change, added up in the order of the metric's terms
abbrev pub cost_over : Fraction → List (Term × Fraction) → List (Term × Fraction) → Result Fraction Finding
cost_over so_far [] changes = Ok so_far
cost_over so_far (x ∷ xs) changes =
    and_then (checked_product false x.1 (number_on changes x.0)) (λ p. and_then (checked_sum true so_far p) (λ c. cost_over c xs changes))

-- the cost of net changes; 1 without a metric
abbrev pub cost_of_changes : Option Linear → List (Term × Fraction) → Result Fraction Finding
cost_of_changes None changes = Ok (whole (pos 1))
cost_of_changes (Some metric) changes = cost_over zero metric.terms changes

-- ---- the step

-- a step of an action, bound: its conditions, then its effects, then its cost
unfoldable pub bound_step : TaskParts → List (Term × Fraction) → Option Linear → Step → Action → Result BoundStep Finding
bound_step task values metric step action =
    and_then (left_of_all (left_of_condition task values step.objects) action.needs) (λ needs.
    and_then (with_effects task values step.objects no_effects action.effects) (λ net.
    and_then (cost_of_changes metric net.changes) (λ cost.
    Ok (record { step = step; needs = needs; adds = net.adds; deletes = net.deletes; changes = net.changes; cost = cost }))))
