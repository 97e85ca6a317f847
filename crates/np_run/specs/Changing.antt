-- How a step's changes are computed: first the sum of the amounts on each value, read in the state before, then the values.
use Rattle.std.specs.Prelude.{ℕ, Bool, true, false, if◌then◌else◌, List, [], ◌∷◌, Some, unwrap_or, Result, Ok, Err}
use Rattle.np_frac.specs.Fractions.{Fraction}
use Rattle.np_model.specs.declared.task.Term.{Term}
use Rattle.np_model.specs.declared.task.Sum.{Sum}
use Rattle.np_model.specs.declared.task.Eff.{Eff}
use Rattle.np_model.specs.declared.task.Eff.TheVariants.{Add, Delete, Change}
use Rattle.np_model.specs.declared.task.Action.{Action}
use Rattle.np_model.specs.Ground.{term_of, same_term}
use Rattle.np_model.specs.States.{State, value_among}
use Rattle.np_model.specs.Steps.{has_after}
use Rattle.np_run.specs.declared.halt.Lack.{Lack}
use Rattle.np_run.specs.declared.halt.Lack.TheVariants.{Missing}
use Rattle.np_run.specs.Computing.{and_then, added, subtracted, zero, found, computed_value, computed_all_hold}

-- ---- the sums

-- the sum so far of the amounts on a term; it starts at 0, and to take a first amount in is never wide
abbrev pub sum_so_far : List (Term × Fraction) → Term → Fraction
sum_so_far sums t = unwrap_or (value_among sums t) zero

-- the sums with this one as the term's
abbrev pub with_sum : List (Term × Fraction) → Term → Fraction → List (Term × Fraction)
with_sum [] t x = (t, x) ∷ []
with_sum (e ∷ sums) t x = if same_term t e.0 then (e.0, x) ∷ sums else e ∷ with_sum sums t x

-- an increase adds its amount to a sum, and a decrease, where the flag is false, subtracts it
abbrev pub summed : Bool → Fraction → Fraction → Result Fraction Lack
summed true sum amount = added sum amount
summed false sum amount = subtracted sum amount

-- an amount taken into its term's sum
abbrev pub with_amount : List (Term × Fraction) → Bool → Term → Fraction → Result (List (Term × Fraction)) Lack
with_amount sums up t amount = and_then (summed up (sum_so_far sums t) amount) (λ x. Ok (with_sum sums t x))

-- a change: the old value is looked up, then the amount is computed, then it is taken into its term's sum
abbrev pub with_change : List ℕ → State → List (Term × Fraction) → Bool → Term → Sum → Result (List (Term × Fraction)) Lack
with_change objects s sums up t amount =
    and_then (found (s.value t)) (λ old. and_then (computed_value objects s amount) (λ x. with_amount sums up t x))

abbrev pub with_effect : List ℕ → State → List (Term × Fraction) → Eff → Result (List (Term × Fraction)) Lack
with_effect objects s sums (Add predicate refs) = Ok sums
with_effect objects s sums (Delete predicate refs) = Ok sums
with_effect objects s sums (Change up function refs amount) = with_change objects s sums up (term_of objects function refs) amount

-- the effects in the order of their text
abbrev pub sums_from : List ℕ → State → List (Term × Fraction) → List Eff → Result (List (Term × Fraction)) Lack
sums_from objects s sums [] = Ok sums
sums_from objects s sums (e ∷ es) = and_then (with_effect objects s sums e) (λ more. sums_from objects s more es)

-- the sums of an action's amounts, where its conditions hold; the conditions come first
abbrev pub computed_sums : Action → List ℕ → State → Result (List (Term × Fraction)) Lack
computed_sums action objects s =
    and_then (computed_all_hold objects s action.needs) (λ yes. if yes then sums_from objects s [] action.effects else Err Missing)

-- ---- the state after

-- the state in which the term has this value, and which is else the same
abbrev pub with_value : State → Term → Fraction → State
with_value s t v = record { has = s.has; value = λ u. if same_term u t then Some v else s.value u }

-- a value with its sum added
abbrev pub grown : State → Term → Fraction → Result State Lack
grown s t sum = and_then (found (s.value t)) (λ old. and_then (added old sum) (λ new. Ok (with_value s t new)))

-- each changed value with its sum added
abbrev pub all_grown : State → List (Term × Fraction) → Result State Lack
all_grown s [] = Ok s
all_grown s (e ∷ sums) = and_then (grown s e.0 e.1) (λ t. all_grown t sums)

-- the state in which an action's atoms have changed, and no value has yet
abbrev pub with_atoms_after : Action → List ℕ → State → State
with_atoms_after action objects s = record { has = has_after action objects s; value = s.value }

-- the state after an action with these sums
abbrev pub computed_result : Action → List ℕ → State → List (Term × Fraction) → Result State Lack
computed_result action objects s sums = all_grown (with_atoms_after action objects s) sums
