-- Conditions and effects that compare and change values by numbers.
use Rattle.std.proofs.Common.{◌≡◌, ℕ, Bool, true, false, refl, ◌∙◌, ap, List, ◌∷◌, map}
use Rattle.std.specs.Prelude.{Some, option_map, is_some, filter, if◌then◌else◌}
use Rattle.np_frac.specs.Fractions.{Fraction, plus}
use Rattle.np_model.specs.declared.task.Ref.{Ref}
use Rattle.np_model.specs.declared.task.Op.{Op}
use Rattle.np_model.specs.declared.task.Term.{Term}
use Rattle.np_model.specs.declared.task.Sum.TheVariants as expr
use Rattle.np_model.specs.declared.task.Cond.TheVariants.{Compare}
use Rattle.np_model.specs.declared.task.Eff.{Eff}
use Rattle.np_model.specs.declared.task.Eff.TheVariants.{Change}
use Rattle.np_model.specs.Ground.{term_of}
use Rattle.np_model.specs.States.{State}
use Rattle.np_model.specs.Values.{of_both, negated, sum_of}
use Rattle.np_model.specs.Conditions.{compares, is_yes, holds}
use Rattle.np_model.specs.Steps.{changes, amount_of, is_possible}
use Rattle.np_model.proofs.Sums.{sum_of-cons}
use Rattle.np_model.proofs.Expressions.{value_of-Number, value_of-Value}

-- a comparison of a term with a number
pub holds-Number : (objects : List ℕ) (s : State) (op : Op) (function : ℕ) (refs : List Ref) (n : Fraction)
    → holds objects s (Compare op (expr.Value function refs) (expr.Number n)) ≡ is_yes (of_both (compares op) (s.value (term_of objects function refs)) (Some n))
holds-Number objects s op function refs n = rw (value_of-Value objects s function refs, value_of-Number objects s n) refl

-- where the term has a value
pub holds_at : (objects : List ℕ) (s : State) (op : Op) (function : ℕ) (refs : List Ref) (n v : Fraction)
    → s.value (term_of objects function refs) ≡ Some v
    → holds objects s (Compare op (expr.Value function refs) (expr.Number n)) ≡ compares op v n
holds_at objects s op function refs n v e =
    holds-Number objects s op function refs n ∙ ap (λ w. is_yes (of_both (compares op) w (Some n))) e

-- an effect whose amount is a number can happen where its term has a value
pub is_possible-Number : (objects : List ℕ) (s : State) (up : Bool) (function : ℕ) (refs : List Ref) (n : Fraction)
    → is_possible objects s (Change up function refs (expr.Number n)) ≡ is_some (s.value (term_of objects function refs))
is_possible-Number objects s up function refs n = rw (value_of-Number objects s n) refl

-- the amount of an effect whose amount is a number
pub amount_of-Number : (objects : List ℕ) (s : State) (up : Bool) (function : ℕ) (refs : List Ref) (n : Fraction)
    → amount_of objects s (Change up function refs (expr.Number n)) ≡ Some (if up then n else negated n)
amount_of-Number objects s true function refs n = value_of-Number objects s n
amount_of-Number objects s false function refs n = ap (option_map negated) (value_of-Number objects s n)

-- the sum of the amounts on a term, one effect at a time
pub amounts-cons : (objects : List ℕ) (s : State) (t : Term) (e : Eff) (es : List Eff)
    → sum_of (map (amount_of objects s) (filter (changes objects t) (e ∷ es)))
    ≡ (if changes objects t e then of_both plus (amount_of objects s e) (sum_of (map (amount_of objects s) (filter (changes objects t) es))) else sum_of (map (amount_of objects s) (filter (changes objects t) es)))
amounts-cons objects s t e es = by_test (changes objects t e)
  where
    by_test : (b : Bool) → sum_of (map (amount_of objects s) (if b then e ∷ filter (changes objects t) es else filter (changes objects t) es))
        ≡ (if b then of_both plus (amount_of objects s e) (sum_of (map (amount_of objects s) (filter (changes objects t) es))) else sum_of (map (amount_of objects s) (filter (changes objects t) es)))
    by_test true = sum_of-cons (amount_of objects s e) (map (amount_of objects s) (filter (changes objects t) es))
    by_test false = refl
