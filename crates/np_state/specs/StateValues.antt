-- What a state says.
use Rattle.std.specs.Prelude.{Bool, List}
use Rattle.std.proofs.Common.{refl}
use Rattle.std.specs.Coded.{Coded, code_by, coded×, coded_list, coded_bool}
use Rattle.np_frac.specs.Fractions.{Fraction, fraction_code}

-- which facts hold, and the number in each cell
pub record StateValue : Type 0 where
  pub facts : List Bool
  pub cells : List Fraction

-- it is stored as its two lists
abbrev pub state_value_code : Coded StateValue
state_value_code =
    code_by (List Bool × List Fraction) (coded× (coded_list coded_bool) (coded_list fraction_code)) (λ s. (s.facts, s.cells)) (λ p. record { facts = p.0; cells = p.1 }) (λ _. refl)
