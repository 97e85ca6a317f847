-- States of PDDL 2.1 (Fox and Long 2003): which ground atoms are true, and which ground terms have which values.
use Rattle.std.specs.Prelude.{Bool, if◌then◌else◌, List, [], ◌∷◌, Option, Some, None}
use Rattle.std.specs.List.{list_any}
use Rattle.np_frac.specs.Fractions.{Fraction}
use Rattle.np_model.specs.declared.task.Atom.{Atom}
use Rattle.np_model.specs.declared.task.Term.{Term}
use Rattle.np_model.specs.Ground.{same_atom, same_term}

-- a set of ground atoms, those that are true, and a map from ground terms to their values
pub record State : Type 0 where
  pub has : Atom → Bool
  pub value : Term → Option Fraction

-- whether a list has the atom
abbrev pub is_among : List Atom → Atom → Bool
is_among atoms a = list_any (same_atom a) atoms

-- the value that a list gives the term: the first one, where it gives several
abbrev pub value_among : List (Term × Fraction) → Term → Option Fraction
value_among [] t = None
value_among (v ∷ vs) t = if same_term t v.0 then Some v.1 else value_among vs t

-- the state in which these atoms are true, and these terms have these values
abbrev pub state_of : List Atom → List (Term × Fraction) → State
state_of atoms values = record { has = is_among atoms; value = value_among values }
