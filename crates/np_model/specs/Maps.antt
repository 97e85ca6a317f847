-- Sets and maps by reference that agree with a list.
use Rattle.std.specs.Borrow.{Bor}
use Rattle.std.specs.Prelude.{◌≡◌, List, option_map}
use Rattle.std.specs.HashMap.{HashMap, get}
use Rattle.std.specs.HashSet.{HashSet, contains}
use Rattle.np_frac.specs.Fractions.{Fraction}
use Rattle.np_model.specs.declared.task.Atom.{Atom}
use Rattle.np_model.specs.declared.task.Term.{Term}
use Rattle.np_model.specs.Ground.{same_atom, same_term}
use Rattle.np_model.specs.States.{is_among, value_among}

-- the set has the atoms of the list
abbrev pub HasAtoms : {S : Type 0} → HashSet (Bor Atom) S → List Atom → Type 0
HasAtoms set atoms = (q : Bor Atom) → contains (λ x y. same_atom x.now y.now) set q ≡ is_among atoms q.now

-- the map has the values of the list
abbrev pub HasValues : {S : Type 0} → HashMap (Bor Term) (Bor (Term × Fraction)) S → List (Term × Fraction) → Type 0
HasValues map values =
    (q : Bor Term) → option_map (λ (v : Bor (Term × Fraction)). v.now.1) (get (λ x y. same_term x.now y.now) map q) ≡ value_among values q.now
