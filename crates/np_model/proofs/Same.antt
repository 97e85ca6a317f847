-- The tests of two atoms or terms decide whether they are the same; a state is what it has and its values.
use Rattle.std.proofs.Common.{◌≡◌, true, refl}
use Rattle.std.proofs.Math.Path.{fun_ext}
use Rattle.np_model.specs.declared.task.Atom.{Atom}
use Rattle.np_model.specs.declared.task.Term.{Term}
use Rattle.np_model.specs.Ground.{same_atom, same_term, same_atom-Decides, same_term-Decides}
use Rattle.np_model.specs.States.{State}

-- an atom is the same as itself
pub same_atom_itself : (a : Atom) → same_atom a a ≡ true
same_atom_itself a = (same_atom-Decides a a).1 refl

-- a term is the same as itself
pub same_term_itself : (t : Term) → same_term t t ≡ true
same_term_itself t = (same_term-Decides t t).1 refl

-- states that have the same atoms and values are the same
pub same_state : (s t : State) → ((a : Atom) → s.has a ≡ t.has a) → ((x : Term) → s.value x ≡ t.value x) → s ≡ t
same_state s t e f = λ i. record { has = fun_ext {f = s.has} {g = t.has} e i; value = fun_ext {f = s.value} {g = t.value} f i }
