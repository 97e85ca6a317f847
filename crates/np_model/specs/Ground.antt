-- Ground atoms and terms, and the objects that references stand for.
use Rattle.std.specs.Prelude.{ℕ, Bool, ◌&&◌, ◌==◌, List, map, slice_index, bytes_eq}
use Rattle.std.proofs.Common.{◌≡◌, ap, Decides}
use Rattle.std.proofs.lemmas.Bool.Decides.{Decides-and, Decides-like}
use Rattle.std.proofs.lemmas.Bool.{eqb-true, eq-eqb}
use Rattle.std.proofs.lemmas.Slice.Eq.{bytes_eq-Decides}
use Rattle.np_model.specs.declared.task.Ref.{Ref}
use Rattle.np_model.specs.declared.task.Ref.TheVariants.{Object, Parameter}
use Rattle.np_model.specs.declared.task.Atom.{Atom}
use Rattle.np_model.specs.declared.task.Term.{Term}
use Rattle.np_model.specs.declared.task.Step.{Step}

-- the object that a reference stands for, where the parameters stand for these objects
abbrev pub object_of : List ℕ → Ref → ℕ
object_of objects (Object n) = n
object_of objects (Parameter i) = slice_index objects i

-- the objects that references stand for
abbrev pub objects_of : List ℕ → List Ref → List ℕ
objects_of objects refs = map (object_of objects) refs

-- the ground atom of a predicate and references
abbrev pub atom_of : List ℕ → ℕ → List Ref → Atom
atom_of objects predicate refs = record { predicate = predicate; objects = objects_of objects refs }

-- the ground term of a function and references
abbrev pub term_of : List ℕ → ℕ → List Ref → Term
term_of objects function refs = record { function = function; objects = objects_of objects refs }

-- two atoms are the same where their predicates and their objects are
abbrev pub same_atom : Atom → Atom → Bool
same_atom a b = (a.predicate == b.predicate) && bytes_eq a.objects b.objects

-- two terms are the same where their functions and their objects are
abbrev pub same_term : Term → Term → Bool
same_term a b = (a.function == b.function) && bytes_eq a.objects b.objects

-- two steps are the same where their actions and their objects are
abbrev pub same_step : Step → Step → Bool
same_step a b = (a.action == b.action) && bytes_eq a.objects b.objects

-- the tests decide whether two atoms, terms or steps are the same
both-Decides : (n m : ℕ) (xs ys : List ℕ) → Decides ((n == m) && bytes_eq xs ys) ((n ≡ m) × (xs ≡ ys))
both-Decides n m xs ys = Decides-and (n == m) (bytes_eq xs ys) (eqb-true n m, eq-eqb n m) (bytes_eq-Decides xs ys)

pub same_atom-Decides : (a b : Atom) → Decides (same_atom a b) (a ≡ b)
same_atom-Decides a b =
    Decides-like (same_atom a b) (λ p. λ i. record { predicate = p.0 i; objects = p.1 i }) (λ p. (ap (λ x. x.predicate) p, ap (λ x. x.objects) p))
    (both-Decides a.predicate b.predicate a.objects b.objects)

pub same_term-Decides : (a b : Term) → Decides (same_term a b) (a ≡ b)
same_term-Decides a b =
    Decides-like (same_term a b) (λ p. λ i. record { function = p.0 i; objects = p.1 i }) (λ p. (ap (λ x. x.function) p, ap (λ x. x.objects) p))
    (both-Decides a.function b.function a.objects b.objects)

pub same_step-Decides : (a b : Step) → Decides (same_step a b) (a ≡ b)
same_step-Decides a b =
    Decides-like (same_step a b) (λ p. λ i. record { action = p.0 i; objects = p.1 i }) (λ p. (ap (λ x. x.action) p, ap (λ x. x.objects) p))
    (both-Decides a.action b.action a.objects b.objects)
