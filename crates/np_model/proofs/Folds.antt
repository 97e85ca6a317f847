-- Two folds of an expression that are in a relation at each level are in it.
use Rattle.std.proofs.Common.{ℕ, subst, List, [], ◌∷◌, map}
use Rattle.np_frac.specs.Fractions.{Fraction}
use Rattle.np_model.specs.declared.task.Ref.{Ref}
use Rattle.np_model.specs.declared.task.Sum.{Sum, Sum-F, fold-Sum, roll-Sum, map-Sum, ind-Sum, fold-roll-Sum}
use Rattle.np_model.specs.declared.task.Sum.TheOpen as part

-- lists whose items are in a relation, one by one
abbrev pub Pairwise : {A B : Type 0} → (A → B → Type 0) → List A → List B → Type 0
Pairwise R [] [] = Unit {0}
Pairwise R [] (y ∷ ys) = ⊥
Pairwise R (x ∷ xs) [] = ⊥
Pairwise R (x ∷ xs) (y ∷ ys) = R x y × Pairwise R xs ys

-- a relation that each level keeps
pub record Keeps (A B : Type 0) (R : A → B → Type 0) (f : Sum-F A → A) (g : Sum-F B → B) : Type 0 where
  pub number : (x : Fraction) → R (f (part.Number x)) (g (part.Number x))
  pub value : (function : ℕ) (refs : List Ref) → R (f (part.Value function refs)) (g (part.Value function refs))
  pub minus : (a : A) (b : B) → R a b → R (f (part.Minus a)) (g (part.Minus b))
  pub sub : (a : A) (b : B) (c : A) (d : B) → R a b → R c d → R (f (part.Sub a c)) (g (part.Sub b d))
  pub div : (a : A) (b : B) (c : A) (d : B) → R a b → R c d → R (f (part.Div a c)) (g (part.Div b d))
  pub add : (xs : List A) (ys : List B) → Pairwise R xs ys → R (f (part.Add xs)) (g (part.Add ys))
  pub mul : (xs : List A) (ys : List B) → Pairwise R xs ys → R (f (part.Mul xs)) (g (part.Mul ys))

-- what is shown of an expression
abbrev Agree : (A B : Type 0) → (A → B → Type 0) → (Sum-F A → A) → (Sum-F B → B) → Sum → Type 0
Agree A B R f g s = R (fold-Sum A f s) (fold-Sum B g s)

-- what holds of a level, from what holds of its folds
from_level : (A B : Type 0) (R : A → B → Type 0) (f : Sum-F A → A) (g : Sum-F B → B) (z : Sum-F Sum)
    → R (f (map-Sum Sum A (fold-Sum A f) z)) (g (map-Sum Sum B (fold-Sum B g) z)) → Agree A B R f g (roll-Sum z)
from_level A B R f g z h = rw (fold-roll-Sum A f z, fold-roll-Sum B g z) h

-- an expression with what is shown of it
abbrev Shown : (A B : Type 0) → (A → B → Type 0) → (Sum-F A → A) → (Sum-F B → B) → Type 0
Shown A B R f g = (s : Sum) × Agree A B R f g s

pairwise : (A B : Type 0) (R : A → B → Type 0) (f : Sum-F A → A) (g : Sum-F B → B) (ys : List (Shown A B R f g))
    → Pairwise R (map (fold-Sum A f) (map (λ e. e.0) ys)) (map (fold-Sum B g) (map (λ e. e.0) ys))
pairwise A B R f g [] = tt
pairwise A B R f g (y ∷ ys) = (y.1, pairwise A B R f g ys)

level : (A B : Type 0) (R : A → B → Type 0) (f : Sum-F A → A) (g : Sum-F B → B) → Keeps A B R f g → (y : Sum-F (Shown A B R f g))
    → Agree A B R f g (roll-Sum (map-Sum (Shown A B R f g) Sum (λ e. e.0) y))
level A B R f g k (part.Number x) = from_level A B R f g (part.Number x) (k.number x)
level A B R f g k (part.Value function refs) = from_level A B R f g (part.Value function refs) (k.value function refs)
level A B R f g k (part.Minus a) = from_level A B R f g (part.Minus a.0) (k.minus _ _ a.1)
level A B R f g k (part.Sub a b) = from_level A B R f g (part.Sub a.0 b.0) (k.sub _ _ _ _ a.1 b.1)
level A B R f g k (part.Div a b) = from_level A B R f g (part.Div a.0 b.0) (k.div _ _ _ _ a.1 b.1)
level A B R f g k (part.Add ys) = from_level A B R f g (part.Add (map (λ e. e.0) ys)) (k.add _ _ (pairwise A B R f g ys))
level A B R f g k (part.Mul ys) = from_level A B R f g (part.Mul (map (λ e. e.0) ys)) (k.mul _ _ (pairwise A B R f g ys))

pub related : (A B : Type 0) (R : A → B → Type 0) (f : Sum-F A → A) (g : Sum-F B → B) → Keeps A B R f g → (s : Sum) → R (fold-Sum A f s) (fold-Sum B g s)
related A B R f g k = ind-Sum (Agree A B R f g) (λ x y is. subst (λ z. Agree A B R f g (roll-Sum z)) is (level A B R f g k y))
