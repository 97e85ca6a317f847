-- What gets a number in a flat task, and which: each thing by its first reading. Kept steps are read in order, the conditions of each in
-- order of text, and then the goal. This project's own.
use Rattle.std.specs.Prelude.{ℕ, suc, Bool, if◌then◌else◌, List, [], ◌∷◌, ◌++◌, map}
use Rattle.std.specs.List.{flat_map, list_any}
use Rattle.np_model.specs.declared.task.Atom as model
use Rattle.np_model.specs.declared.task.Term.{Term}
use Rattle.np_model.specs.Ground.{same_atom, same_term}
use Rattle.np_bind.specs.declared.bound.BoundCond.{BoundCond}
use Rattle.np_bind.specs.declared.bound.BoundCond.TheVariants.{Atom, Compare, Never}
use Rattle.np_bind.specs.declared.bound.BoundParts.{BoundParts}

-- known things, and then those of others that aren't among them, each once, in order
abbrev pub each_once : {A : Type 0} → (A → A → Bool) → List A → List A → List A
each_once same known [] = known
each_once same known (x ∷ xs) = each_once same (if list_any (same x) known then known else known ++ x ∷ []) xs

-- the place of a thing in a list, counted from 0; as many as there are where it isn't there
abbrev pub number_of : {A : Type 0} → (A → A → Bool) → List A → A → ℕ
number_of same [] y = 0
number_of same (x ∷ xs) y = if same y x then 0 else suc (number_of same xs y)

-- the conditions in the order in which they are read
abbrev pub conditions_of : BoundParts → List BoundCond
conditions_of bound = flat_map (λ b. b.needs) bound.steps ++ bound.goal

abbrev pub atoms_in : BoundCond → List model.Atom
atoms_in (Atom positive a) = a ∷ []
atoms_in (Compare op l) = []
atoms_in Never = []

abbrev pub terms_in : BoundCond → List Term
terms_in (Atom positive a) = []
terms_in (Compare op l) = map (λ t. t.0) l.terms
terms_in Never = []

-- the facts: the atoms that conditions read
abbrev pub facts_of : BoundParts → List model.Atom
facts_of bound = each_once same_atom [] (flat_map atoms_in (conditions_of bound))

-- the values: the terms that comparisons read
abbrev pub values_of : BoundParts → List Term
values_of bound = each_once same_term [] (flat_map terms_in (conditions_of bound))
