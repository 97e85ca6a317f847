-- The changes of atoms one at a time, as the code makes them.
use Rattle.std.specs.Prelude.{ℕ, ◌||◌, ◌&&◌, not, List, [], ◌∷◌}
use Rattle.np_model.specs.declared.task.Atom as model
use Rattle.np_model.specs.declared.task.Eff.{Eff}
use Rattle.np_model.specs.declared.task.Eff.TheVariants.{Add, Delete, Change}
use Rattle.np_model.specs.Ground.{atom_of, same_atom}
use Rattle.np_model.specs.States.{State}

-- the state in which the atom is false, and which is else the same
abbrev pub without_atom : State → model.Atom → State
without_atom s a = record { has = λ b. s.has b && not (same_atom b a); value = s.value }

-- the state in which the atom is true, and which is else the same
abbrev pub with_atom : State → model.Atom → State
with_atom s a = record { has = λ b. s.has b || same_atom b a; value = s.value }

-- the state after what an effect deletes is gone
abbrev pub deleted : List ℕ → State → Eff → State
deleted objects s (Add predicate refs) = s
deleted objects s (Delete predicate refs) = without_atom s (atom_of objects predicate refs)
deleted objects s (Change up function refs amount) = s

abbrev pub all_deleted : List ℕ → State → List Eff → State
all_deleted objects s [] = s
all_deleted objects s (e ∷ es) = all_deleted objects (deleted objects s e) es

-- the state after what an effect adds has come
abbrev pub atoms_added : List ℕ → State → Eff → State
atoms_added objects s (Add predicate refs) = with_atom s (atom_of objects predicate refs)
atoms_added objects s (Delete predicate refs) = s
atoms_added objects s (Change up function refs amount) = s

abbrev pub all_added : List ℕ → State → List Eff → State
all_added objects s [] = s
all_added objects s (e ∷ es) = all_added objects (atoms_added objects s e) es
