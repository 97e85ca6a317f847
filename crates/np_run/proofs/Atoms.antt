-- Atoms that are deleted and then added one by one are those after the action.
use Rattle.std.proofs.Common.{◌≡◌, ℕ, Bool, true, false, refl, ◌∙◌, ap, List, [], ◌∷◌}
use Rattle.std.specs.Prelude.{◌&&◌, ◌||◌, not}
use Rattle.std.specs.List.{list_any}
use Rattle.np_model.specs.declared.task.Atom as model
use Rattle.np_model.specs.declared.task.Eff.{Eff}
use Rattle.np_model.specs.declared.task.Eff.TheVariants as eff
use Rattle.np_model.specs.declared.task.Action.{Action}
use Rattle.np_model.specs.Ground.{atom_of, same_atom}
use Rattle.np_model.specs.States.{State}
use Rattle.np_model.specs.Steps.{adds, deletes}
use Rattle.np_model.proofs.Same.{same_state}
use Rattle.np_run.specs.Changing.{with_atoms_after}
use Rattle.np_run.specs.ChangeSteps.{without_atom, with_atom, all_deleted, all_added}

both_gone : (h d r : Bool) → ((h && not d) && not r) ≡ (h && not (d || r))
both_gone true true r = refl
both_gone true false r = refl
both_gone false d r = refl

both_come : (h d r : Bool) → ((h || d) || r) ≡ (h || (d || r))
both_come true d r = refl
both_come false d r = refl

stays : (h : Bool) → h ≡ (h && true)
stays true = refl
stays false = refl

stays_too : (h : Bool) → h ≡ (h || false)
stays_too true = refl
stays_too false = refl

swapped : (a b : Bool) → (a || b) ≡ (b || a)
swapped true true = refl
swapped true false = refl
swapped false true = refl
swapped false false = refl

deleted_has : (objects : List ℕ) (s : State) (es : List Eff) (a : model.Atom) → (all_deleted objects s es).has a ≡ (s.has a && not (list_any (deletes objects a) es))
deleted_has objects s [] a = stays (s.has a)
deleted_has objects s (eff.Add predicate refs ∷ es) a = deleted_has objects s es a
deleted_has objects s (eff.Delete predicate refs ∷ es) a =
    deleted_has objects (without_atom s (atom_of objects predicate refs)) es a ∙ both_gone (s.has a) (same_atom a (atom_of objects predicate refs)) (list_any (deletes objects a) es)
deleted_has objects s (eff.Change up function refs amount ∷ es) a = deleted_has objects s es a

deleted_value : (objects : List ℕ) (s : State) (es : List Eff) → (all_deleted objects s es).value ≡ s.value
deleted_value objects s [] = refl
deleted_value objects s (eff.Add predicate refs ∷ es) = deleted_value objects s es
deleted_value objects s (eff.Delete predicate refs ∷ es) = deleted_value objects (without_atom s (atom_of objects predicate refs)) es
deleted_value objects s (eff.Change up function refs amount ∷ es) = deleted_value objects s es

added_has : (objects : List ℕ) (s : State) (es : List Eff) (a : model.Atom) → (all_added objects s es).has a ≡ (s.has a || list_any (adds objects a) es)
added_has objects s [] a = stays_too (s.has a)
added_has objects s (eff.Add predicate refs ∷ es) a =
    added_has objects (with_atom s (atom_of objects predicate refs)) es a ∙ both_come (s.has a) (same_atom a (atom_of objects predicate refs)) (list_any (adds objects a) es)
added_has objects s (eff.Delete predicate refs ∷ es) a = added_has objects s es a
added_has objects s (eff.Change up function refs amount ∷ es) a = added_has objects s es a

added_value : (objects : List ℕ) (s : State) (es : List Eff) → (all_added objects s es).value ≡ s.value
added_value objects s [] = refl
added_value objects s (eff.Add predicate refs ∷ es) = added_value objects (with_atom s (atom_of objects predicate refs)) es
added_value objects s (eff.Delete predicate refs ∷ es) = added_value objects s es
added_value objects s (eff.Change up function refs amount ∷ es) = added_value objects s es

pub atoms_after : (action : Action) (objects : List ℕ) (s : State) → all_added objects (all_deleted objects s action.effects) action.effects ≡ with_atoms_after action objects s
atoms_after action objects s =
    same_state _ _
    (λ a. added_has objects (all_deleted objects s action.effects) action.effects a
    ∙ ap (λ h. h || list_any (adds objects a) action.effects) (deleted_has objects s action.effects a)
    ∙ swapped (s.has a && not (list_any (deletes objects a) action.effects)) (list_any (adds objects a) action.effects))
    (λ t. ap (λ f. f t) (added_value objects (all_deleted objects s action.effects) action.effects ∙ deleted_value objects s action.effects))
