-- What no effect names doesn't change.
use Rattle.std.proofs.Common.{◌≡◌, ℕ, zero, suc, Bool, true, false, refl, sym, ◌∙◌, ap, List, [], ◌∷◌, map, Some, None, Option}
use Rattle.std.proofs.Common.{eq-eqb}
use Rattle.std.specs.Prelude.{◌==◌, ◌&&◌, ◌||◌, not, if◌then◌else◌, is_some, filter, slice_get}
use Rattle.std.specs.Option.{option_map_or}
use Rattle.std.specs.List.{list_all, list_any}
use Rattle.std.proofs.Math.Bool.{and-true}
use Rattle.std.proofs.lemmas.Option.{none-some, same_Some}
use Rattle.np_frac.specs.Fractions.{Fraction, plus}
use Rattle.np_model.specs.declared.task.Atom as model
use Rattle.np_model.specs.declared.task.Term.{Term}
use Rattle.np_model.specs.declared.task.Eff.{Eff}
use Rattle.np_model.specs.declared.task.Eff.TheVariants as eff
use Rattle.np_model.specs.declared.task.Action.{Action}
use Rattle.np_model.specs.declared.task.Signature.{Signature}
use Rattle.np_model.specs.declared.task.Step.{Step}
use Rattle.np_model.specs.declared.task.TaskParts.{TaskParts}
use Rattle.np_model.specs.Ground.{atom_of, term_of, same_atom, same_term, same_atom-Decides, same_term-Decides}
use Rattle.np_model.specs.States.{State}
use Rattle.np_model.specs.Values.{of_both, sum_of}
use Rattle.np_model.specs.Steps.{adds, deletes, changes, amount_of, is_possible, next}
use Rattle.np_model.specs.Tasks.{is_fixed, names_predicate, names_function, FixedIsStatic}
use Rattle.np_model.proofs.Sums.{sum_zero}
use Rattle.np_model.proofs.Runs.{IsTaken, taken_from_next}

yes_is_no : true ≡ false → ⊥
yes_is_no e = cc

is_no : (b : Bool) → (b ≡ true → ⊥) → b ≡ false
is_no true f = absurd (f refl)
is_no false f = refl

first_no : (p q : Bool) → (p || q) ≡ false → p ≡ false
first_no true q e = e
first_no false q e = refl

second_no : (p q : Bool) → (p || q) ≡ false → q ≡ false
second_no true q e = absurd (yes_is_no e)
second_no false q e = e

both_no : (p q : Bool) → p ≡ false → q ≡ false → (p || q) ≡ false
both_no true q e f = e
both_no false q e f = f

first_yes : (a b : Bool) → (a && b) ≡ true → a ≡ true
first_yes true b e = refl
first_yes false b e = e

second_yes : (a b : Bool) → (a && b) ≡ true → b ≡ true
second_yes true b e = e
second_yes false b e = absurd (yes_is_no (sym e))

-- no effect that can happen changes a term without a value
pub nothing_changes : (objects : List ℕ) (s : State) (t : Term) (es : List Eff) → list_all (is_possible objects s) es ≡ true → s.value t ≡ None → filter (changes objects t) es ≡ []
nothing_changes objects s t [] p e = refl
nothing_changes objects s t (eff.Add predicate refs ∷ es) p e = nothing_changes objects s t es p e
nothing_changes objects s t (eff.Delete predicate refs ∷ es) p e = nothing_changes objects s t es p e
nothing_changes objects s t (eff.Change up function refs amount ∷ es) p e =
    by_same (same_term t (term_of objects function refs)) refl (nothing_changes objects s t es (second_yes _ _ p) e)
  where
    there_not : (o : Option Fraction) → is_some o ≡ true → o ≡ None → ⊥
    there_not None q r = yes_is_no (sym q)
    there_not (Some v) q r = none-some v (sym r)

    by_same : (b : Bool) → same_term t (term_of objects function refs) ≡ b → filter (changes objects t) es ≡ []
        → (if b then eff.Change up function refs amount ∷ filter (changes objects t) es else filter (changes objects t) es) ≡ []
    by_same true same more =
        absurd (there_not (s.value (term_of objects function refs)) (second_yes _ _ (first_yes _ _ p)) (ap (λ u. s.value u) (sym ((same_term-Decides t (term_of objects function refs)).0 same)) ∙ e))
    by_same false same more = more

-- atoms and terms of other symbols are others
pub other_atom : (a x : model.Atom) → (x.predicate == a.predicate) ≡ false → same_atom a x ≡ false
other_atom a x e = is_no (same_atom a x) (λ same. yes_is_no (sym (eq-eqb x.predicate a.predicate (ap (λ y. y.predicate) (sym ((same_atom-Decides a x).0 same)))) ∙ e))

pub other_term : (t x : Term) → (x.function == t.function) ≡ false → same_term t x ≡ false
other_term t x e = is_no (same_term t x) (λ same. yes_is_no (sym (eq-eqb x.function t.function (ap (λ y. y.function) (sym ((same_term-Decides t x).0 same)))) ∙ e))

-- what no effect of a list names, none of them adds, deletes or changes
pub not_added : (objects : List ℕ) (a : model.Atom) (es : List Eff) → list_any (names_predicate a.predicate) es ≡ false → list_any (adds objects a) es ≡ false
not_added objects a [] e = refl
not_added objects a (eff.Add predicate refs ∷ es) e =
    both_no _ _ (other_atom a (atom_of objects predicate refs) (first_no _ _ e)) (not_added objects a es (second_no _ _ e))
not_added objects a (eff.Delete predicate refs ∷ es) e = not_added objects a es (second_no _ _ e)
not_added objects a (eff.Change up function refs amount ∷ es) e = not_added objects a es e

pub not_deleted : (objects : List ℕ) (a : model.Atom) (es : List Eff) → list_any (names_predicate a.predicate) es ≡ false → list_any (deletes objects a) es ≡ false
not_deleted objects a [] e = refl
not_deleted objects a (eff.Add predicate refs ∷ es) e = not_deleted objects a es (second_no _ _ e)
not_deleted objects a (eff.Delete predicate refs ∷ es) e =
    both_no _ _ (other_atom a (atom_of objects predicate refs) (first_no _ _ e)) (not_deleted objects a es (second_no _ _ e))
not_deleted objects a (eff.Change up function refs amount ∷ es) e = not_deleted objects a es e

pub not_changed : (objects : List ℕ) (t : Term) (es : List Eff) → list_any (names_function t.function) es ≡ false → filter (changes objects t) es ≡ []
not_changed objects t [] e = refl
not_changed objects t (eff.Add predicate refs ∷ es) e = not_changed objects t es e
not_changed objects t (eff.Delete predicate refs ∷ es) e = not_changed objects t es e
not_changed objects t (eff.Change up function refs amount ∷ es) e =
    rw (other_term t (term_of objects function refs) (first_no _ _ e)) (not_changed objects t es (second_no _ _ e))

-- no effect of an action of the task names a static symbol
pub unnamed : (names : ℕ → Eff → Bool) (task : TaskParts) (signatures : List Signature) → FixedIsStatic task names signatures
    → (n : ℕ) → is_fixed signatures n ≡ true → (k : ℕ) (action : Action) → slice_get task.actions k ≡ Some action → list_any (names n) action.effects ≡ false
unnamed names task signatures static n e k action at = by_signature (slice_get signatures n) refl e
  where
    not_true : (b : Bool) → true ≡ not b → b ≡ false
    not_true true e = e
    not_true false e = refl

    none_of : (actions : List Action) (k : ℕ) → slice_get actions k ≡ Some action → list_any (λ a. list_any (names n) a.effects) actions ≡ false → list_any (names n) action.effects ≡ false
    none_of [] k at e = absurd (none-some action at)
    none_of (a ∷ actions) zero at e = ap (λ x. list_any (names n) x.effects) (sym (same_Some a action at)) ∙ first_no (list_any (names n) a.effects) _ e
    none_of (a ∷ actions) (suc k) at e = none_of actions k at (second_no (list_any (names n) a.effects) _ e)

    by_signature : (o : Option Signature) → slice_get signatures n ≡ o → option_map_or (λ s. s.fixed) o false ≡ true → list_any (names n) action.effects ≡ false
    by_signature None is e = absurd (yes_is_no (sym e))
    by_signature (Some x) is e = none_of task.actions k at (not_true _ (sym e ∙ static n x is))

-- a step leaves the atoms of static predicates as they are
pub static_atom_stays : (task : TaskParts) → FixedIsStatic task names_predicate task.predicates → (a : model.Atom) → is_fixed task.predicates a.predicate ≡ true
    → (step : Step) (s t : State) → next task step s ≡ Some t → t.has a ≡ s.has a
static_atom_stays task static a fixed step s t e =
    let h : IsTaken task step s t = taken_from_next task step s t e in
    let free = unnamed names_predicate task task.predicates static a.predicate fixed step.action h.action h.named in
    ap (λ (u : State). u.has a) (sym h.result)
    ∙ rw (not_added step.objects a h.action.effects free, not_deleted step.objects a h.action.effects free) (and-true (s.has a))

-- and the values of static functions
pub static_value_stays : (task : TaskParts) → FixedIsStatic task names_function task.functions → (x : Term) → is_fixed task.functions x.function ≡ true
    → (step : Step) (s t : State) → next task step s ≡ Some t → t.value x ≡ s.value x
static_value_stays task static x fixed step s t e =
    let h : IsTaken task step s t = taken_from_next task step s t e in
    ap (λ (u : State). u.value x) (sym h.result)
    ∙ ap (λ es. of_both plus (s.value x) (sum_of (map (amount_of step.objects s) es))) (not_changed step.objects x h.action.effects (unnamed names_function task task.functions static x.function fixed step.action h.action h.named))
    ∙ sum_zero (s.value x)
