-- Each step is tried once.
use Rattle.std.proofs.Common.{◌≡◌, ℕ, suc, Bool, true, false, refl, ◌∙◌, ap, arith, List, [], ◌∷◌, ◌++◌, map}
use Rattle.std.specs.Prelude.{◌||◌, ◌&&◌, ◌==◌, if◌then◌else◌, bytes_eq}
use Rattle.std.specs.List.{list_any, flat_map}
use Rattle.std.proofs.Math.Bool.{and-false}
use Rattle.std.proofs.lemmas.List.Folds.{list_any-append}
use Rattle.np_model.specs.declared.task.TypeName.{TypeName}
use Rattle.np_model.specs.declared.task.Object.{Object}
use Rattle.np_model.specs.declared.task.Action.{Action}
use Rattle.np_model.specs.declared.task.Step.{Step}
use Rattle.np_model.specs.declared.task.TaskParts.{TaskParts}
use Rattle.np_model.specs.Types.{is_under}
use Rattle.np_bind.specs.Bindings.{objects_from, fitting_objects, bindings, steps_of_action, steps_from}
use Rattle.np_bind.proofs.Enumeration.{before, beginning, any_beginning, is_of, with_objects, of_number, none_before}

-- no item passes the test of an earlier one
abbrev pub Once : {A : Type 0} → (A → A → Bool) → List A → Type 0
Once same [] = Unit {0}
Once same (x ∷ xs) = (list_any (same x) xs ≡ false) × Once same xs

-- no item of one list passes the test of one of another
abbrev Apart : {A : Type 0} → (A → A → Bool) → List A → List A → Type 0
Apart same [] ys = Unit {0}
Apart same (x ∷ xs) ys = (list_any (same x) ys ≡ false) × Apart same xs ys

both_no : (p q : Bool) → p ≡ false → q ≡ false → (p || q) ≡ false
both_no true q e f = e
both_no false q e f = f

once_append : {A : Type 0} (same : A → A → Bool) (xs ys : List A) → Once same xs → Once same ys → Apart same xs ys → Once same (xs ++ ys)
once_append same [] ys p q a = q
once_append same (x ∷ xs) ys p q a =
    (list_any-append (same x) xs ys ∙ both_no _ _ p.0 a.0, once_append same xs ys p.1 q a.1)

abbrev is_number : ℕ → ℕ → Bool
is_number n m = n == m

-- no object fits twice
fitting_once : (types : List TypeName) (of k : ℕ) (os : List Object) → Once is_number (objects_from types of k os)
fitting_once types of k [] = tt
fitting_once types of k (o ∷ os) = by_fit (is_under types o.of of) (fitting_once types of (suc k) os) (before types of (suc k) k os (omega arith))
  where
    by_fit : (b : Bool) → Once is_number (objects_from types of (suc k) os) → list_any (λ x. k == x) (objects_from types of (suc k) os) ≡ false
        → Once is_number (if b then k ∷ objects_from types of (suc k) os else objects_from types of (suc k) os)
    by_fit true p q = (q, p)
    by_fit false p q = p

beginning_once : (x : ℕ) (lists : List (List ℕ)) → Once bytes_eq lists → Once bytes_eq (map (λ l. x ∷ l) lists)
beginning_once x [] p = tt
beginning_once x (l ∷ lists) p = (beginning x l x lists ∙ ap (λ b. (x == x) && b) p.0 ∙ and-false (x == x), beginning_once x lists p.1)

beginning_apart : (x : ℕ) (xs : List ℕ) (lists all : List (List ℕ)) → list_any (λ y. x == y) xs ≡ false → Apart bytes_eq (map (λ l. x ∷ l) lists) (flat_map (λ y. map (λ l. y ∷ l) all) xs)
beginning_apart x xs [] all e = tt
beginning_apart x xs (l ∷ lists) all e = (any_beginning x l xs all ∙ ap (λ b. b && list_any (bytes_eq l) all) e, beginning_apart x xs lists all e)

flat_once : (xs : List ℕ) (lists : List (List ℕ)) → Once is_number xs → Once bytes_eq lists → Once bytes_eq (flat_map (λ y. map (λ l. y ∷ l) lists) xs)
flat_once [] lists p q = tt
flat_once (x ∷ xs) lists p q =
    once_append bytes_eq (map (λ l. x ∷ l) lists) (flat_map (λ y. map (λ l. y ∷ l) lists) xs) (beginning_once x lists q) (flat_once xs lists p.1 q) (beginning_apart x xs lists lists p.0)

-- no two bindings are the same
pub bindings_once : (task : TaskParts) (types : List ℕ) → Once bytes_eq (bindings task types)
bindings_once task [] = (refl, tt)
bindings_once task (of ∷ types) = flat_once (fitting_objects task of) (bindings task types) (fitting_once task.types of 0 task.objects) (bindings_once task types)

-- whether two pairs have the same step
abbrev pub is_same : (Step × Action) → (Step × Action) → Bool
is_same x y = is_of x.0 y

-- the steps of an action
action_once : (k : ℕ) (a : Action) (lists : List (List ℕ)) → Once bytes_eq lists → Once is_same (with_objects k a lists)
action_once k a [] p = tt
action_once k a (l ∷ lists) p =
    (of_number (record { action = k; objects = l }) k a lists ∙ ap (λ b. (k == k) && b) p.0 ∙ and-false (k == k), action_once k a lists p.1)

action_apart : (task : TaskParts) (k : ℕ) (a : Action) (actions : List Action) (lists : List (List ℕ)) → Apart is_same (with_objects k a lists) (steps_from task (suc k) actions)
action_apart task k a actions [] = tt
action_apart task k a actions (l ∷ lists) = (none_before task l k (suc k) actions (omega arith), action_apart task k a actions lists)

-- each step of the task is tried once
pub steps_once : (task : TaskParts) (k : ℕ) (actions : List Action) → Once is_same (steps_from task k actions)
steps_once task k [] = tt
steps_once task k (a ∷ actions) =
    once_append is_same (steps_of_action task k a) (steps_from task (suc k) actions)
    (action_once k a (bindings task a.parameters) (bindings_once task a.parameters)) (steps_once task (suc k) actions) (action_apart task k a actions (bindings task a.parameters))
