-- Each step of the task is among the bindings, and nothing else is.
use Rattle.std.proofs.Common.{◌≡◌, ℕ, zero, suc, ◌+◌, ◌<◌, Bool, true, false, refl, sym, ◌∙◌, ap, arith, List, [], ◌∷◌, map, Option, eq-eqb}
use Rattle.std.specs.Prelude.{◌||◌, ◌&&◌, ◌==◌, if◌then◌else◌, slice_get, bytes_eq}
use Rattle.std.specs.Option.{option_map_or}
use Rattle.std.specs.List.{list_any, flat_map}
use Rattle.std.proofs.Math.Bool.{and-false}
use Rattle.std.proofs.lemmas.List.Folds.{list_any-append}
use Rattle.std.proofs.lemmas.Bool.Decides.{nat_tests}
use Rattle.np_model.specs.declared.task.TypeName.{TypeName}
use Rattle.np_model.specs.declared.task.Object.{Object}
use Rattle.np_model.specs.declared.task.Action.{Action}
use Rattle.np_model.specs.declared.task.Step.{Step}
use Rattle.np_model.specs.declared.task.TaskParts.{TaskParts}
use Rattle.np_model.specs.Ground.{same_step}
use Rattle.np_model.specs.Types.{is_under, type_of, fits, all_fit}
use Rattle.np_model.specs.Steps.{takes}
use Rattle.np_bind.specs.Bindings.{objects_from, fitting_objects, bindings, steps_of_action, steps_from}

-- ---- objects

-- the number of an object before these isn't among those that fit
pub before : (types : List TypeName) (of k n : ℕ) (os : List Object) → n < k → list_any (λ x. n == x) (objects_from types of k os) ≡ false
before types of k n [] h = refl
before types of k n (o ∷ os) h = by_fit (is_under types o.of of) (before types of (suc k) n os (omega arith))
  where
    differ : (n == k) ≡ false
    differ = grind (arith, nat_tests)

    by_fit : (b : Bool) → list_any (λ x. n == x) (objects_from types of (suc k) os) ≡ false
        → list_any (λ x. n == x) (if b then k ∷ objects_from types of (suc k) os else objects_from types of (suc k) os) ≡ false
    by_fit true e = rw differ e
    by_fit false e = e

-- an object is among those that fit where its type fits
fits_at : (types : List TypeName) (of k n : ℕ) (os : List Object) → list_any (λ x. (n + k) == x) (objects_from types of k os) ≡ fits types of (type_of os n)
fits_at types of k n [] = refl
fits_at types of k zero (o ∷ os) = by_fit (is_under types o.of of)
  where
    here : (zero + k == k) ≡ true
    here = eq-eqb (zero + k) k (omega arith)

    by_fit : (b : Bool) → list_any (λ x. (zero + k) == x) (if b then k ∷ objects_from types of (suc k) os else objects_from types of (suc k) os) ≡ b
    by_fit true = rw here refl
    by_fit false = before types of (suc k) (zero + k) os (omega arith)
fits_at types of k (suc n) (o ∷ os) = by_fit (is_under types o.of of) (fits_at types of (suc k) n os)
  where
    differ : (suc n + k == k) ≡ false
    differ = grind (arith, nat_tests)

    moved : n + suc k ≡ suc n + k
    moved = omega arith

    by_fit : (b : Bool) → list_any (λ x. (n + suc k) == x) (objects_from types of (suc k) os) ≡ fits types of (type_of os n)
        → list_any (λ x. (suc n + k) == x) (if b then k ∷ objects_from types of (suc k) os else objects_from types of (suc k) os) ≡ fits types of (type_of os n)
    by_fit true e = rw differ (ap (λ m. list_any (λ x. m == x) (objects_from types of (suc k) os)) (sym moved) ∙ e)
    by_fit false e = ap (λ m. list_any (λ x. m == x) (objects_from types of (suc k) os)) (sym moved) ∙ e

pub fits_among : (task : TaskParts) (of n : ℕ) → list_any (λ x. n == x) (fitting_objects task of) ≡ fits task.types of (type_of task.objects n)
fits_among task of n = ap (λ m. list_any (λ x. m == x) (fitting_objects task of)) (omega arith) ∙ fits_at task.types of 0 n task.objects

-- ---- bindings

-- lists that begin with the same object
pub beginning : (o : ℕ) (os : List ℕ) (x : ℕ) (lists : List (List ℕ)) → list_any (bytes_eq (o ∷ os)) (map (λ l. x ∷ l) lists) ≡ ((o == x) && list_any (bytes_eq os) lists)
beginning o os x [] = sym (and-false (o == x))
beginning o os x (l ∷ lists) = ap (λ b. ((o == x) && bytes_eq os l) || b) (beginning o os x lists) ∙ by_first (o == x)
  where
    by_first : (b : Bool) → ((b && bytes_eq os l) || (b && list_any (bytes_eq os) lists)) ≡ (b && (bytes_eq os l || list_any (bytes_eq os) lists))
    by_first true = refl
    by_first false = refl

not_empty : (x : ℕ) (lists : List (List ℕ)) → list_any (bytes_eq []) (map (λ l. x ∷ l) lists) ≡ false
not_empty x [] = refl
not_empty x (l ∷ lists) = not_empty x lists

pub any_beginning : (o : ℕ) (os xs : List ℕ) (lists : List (List ℕ)) → list_any (bytes_eq (o ∷ os)) (flat_map (λ x. map (λ l. x ∷ l) lists) xs) ≡ (list_any (λ x. o == x) xs && list_any (bytes_eq os) lists)
any_beginning o os [] lists = refl
any_beginning o os (x ∷ xs) lists =
    list_any-append (bytes_eq (o ∷ os)) (map (λ l. x ∷ l) lists) (flat_map (λ y. map (λ l. y ∷ l) lists) xs)
    ∙ ap (λ b. b || list_any (bytes_eq (o ∷ os)) (flat_map (λ y. map (λ l. y ∷ l) lists) xs)) (beginning o os x lists)
    ∙ ap (λ b. ((o == x) && list_any (bytes_eq os) lists) || b) (any_beginning o os xs lists)
    ∙ shared (o == x) (list_any (λ y. o == y) xs) (list_any (bytes_eq os) lists)
  where
    shared : (a b c : Bool) → ((a && c) || (b && c)) ≡ ((a || b) && c)
    shared true b true = refl
    shared true b false = and-false b
    shared false b c = refl

no_empty : (xs : List ℕ) (lists : List (List ℕ)) → list_any (bytes_eq []) (flat_map (λ x. map (λ l. x ∷ l) lists) xs) ≡ false
no_empty [] lists = refl
no_empty (x ∷ xs) lists =
    list_any-append (bytes_eq []) (map (λ l. x ∷ l) lists) (flat_map (λ y. map (λ l. y ∷ l) lists) xs)
    ∙ ap (λ b. b || list_any (bytes_eq []) (flat_map (λ y. map (λ l. y ∷ l) lists) xs)) (not_empty x lists)
    ∙ no_empty xs lists

-- objects are among the bindings exactly where they fit
pub binding_fits : (task : TaskParts) (types objects : List ℕ) → list_any (bytes_eq objects) (bindings task types) ≡ all_fit task.types types (map (type_of task.objects) objects)
binding_fits task [] [] = refl
binding_fits task [] (o ∷ os) = refl
binding_fits task (of ∷ types) [] = no_empty (fitting_objects task of) (bindings task types)
binding_fits task (of ∷ types) (o ∷ os) =
    any_beginning o os (fitting_objects task of) (bindings task types)
    ∙ ap (λ b. b && list_any (bytes_eq os) (bindings task types)) (fits_among task of o)
    ∙ ap (λ b. fits task.types of (type_of task.objects o) && b) (binding_fits task types os)

-- ---- steps

-- whether a step is that of a pair of a step and its action
abbrev pub is_of : Step → (Step × Action) → Bool
is_of step x = same_step step x.0

-- the steps of an action of this number for these lists of objects, each with the action
abbrev pub with_objects : ℕ → Action → List (List ℕ) → List (Step × Action)
with_objects k action lists = map (λ objects. (record { action = k; objects = objects }, action)) lists

pub of_number : (step : Step) (k : ℕ) (action : Action) (lists : List (List ℕ))
    → list_any (is_of step) (with_objects k action lists) ≡ ((step.action == k) && list_any (bytes_eq step.objects) lists)
of_number step k action [] = sym (and-false (step.action == k))
of_number step k action (l ∷ lists) = ap (λ b. ((step.action == k) && bytes_eq step.objects l) || b) (of_number step k action lists) ∙ by_first (step.action == k)
  where
    by_first : (b : Bool) → ((b && bytes_eq step.objects l) || (b && list_any (bytes_eq step.objects) lists)) ≡ (b && (bytes_eq step.objects l || list_any (bytes_eq step.objects) lists))
    by_first true = refl
    by_first false = refl

-- whether an action takes objects
abbrev pub taken_by : TaskParts → List ℕ → Option Action → Bool
taken_by task objects o = option_map_or (λ a. takes task a objects) o false

pub none_before : (task : TaskParts) (objects : List ℕ) (n k : ℕ) (actions : List Action) → n < k → list_any (is_of (record { action = n; objects = objects })) (steps_from task k actions) ≡ false
none_before task objects n k [] h = refl
none_before task objects n k (a ∷ actions) h =
    list_any-append (is_of (record { action = n; objects = objects })) (steps_of_action task k a) (steps_from task (suc k) actions)
    ∙ ap (λ b. b || list_any (is_of (record { action = n; objects = objects })) (steps_from task (suc k) actions)) (of_number (record { action = n; objects = objects }) k a (bindings task a.parameters) ∙ ap (λ b. b && list_any (bytes_eq objects) (bindings task a.parameters)) differ)
    ∙ none_before task objects n (suc k) actions (omega arith)
  where
    differ : (n == k) ≡ false
    differ = grind (arith, nat_tests)

among_from : (task : TaskParts) (objects : List ℕ) (n k : ℕ) (actions : List Action)
    → list_any (is_of (record { action = n + k; objects = objects })) (steps_from task k actions) ≡ taken_by task objects (slice_get actions n)
among_from task objects n k [] = refl
among_from task objects zero k (a ∷ actions) =
    list_any-append (is_of (record { action = zero + k; objects = objects })) (steps_of_action task k a) (steps_from task (suc k) actions)
    ∙ ap (λ b. b || list_any (is_of (record { action = zero + k; objects = objects })) (steps_from task (suc k) actions))
    (of_number (record { action = zero + k; objects = objects }) k a (bindings task a.parameters) ∙ ap (λ b. b && list_any (bytes_eq objects) (bindings task a.parameters)) (eq-eqb (zero + k) k (omega arith)) ∙ binding_fits task a.parameters objects)
    ∙ ap (λ b. takes task a objects || b) (none_before task objects (zero + k) (suc k) actions (omega arith))
    ∙ or_false (takes task a objects)
  where
    or_false : (b : Bool) → (b || false) ≡ b
    or_false true = refl
    or_false false = refl
among_from task objects (suc n) k (a ∷ actions) =
    list_any-append (is_of (record { action = suc n + k; objects = objects })) (steps_of_action task k a) (steps_from task (suc k) actions)
    ∙ ap (λ b. b || list_any (is_of (record { action = suc n + k; objects = objects })) (steps_from task (suc k) actions)) (of_number (record { action = suc n + k; objects = objects }) k a (bindings task a.parameters) ∙ ap (λ b. b && list_any (bytes_eq objects) (bindings task a.parameters)) differ)
    ∙ ap (λ m. list_any (is_of (record { action = m; objects = objects })) (steps_from task (suc k) actions)) moved
    ∙ among_from task objects n (suc k) actions
  where
    differ : (suc n + k == k) ≡ false
    differ = grind (arith, nat_tests)

    moved : suc n + k ≡ n + suc k
    moved = omega arith

-- a step is among those that are tried exactly where it is a step of the task
pub among_steps : (task : TaskParts) (step : Step) → list_any (is_of step) (steps_from task 0 task.actions) ≡ taken_by task step.objects (slice_get task.actions step.action)
among_steps task step = ap (λ m. list_any (is_of (record { action = m; objects = step.objects })) (steps_from task 0 task.actions)) (omega arith) ∙ among_from task step.objects step.action 0 task.actions
