-- What a look at conditions says of all bindings that begin with the same objects.
use Rattle.std.proofs.Common.{◌≡◌, ℕ, zero, suc, ◌<◌, Bool, true, false, refl, sym, ◌∙◌, ap, subst, arith, List, [], ◌∷◌, ◌++◌, take, drop, length, Option, Some, None, Ok, Err, Result, append_assoc, true≢false}
use Rattle.std.specs.Prelude.{◌&&◌, ◌==◌, if◌then◌else◌, is_ok, slice_index}
use Rattle.std.specs.List.{list_all}
use Rattle.std.proofs.lemmas.Bool.{ltb-true}
use Rattle.std.proofs.lemmas.List.{take-append-drop}
use Rattle.np_frac.specs.Fractions.{Fraction}
use Rattle.np_model.specs.declared.task.Term.{Term}
use Rattle.np_model.specs.declared.task.Ref.{Ref}
use Rattle.np_model.specs.declared.task.Ref.TheVariants.{Object, Parameter}
use Rattle.np_model.specs.declared.task.Cond.{Cond}
use Rattle.np_model.specs.declared.task.Cond.TheVariants as cond
use Rattle.np_model.specs.declared.task.Action.{Action}
use Rattle.np_model.specs.declared.task.Step.{Step}
use Rattle.np_model.specs.declared.task.TaskParts.{TaskParts}
use Rattle.np_model.specs.Ground.{object_of, objects_of, atom_of}
use Rattle.np_model.specs.States.{is_among}
use Rattle.np_model.specs.Conditions.{with_sign}
use Rattle.np_model.specs.Tasks.{is_fixed}
use Rattle.np_linear.specs.declared.linear.Linear.{Linear}
use Rattle.np_linear.specs.declared.finding.Finding.{Finding}
use Rattle.np_linear.specs.declared.finding.Finding.TheVariants as found
use Rattle.np_linear.specs.Answers.{and_then}
use Rattle.np_bind.specs.declared.bound.BoundCond.{BoundCond}
use Rattle.np_bind.specs.declared.bound.BoundStep.{BoundStep}
use Rattle.np_bind.specs.declared.looking.Look.{Look}
use Rattle.np_bind.specs.declared.looking.Look.TheVariants.{Passes, Fails, Waits}
use Rattle.np_bind.specs.Grounding.{left_of_known, left_of_atom, left_of_condition, left_of_all, bound_step}
use Rattle.np_bind.specs.Looking.{is_chosen, look_by, look_at_atom, look_at, look_on, look_past, AreLeft}
use Rattle.np_bind.specs.Trying.{Trial, begun, kept_with}

-- ---- references

front_at : (xs ys : List ℕ) (i : ℕ) → i < length xs → slice_index (xs ++ ys) i ≡ slice_index xs i
front_at [] ys i h = absurd (omega arith)
front_at (x ∷ xs) ys zero h = refl
front_at (x ∷ xs) ys (suc i) h = front_at xs ys i (omega arith)

-- an object that is chosen stays, whatever objects follow
chosen_stays : (front os : List ℕ) (r : Ref) → is_chosen (length front) r ≡ true → object_of (front ++ os) r ≡ object_of front r
chosen_stays front os (Object n) e = refl
chosen_stays front os (Parameter i) e = front_at front os i (ltb-true i (length front) e)

both_true : (a b : Bool) → (a && b) ≡ true → (a ≡ true) × (b ≡ true)
both_true true b e = (refl, e)
both_true false b e = absurd (true≢false (sym e))

all_chosen_stay : (front os : List ℕ) (refs : List Ref) → list_all (is_chosen (length front)) refs ≡ true → objects_of (front ++ os) refs ≡ objects_of front refs
all_chosen_stay front os [] e = refl
all_chosen_stay front os (r ∷ refs) e =
    let b = both_true (is_chosen (length front) r) (list_all (is_chosen (length front)) refs) e in
    ap (λ o. o ∷ objects_of (front ++ os) refs) (chosen_stays front os r b.0) ∙ ap (λ xs. object_of front r ∷ xs) (all_chosen_stay front os refs b.1)

-- ---- one condition

-- what a look says of what is left of the condition
abbrev pub Tells : Look → Result (List BoundCond) Finding → Type 0
Tells Passes r = is_ok r ≡ true
Tells Fails r = r ≡ Err found.Fails
Tells Waits r = Unit {0}

known_tells : (b : Bool) → Tells (look_by b) (left_of_known b)
known_tells true = refl
known_tells false = refl

atom_tells : (task : TaskParts) (front os : List ℕ) (positive : Bool) (predicate : ℕ) (refs : List Ref)
    → Tells (look_at_atom task front positive predicate refs) (left_of_atom (is_fixed task.predicates predicate) positive (is_among task.atoms (atom_of (front ++ os) predicate refs)) (atom_of (front ++ os) predicate refs))
atom_tells task front os positive predicate refs = by_fixed (is_fixed task.predicates predicate)
  where
    by_chosen : (b : Bool) → list_all (is_chosen (length front)) refs ≡ b
        → Tells (if b then look_by (with_sign positive (is_among task.atoms (atom_of front predicate refs))) else Waits) (left_of_known (with_sign positive (is_among task.atoms (atom_of (front ++ os) predicate refs))))
    by_chosen true e =
        subst (λ xs. Tells (look_by (with_sign positive (is_among task.atoms (atom_of front predicate refs)))) (left_of_known (with_sign positive (is_among task.atoms (record { predicate = predicate; objects = xs })))))
        (sym (all_chosen_stay front os refs e)) (known_tells (with_sign positive (is_among task.atoms (atom_of front predicate refs))))
    by_chosen false e = tt

    by_fixed : (f : Bool) → Tells (if f then (if list_all (is_chosen (length front)) refs then look_by (with_sign positive (is_among task.atoms (atom_of front predicate refs))) else Waits) else Passes) (left_of_atom f positive (is_among task.atoms (atom_of (front ++ os) predicate refs)) (atom_of (front ++ os) predicate refs))
    by_fixed true = by_chosen (list_all (is_chosen (length front)) refs) refl
    by_fixed false = refl

same_tells : (front os : List ℕ) (positive : Bool) (a b : Ref) (chosen : Bool) → (is_chosen (length front) a && is_chosen (length front) b) ≡ chosen
    → Tells (if chosen then look_by (with_sign positive (object_of front a == object_of front b)) else Waits) (left_of_known (with_sign positive (object_of (front ++ os) a == object_of (front ++ os) b)))
same_tells front os positive a b true e =
    let c = both_true (is_chosen (length front) a) (is_chosen (length front) b) e in
    rw (chosen_stays front os a c.0, chosen_stays front os b c.1) (known_tells (with_sign positive (object_of front a == object_of front b)))
same_tells front os positive a b false e = tt

look_tells : (task : TaskParts) (values : List (Term × Fraction)) (front os : List ℕ) (c : Cond) → Tells (look_at task front c) (left_of_condition task values (front ++ os) c)
look_tells task values front os (cond.Atom positive predicate refs) = atom_tells task front os positive predicate refs
look_tells task values front os (cond.Same positive a b) = same_tells front os positive a b (is_chosen (length front) a && is_chosen (length front) b) refl
look_tells task values front os (cond.Compare op x y) = tt

-- ---- several conditions

-- what a look past conditions says of what is left of them
abbrev LooksSay : (Cond → Result (List BoundCond) Finding) → List Cond → Option (List Cond) → Type 0
LooksSay left conditions (Some rest) = left_of_all left rest ≡ Err found.Fails → left_of_all left conditions ≡ Err found.Fails
LooksSay left conditions None = left_of_all left conditions ≡ Err found.Fails

-- a condition that passes doesn't hide that one after it fails
past : (left : Cond → Result (List BoundCond) Finding) (c : Cond) (cs : List Cond) → is_ok (left c) ≡ true → left_of_all left cs ≡ Err found.Fails → left_of_all left (c ∷ cs) ≡ Err found.Fails
past left c cs ok e = by (left c) ok
  where
    by : (r : Result (List BoundCond) Finding) → is_ok r ≡ true → and_then r (λ b. and_then (left_of_all left cs) (λ bs. Ok (b ++ bs))) ≡ Err found.Fails
    by (Ok b) ok = rw e refl
    by (Err n) ok = absurd (true≢false (sym ok))

first_fails : (left : Cond → Result (List BoundCond) Finding) (c : Cond) (cs : List Cond) → left c ≡ Err found.Fails → left_of_all left (c ∷ cs) ≡ Err found.Fails
first_fails left c cs e = rw e refl

looks_say : (task : TaskParts) (values : List (Term × Fraction)) (front os : List ℕ) (cs : List Cond) → LooksSay (left_of_condition task values (front ++ os)) cs (look_past task front cs)
looks_say task values front os [] = λ e. e
looks_say task values front os (c ∷ cs) = by (look_at task front c) (look_tells task values front os c) (look_past task front cs) (looks_say task values front os cs)
  where
    by : (look : Look) → Tells look (left_of_condition task values (front ++ os) c) → (o : Option (List Cond)) → LooksSay (left_of_condition task values (front ++ os)) cs o
        → LooksSay (left_of_condition task values (front ++ os)) (c ∷ cs) (look_on look (c ∷ cs) o)
    by Passes t (Some rest) h = λ e. past (left_of_condition task values (front ++ os)) c cs t (h e)
    by Passes t None h = past (left_of_condition task values (front ++ os)) c cs t h
    by Fails t o h = first_fails (left_of_condition task values (front ++ os)) c cs t
    by Waits t o h = λ e. e

-- ---- what is left of an action's conditions

pub left_at_first : (task : TaskParts) (values : List (Term × Fraction)) (front : List ℕ) (conditions : List Cond) → AreLeft task values front conditions conditions
left_at_first task values front conditions = record { fails = λ os e. e }

-- after a look
pub left_on : (task : TaskParts) (values : List (Term × Fraction)) (front : List ℕ) (conditions left rest : List Cond) → AreLeft task values front conditions left
    → Some rest ≡ look_past task front left → AreLeft task values front conditions rest
left_on task values front conditions left rest h is =
    record { fails = λ os e. h.fails os (subst (LooksSay (left_of_condition task values (front ++ os)) left) (sym is) (looks_say task values front os left) e) }

-- after more objects
left_more : (task : TaskParts) (values : List (Term × Fraction)) (front more : List ℕ) (conditions left : List Cond) → AreLeft task values front conditions left → AreLeft task values (front ++ more) conditions left
left_more task values front more conditions left h =
    record { fails = λ os. subst (λ objects. left_of_all (left_of_condition task values objects) left ≡ Err found.Fails → left_of_all (left_of_condition task values objects) conditions ≡ Err found.Fails) (sym (append_assoc front more os)) (h.fails (more ++ os)) }

pub left_begun : (task : TaskParts) (values : List (Term × Fraction)) (front new : List ℕ) (conditions left : List Cond) → take (length front) new ≡ front → AreLeft task values front conditions left → AreLeft task values new conditions left
left_begun task values front new conditions left begins h =
    subst (λ xs. AreLeft task values xs conditions left) (ap (λ xs. xs ++ drop (length front) new) (sym begins) ∙ take-append-drop (length front) new)
    (left_more task values front (drop (length front) new) conditions left h)

-- ---- the bindings that begin so

bound_fails : (task : TaskParts) (values : List (Term × Fraction)) (metric : Option Linear) (step : Step) (action : Action)
    → left_of_all (left_of_condition task values step.objects) action.needs ≡ Err found.Fails → bound_step task values metric step action ≡ Err found.Fails
unfolding bound_step
bound_fails task values metric step action e = rw e refl

-- where a look finds that a condition fails, none of them is kept
pub none_kept : (trial : Trial) (front : List ℕ) (left : List Cond) (kept : List BoundStep) (lists : List (List ℕ)) → AreLeft trial.task trial.values front trial.action.needs left
    → None ≡ look_past trial.task front left → kept_with trial kept (begun front lists) ≡ Ok kept
none_kept trial front left kept [] h is = refl
none_kept trial front left kept (os ∷ lists) h is =
    rw (bound_fails trial.task trial.values trial.metric (record { action = trial.number; objects = front ++ os }) trial.action
    (h.fails os (subst (LooksSay (left_of_condition trial.task trial.values (front ++ os)) left) (sym is) (looks_say trial.task trial.values front os left))))
    (none_kept trial front left kept lists h is)
