-- A look at an action's conditions before all of its parameters stand for objects, as private functions see it.
use Rattle.std.specs.Prelude.{◌≡◌, ℕ, Bool, true, false, ◌&&◌, ◌==◌, nat_lt, if◌then◌else◌, List, [], ◌∷◌, ◌++◌, length, Option, Some, None, Err}
use Rattle.std.specs.List.{list_all}
use Rattle.np_frac.specs.Fractions.{Fraction}
use Rattle.np_model.specs.declared.task.Term.{Term}
use Rattle.np_model.specs.declared.task.Ref.{Ref}
use Rattle.np_model.specs.declared.task.Ref.TheVariants.{Object, Parameter}
use Rattle.np_model.specs.declared.task.Cond.{Cond}
use Rattle.np_model.specs.declared.task.Cond.TheVariants as cond
use Rattle.np_model.specs.declared.task.TaskParts.{TaskParts}
use Rattle.np_model.specs.Ground.{object_of, atom_of}
use Rattle.np_model.specs.States.{is_among}
use Rattle.np_model.specs.Conditions.{with_sign}
use Rattle.np_model.specs.Tasks.{is_fixed}
use Rattle.np_linear.specs.declared.finding.Finding.TheVariants as found
use Rattle.np_bind.specs.declared.looking.Look.{Look}
use Rattle.np_bind.specs.declared.looking.Look.TheVariants.{Passes, Fails, Waits}
use Rattle.np_bind.specs.Grounding.{left_of_condition, left_of_all}

-- whether a reference stands for an object where so many parameters do
abbrev pub is_chosen : ℕ → Ref → Bool
is_chosen count (Object n) = true
is_chosen count (Parameter i) = nat_lt i count

-- the look at a condition that is known
abbrev pub look_by : Bool → Look
look_by true = Passes
look_by false = Fails

-- the look at an atom: one that isn't static gives no finding, and one that is static is known where its objects are
abbrev pub look_at_atom : TaskParts → List ℕ → Bool → ℕ → List Ref → Look
look_at_atom task objects positive predicate refs =
    if is_fixed task.predicates predicate
    then (if list_all (is_chosen (length objects)) refs then look_by (with_sign positive (is_among task.atoms (atom_of objects predicate refs))) else Waits)
    else Passes

-- the look at a condition where the first parameters stand for these objects
abbrev pub look_at : TaskParts → List ℕ → Cond → Look
look_at task objects (cond.Atom positive predicate refs) = look_at_atom task objects positive predicate refs
look_at task objects (cond.Same positive a b) =
    if is_chosen (length objects) a && is_chosen (length objects) b then look_by (with_sign positive (object_of objects a == object_of objects b)) else Waits
look_at task objects (cond.Compare op x y) = Waits

-- the conditions that are left after one was looked at
abbrev pub look_on : Look → List Cond → Option (List Cond) → Option (List Cond)
look_on Passes conditions rest = rest
look_on Fails conditions rest = None
look_on Waits conditions rest = Some conditions

-- the conditions from the first one on that isn't known yet; none where one before it fails
abbrev pub look_past : TaskParts → List ℕ → List Cond → Option (List Cond)
look_past task objects [] = Some []
look_past task objects (c ∷ cs) = look_on (look_at task objects c) (c ∷ cs) (look_past task objects cs)

-- of an action's conditions these are left: where the first finding at them is that one fails, it is that of all, whatever objects follow
pub record AreLeft (task : TaskParts) (values : List (Term × Fraction)) (front : List ℕ) (conditions left : List Cond) : Type 0 where
  pub fails : (os : List ℕ) → left_of_all (left_of_condition task values (front ++ os)) left ≡ Err found.Fails
      → left_of_all (left_of_condition task values (front ++ os)) conditions ≡ Err found.Fails
