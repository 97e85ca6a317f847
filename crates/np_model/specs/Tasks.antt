-- What every task keeps.
use Rattle.std.specs.Prelude.{◌≡◌, ◌≢◌, ℕ, suc, ◌^◌, ◌<◌, max, Bool, true, false, not, ◌&&◌, ◌==◌, nat_lt, nat_le, List, [], ◌∷◌, map, length, slice_get, Option, Some, is_some, IsTrue, IfSome, All, AllPairs, codes}
use Rattle.std.specs.List.{list_any, list_all}
use Rattle.std.specs.Option.{option_map_or}
use Rattle.np_model.specs.declared.task.Ref.{Ref}
use Rattle.np_model.specs.declared.task.Ref.TheVariants as ref
use Rattle.np_model.specs.declared.task.Atom.{Atom}
use Rattle.np_model.specs.declared.task.Term.{Term}
use Rattle.np_model.specs.declared.task.Sum.{Sum, Sum-F, fold-Sum}
use Rattle.np_model.specs.declared.task.Sum.TheOpen as part
use Rattle.np_model.specs.declared.task.Cond.{Cond}
use Rattle.np_model.specs.declared.task.Cond.TheVariants as cond
use Rattle.np_model.specs.declared.task.Eff.{Eff}
use Rattle.np_model.specs.declared.task.Eff.TheVariants as eff
use Rattle.np_model.specs.declared.task.Signature.{Signature}
use Rattle.np_model.specs.declared.task.Action.{Action}
use Rattle.np_model.specs.declared.task.TypeName.{TypeName}
use Rattle.np_model.specs.declared.task.TaskParts.{TaskParts}
use Rattle.np_model.specs.Values.{every_read}
use Rattle.np_model.specs.Types.{is_under, type_of, all_fit}
use Rattle.np_model.specs.Names.{is_name}

-- a list has so few items that a u32 can count them
abbrev pub IsShort : {A : Type 0} → List A → Type 0
IsShort xs = length xs < 2 ^ 32

-- no two items are the same
abbrev pub AreDistinct : {A : Type 0} → List A → Type 0
AreDistinct xs = AllPairs (λ a b. a ≢ b) xs

-- the names of one kind: each is a name, and no two are the same
pub record AreNames (names : List (List ℕ)) : Type 0 where
  pub spelled : All (λ n. IsTrue (is_name n)) names
  pub distinct : AreDistinct names

-- the type of what a reference stands for, where the parameters have these types; none where it names nothing
abbrev pub type_of_ref : TaskParts → List ℕ → Ref → Option ℕ
type_of_ref task parameters (ref.Object n) = type_of task.objects n
type_of_ref task parameters (ref.Parameter i) = slice_get parameters i

-- whether a symbol is declared, and has arguments of these types, one for each of its parameters
abbrev pub is_call : TaskParts → List Signature → ℕ → List (Option ℕ) → Bool
is_call task signatures symbol given =
    option_map_or (λ s. all_fit task.types s.parameters given) (slice_get signatures symbol) false

-- whether a declared symbol has references that fit it
abbrev pub is_use : TaskParts → List Signature → List ℕ → ℕ → List Ref → Bool
is_use task signatures parameters symbol refs =
    is_call task signatures symbol (map (type_of_ref task parameters) refs)

-- whether each sum and product in an expression has two parts or more, and few enough for a u32 to count them
abbrev pub has_parts_from : Sum-F Bool → Bool
has_parts_from (part.Number x) = true
has_parts_from (part.Value function refs) = true
has_parts_from (part.Minus x) = x
has_parts_from (part.Sub x y) = x && y
has_parts_from (part.Div x y) = x && y
has_parts_from (part.Add xs) = nat_le 2 (length xs) && nat_lt (length xs) (2 ^ 32) && list_all (λ x. x) xs
has_parts_from (part.Mul xs) = nat_le 2 (length xs) && nat_lt (length xs) (2 ^ 32) && list_all (λ x. x) xs

abbrev pub has_parts : Sum → Bool
has_parts = fold-Sum Bool has_parts_from

-- the largest number of a list, and 0 of none
abbrev pub largest : List ℕ → ℕ
largest [] = 0
largest (n ∷ ns) = max n (largest ns)

-- how deep the operators of an expression nest, from the depths of its parts
abbrev pub depth_from : Sum-F ℕ → ℕ
depth_from (part.Number x) = 0
depth_from (part.Value function refs) = 0
depth_from (part.Minus x) = suc x
depth_from (part.Sub x y) = suc (max x y)
depth_from (part.Div x y) = suc (max x y)
depth_from (part.Add xs) = suc (largest xs)
depth_from (part.Mul xs) = suc (largest xs)

abbrev pub depth_of : Sum → ℕ
depth_of = fold-Sum ℕ depth_from

-- whether an expression is allowed where the parameters have these types; its operators nest at most 256 deep, as brackets in a text do
abbrev pub is_sum : TaskParts → List ℕ → Sum → Bool
is_sum task parameters sum =
    every_read (is_use task task.functions parameters) sum && (has_parts sum && nat_le (depth_of sum) 256)

-- whether a condition is allowed where the parameters have these types
abbrev pub is_condition : TaskParts → List ℕ → Cond → Bool
is_condition task parameters (cond.Atom positive predicate refs) = is_use task task.predicates parameters predicate refs
is_condition task parameters (cond.Same positive a b) =
    is_some (type_of_ref task parameters a) && is_some (type_of_ref task parameters b)
is_condition task parameters (cond.Compare op x y) = is_sum task parameters x && is_sum task parameters y

-- whether a function is static
abbrev pub is_fixed : List Signature → ℕ → Bool
is_fixed signatures symbol = option_map_or (λ s. s.fixed) (slice_get signatures symbol) false

-- whether an effect is allowed where the parameters have these types; its amount reads static functions alone
abbrev pub is_effect : TaskParts → List ℕ → Eff → Bool
is_effect task parameters (eff.Add predicate refs) = is_use task task.predicates parameters predicate refs
is_effect task parameters (eff.Delete predicate refs) = is_use task task.predicates parameters predicate refs
is_effect task parameters (eff.Change up function refs amount) =
    is_use task task.functions parameters function refs
    && (is_sum task parameters amount && every_read (λ f _. is_fixed task.functions f) amount)

-- whether an effect adds or deletes an atom of this predicate
abbrev pub names_predicate : ℕ → Eff → Bool
names_predicate n (eff.Add predicate refs) = predicate == n
names_predicate n (eff.Delete predicate refs) = predicate == n
names_predicate n (eff.Change up function refs amount) = false

-- whether an effect changes a value of this function
abbrev pub names_function : ℕ → Eff → Bool
names_function n (eff.Add predicate refs) = false
names_function n (eff.Delete predicate refs) = false
names_function n (eff.Change up function refs amount) = function == n

-- `fixed` is true exactly where no action has an effect that names the symbol
abbrev pub FixedIsStatic : TaskParts → (ℕ → Eff → Bool) → List Signature → Type 0
FixedIsStatic task names signatures =
    (n : ℕ) (s : Signature) → slice_get signatures n ≡ Some s
    → s.fixed ≡ not (list_any (λ action. list_any (names n) action.effects) task.actions)

-- the types of parameters are declared
abbrev pub AreTypes : TaskParts → List ℕ → Type 0
AreTypes task parameters = All (λ of. of < length task.types) parameters

-- the types: the first is `object`, under which all lie
pub record AreTypeNames (types : List TypeName) : Type 0 where
  pub first : slice_get types 0 ≡ Some (record { name = codes "object"; parent = 0 })
  pub parents : All (λ t. t.parent < length types) types
  pub rooted : (of : ℕ) → of < length types → IsTrue (is_under types of 0)

-- a declared predicate or function
pub record IsSignature (task : TaskParts) (s : Signature) : Type 0 where
  pub short : IsShort s.parameters
  pub typed : AreTypes task s.parameters

-- an action
pub record IsAction (task : TaskParts) (action : Action) : Type 0 where
  pub short_parameters : IsShort action.parameters
  pub short_needs : IsShort action.needs
  pub short_effects : IsShort action.effects
  pub typed : AreTypes task action.parameters
  pub needs : All (λ c. IsTrue (is_condition task action.parameters c)) action.needs
  pub effects : All (λ e. IsTrue (is_effect task action.parameters e)) action.effects

-- each list of a task has so few items that a u32 can count them
pub record AreShort (task : TaskParts) : Type 0 where
  pub types : IsShort task.types
  pub objects : IsShort task.objects
  pub predicates : IsShort task.predicates
  pub functions : IsShort task.functions
  pub actions : IsShort task.actions
  pub atoms : IsShort task.atoms
  pub values : IsShort task.values
  pub goal : IsShort task.goal

-- the names of each list are names, and distinct
pub record AreNamed (task : TaskParts) : Type 0 where
  pub types : AreNames (map (λ t. t.name) task.types)
  pub objects : AreNames (map (λ o. o.name) task.objects)
  pub predicates : AreNames (map (λ s. s.name) task.predicates)
  pub functions : AreNames (map (λ s. s.name) task.functions)
  pub actions : AreNames (map (λ a. a.name) task.actions)

-- whether a ground atom has a declared predicate and objects that fit it
abbrev pub is_ground_atom : TaskParts → Atom → Bool
is_ground_atom task a = is_call task task.predicates a.predicate (map (type_of task.objects) a.objects)

-- whether a ground term has a declared function and objects that fit it
abbrev pub is_ground_term : TaskParts → Term → Bool
is_ground_term task t = is_call task task.functions t.function (map (type_of task.objects) t.objects)

-- a well-formed task: each number names an item of its list, or a parameter of its action, and arguments fit
pub record IsTask (task : TaskParts) : Type 0 where
  pub short : AreShort task
  pub named : AreNamed task
  pub types : AreTypeNames task.types
  pub objects : All (λ o. o.of < length task.types) task.objects
  pub predicates : All (IsSignature task) task.predicates
  pub functions : All (IsSignature task) task.functions
  pub fixed_predicates : FixedIsStatic task names_predicate task.predicates
  pub fixed_functions : FixedIsStatic task names_function task.functions
  pub actions : All (IsAction task) task.actions
  pub atoms : All (λ a. IsTrue (is_ground_atom task a)) task.atoms
  pub distinct_atoms : AreDistinct task.atoms
  pub values : All (λ v. IsTrue (is_ground_term task v.0)) task.values
  pub distinct_terms : AreDistinct (map (λ v. v.0) task.values)
  pub goal : All (λ c. IsTrue (is_condition task [] c)) task.goal
  pub metric : IfSome task.metric (λ m. IsTrue (is_sum task [] m))
