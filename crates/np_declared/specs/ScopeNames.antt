-- The look-ups of a scope.
use Rattle.std.specs.Prelude.{◌≡◌, ℕ, List}
use Rattle.np_model.specs.declared.task.Object.{Object}
use Rattle.np_model.specs.declared.task.Signature.{Signature}
use Rattle.np_declared.specs.Symbols.{object_names, symbol_names}

-- the look-ups of a scope have the names of its lists
pub record ScopeAgrees (objects : List (List ℕ)) (declared_objects : List Object) (predicates : List (List ℕ)) (declared_predicates : List Signature) (functions : List (List ℕ)) (declared_functions : List Signature) : Type 0 where
  pub objects_are : objects ≡ object_names declared_objects
  pub predicates_are : predicates ≡ symbol_names declared_predicates
  pub functions_are : functions ≡ symbol_names declared_functions
