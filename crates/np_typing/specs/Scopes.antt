-- What names stand for at a place of a text.
use Rattle.std.specs.Prelude.{ℕ, Bool, List, slice_get, Option}
use Rattle.np_model.specs.declared.task.TypeName.{TypeName}
use Rattle.np_model.specs.declared.task.Object.{Object}
use Rattle.np_model.specs.declared.task.Signature.{Signature}
use Rattle.np_model.specs.declared.task.Ref.{Ref}
use Rattle.np_model.specs.declared.task.Ref.TheVariants as ref
use Rattle.np_model.specs.Types.{type_of}
use Rattle.np_words.specs.declared.word.Group.{Group}
use Rattle.np_words.specs.declared.word.Ident.{Ident}
use Rattle.np_words.specs.declared.word.Ident.TheVariants as ident
use Rattle.np_names.specs.declared.fault.Source.{Source}
use Rattle.np_names.specs.Names.{texts, firsts, is_among, number_of, words_of}
use Rattle.np_declared.specs.Symbols.{type_names_of, object_names}
use Rattle.np_declared.specs.Types.{numbers_in}

-- which text it is, what is declared, and the parameters that variables name there, with their types
pub record Scope : Type 0 where
  pub source : Source
  pub types : List TypeName
  pub objects : List Object
  pub predicates : List Signature
  pub functions : List Signature
  pub variables : List (List ℕ)
  pub variable_types : List ℕ

-- the scope of an action with these parameters
abbrev pub with_parameters : Scope → List Group → Scope
with_parameters scope groups = record scope { variables = firsts (texts (words_of groups)); variable_types = numbers_in (type_names_of scope.types) groups }

-- whether an object or a variable is declared
abbrev pub is_known : Scope → Ident → Bool
is_known scope (ident.Name w) = is_among w.text (object_names scope.objects)
is_known scope (ident.Variable w) = is_among w.text scope.variables

-- what it stands for
abbrev pub ref_of : Scope → Ident → Ref
ref_of scope (ident.Name w) = ref.Object (number_of (object_names scope.objects) w.text)
ref_of scope (ident.Variable w) = ref.Parameter (number_of scope.variables w.text)

-- the type of what a reference stands for
abbrev pub type_of_ref : Scope → Ref → Option ℕ
type_of_ref scope (ref.Object n) = type_of scope.objects n
type_of_ref scope (ref.Parameter i) = slice_get scope.variable_types i
