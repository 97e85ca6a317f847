-- What the look-ups and tables of the code hold.
use Rattle.std.specs.Borrow.{Bor}
use Rattle.std.specs.Prelude.{◌≡◌, ℕ, List, fold, bytes_eq, Option}
use Rattle.std.specs.HashMap.{HashMap, get}
use Rattle.std.specs.Option.{option_map_or}
use Rattle.np_words.specs.declared.word.Word.{Word}
use Rattle.np_syntax.specs.declared.domain.Domain.{Domain}
use Rattle.np_problem.specs.declared.problem.Problem.{Problem}
use Rattle.np_declared.specs.declared.tables.Tables.{Tables}
use Rattle.np_names.specs.Names.{object}
use Rattle.np_declared.specs.Types.{supertype_with, types_of}
use Rattle.np_names.specs.Declarations.{all_types}
use Rattle.np_declared.specs.ScopeNames.{ScopeAgrees}
use Rattle.np_declared.specs.Symbols.{type_names_of, objects_of, predicates_of, functions_of}

-- ---- types

-- the map has the type that each name is listed under by these words, `object` where it is under none
abbrev pub HasSupertypes : {S : Type 0} → List (Word × Option Word) → HashMap (Bor (List ℕ)) (Bor (List ℕ)) S → Type 0
HasSupertypes before map =
    (q : Bor (List ℕ)) → option_map_or (λ (v : Bor (List ℕ)). v.now) (get (λ x y. bytes_eq x.now y.now) map q) object ≡ fold (supertype_with q.now) object before

-- ---- tables

-- the look-ups of tables have the names of their lists
pub record TablesAgree (tables : Tables) : Type 0 where
  pub types_are : tables.type_names ≡ type_names_of tables.types
  pub symbols_are : ScopeAgrees tables.object_names tables.objects tables.predicate_names tables.predicates tables.function_names tables.functions

-- the tables have what both declare
pub record HasTables (domain : Domain) (problem : Problem) (tables : Tables) : Type 0 where
  pub agree : TablesAgree tables
  pub types_are : tables.types ≡ types_of (all_types domain)
  pub objects_are : tables.objects ≡ objects_of domain problem
  pub predicates_are : tables.predicates ≡ predicates_of domain
  pub functions_are : tables.functions ≡ functions_of domain
