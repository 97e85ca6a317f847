-- Symbols, objects and types that are declared, by number, and which symbols are static.
use Rattle.std.specs.Prelude.{ℕ, not, List, [], ◌∷◌, ◌++◌, map, Option, None, Some}
use Rattle.std.specs.List.{flat_map}
use Rattle.np_model.specs.declared.task.TypeName.{TypeName}
use Rattle.np_model.specs.declared.task.Object.{Object}
use Rattle.np_model.specs.declared.task.Signature.{Signature}
use Rattle.np_words.specs.declared.word.Word.{Word}
use Rattle.np_conditions.specs.declared.effect.Effect.{Effect}
use Rattle.np_conditions.specs.declared.effect.Effect.TheFolds.{fold-Effect}
use Rattle.np_conditions.specs.declared.effect.Effect.TheOpen.{Effect-F}
use Rattle.np_syntax.specs.declared.domain.Declared.{Declared}
use Rattle.np_syntax.specs.declared.domain.Domain.{Domain}
use Rattle.np_syntax.specs.declared.domain.DomainSection.{DomainSection}
use Rattle.np_syntax.specs.declared.domain.DomainSection.TheVariants as d
use Rattle.np_problem.specs.declared.problem.Problem.{Problem}
use Rattle.np_names.specs.Names.{texts, is_among}
use Rattle.np_declared.specs.Types.{type_names, numbers_in, objects_in}
use Rattle.np_names.specs.Declarations.{all_types, all_constants, all_predicates, all_functions, all_objects}

-- ---- names of what is declared

abbrev pub type_names_of : List TypeName → List (List ℕ)
type_names_of types = map (λ t. t.name) types

abbrev pub object_names : List Object → List (List ℕ)
object_names objects = map (λ o. o.name) objects

abbrev pub symbol_names : List Signature → List (List ℕ)
symbol_names signatures = map (λ s. s.name) signatures

-- ---- symbols that an effect names as what it adds, deletes or changes; to be read in an amount doesn't count

-- what an effect adds or deletes
abbrev pub touched_from : Effect-F (List Word) → List Word
touched_from Effect-F.Nothing = []
touched_from (Effect-F.And parts) = flat_map (λ part. part) parts
touched_from (Effect-F.Add w idents) = w ∷ []
touched_from (Effect-F.Delete w idents) = w ∷ []
touched_from (Effect-F.Increase w idents alone amount) = []
touched_from (Effect-F.Decrease w idents alone amount) = []

abbrev pub touched : Effect → List Word
touched = fold-Effect (List Word) touched_from

-- what it changes
abbrev pub changed_from : Effect-F (List Word) → List Word
changed_from Effect-F.Nothing = []
changed_from (Effect-F.And parts) = flat_map (λ part. part) parts
changed_from (Effect-F.Add w idents) = []
changed_from (Effect-F.Delete w idents) = []
changed_from (Effect-F.Increase w idents alone amount) = w ∷ []
changed_from (Effect-F.Decrease w idents alone amount) = w ∷ []

abbrev pub changed : Effect → List Word
changed = fold-Effect (List Word) changed_from

-- what may be missing gives nothing
abbrev pub if_given : {A B : Type 0} → (A → List B) → Option A → List B
if_given f None = []
if_given f (Some a) = f a

abbrev pub section_touched : DomainSection → List Word
section_touched (d.Action place w groups c e) = if_given touched e
section_touched _ = []

abbrev pub section_changed : DomainSection → List Word
section_changed (d.Action place w groups c e) = if_given changed e
section_changed _ = []

abbrev pub all_touched : Domain → List Word
all_touched domain = flat_map section_touched domain.sections

abbrev pub all_changed : Domain → List Word
all_changed domain = flat_map section_changed domain.sections

-- ---- what is declared

-- a predicate or function; it is static where it isn't among the symbols that effects name. Predicates and functions that share a name are
-- judged apart
abbrev pub signature : List (List ℕ) → List (List ℕ) → Declared → Signature
signature types named x =
    record { name = x.name.text; parameters = numbers_in types x.parameters; fixed = not (is_among x.name.text named) }

-- the constants of the domain, and then the objects of the problem
abbrev pub objects_of : Domain → Problem → List Object
objects_of domain problem = objects_in (type_names (all_types domain)) (all_constants domain ++ all_objects problem)

abbrev pub predicates_of : Domain → List Signature
predicates_of domain = map (signature (type_names (all_types domain)) (texts (all_touched domain))) (all_predicates domain)

abbrev pub functions_of : Domain → List Signature
functions_of domain = map (signature (type_names (all_types domain)) (texts (all_changed domain))) (all_functions domain)
