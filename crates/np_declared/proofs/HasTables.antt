-- Tables that have what both texts declare.
use Rattle.std.proofs.Common.{◌≡◌, ℕ, List, [], ◌∷◌, ◌++◌, map, Option, refl, sym, ap, ◌∙◌}
use Rattle.std.proofs.lemmas.List.{map-append}
use Rattle.np_model.specs.declared.task.Object.{Object}
use Rattle.np_model.specs.declared.task.Signature.{Signature}
use Rattle.np_model.specs.declared.task.TypeName.{TypeName}
use Rattle.np_words.specs.declared.word.Word.{Word}
use Rattle.np_words.specs.declared.word.Group.{Group}
use Rattle.np_syntax.specs.declared.domain.Declared.{Declared}
use Rattle.np_syntax.specs.declared.domain.Domain.{Domain}
use Rattle.np_problem.specs.declared.problem.Problem.{Problem}
use Rattle.np_names.specs.declared.declarations.Declarations.{Declarations}
use Rattle.np_names.specs.Declarations.{all_types, all_constants, all_predicates, all_functions, all_objects, names_of}
use Rattle.np_names.specs.DeclaredNames.{HasDeclared}
use Rattle.np_declared.specs.LookUps.{HasTables}
use Rattle.np_names.specs.Names.{texts, firsts, words_of, typed, typed_words}
use Rattle.np_declared.specs.Symbols.{type_names_of, object_names, symbol_names}
use Rattle.np_declared.specs.Symbols.{signature, objects_of, all_touched, all_changed}
use Rattle.np_declared.specs.Types.{type_names, type_named, types_of, object_in, objects_in}
use Rattle.np_declared.proofs.TableLaws.{objects_more, signatures_like}

-- the names of what is made of names
names_back : (groups : List Group) (names : List (List ℕ)) → type_names_of (map (type_named groups) names) ≡ names
names_back groups [] = refl
names_back groups (n ∷ names) = ap (λ ns. n ∷ ns) (names_back groups names)

pub type_names_back : (groups : List Group) → type_names_of (types_of groups) ≡ type_names groups
type_names_back groups = names_back groups (type_names groups)

objects_back : (types : List (List ℕ)) (xs : List (Word × Option Word)) → object_names (map (object_in types) xs) ≡ map (λ x. x.0.text) xs
objects_back types [] = refl
objects_back types (x ∷ xs) = ap (λ ns. x.0.text ∷ ns) (objects_back types xs)

typed_back : (of : Option Word) (ws : List Word) → map (λ x. x.0.text) (typed of ws) ≡ texts ws
typed_back of [] = refl
typed_back of (w ∷ ws) = ap (λ ns. w.text ∷ ns) (typed_back of ws)

typed_words_back : (groups : List Group) → map (λ x. x.0.text) (typed_words groups) ≡ texts (words_of groups)
typed_words_back [] = refl
typed_words_back (g ∷ groups) =
    map-append (λ x. x.0.text) (typed g.of g.words) (typed_words groups)
    ∙ (ap (λ ns. ns ++ map (λ x. x.0.text) (typed_words groups)) (typed_back g.of g.words)
    ∙ (ap (λ ns. texts g.words ++ ns) (typed_words_back groups) ∙ sym (map-append (λ w. w.text) g.words (words_of groups))))

pub object_names_back : (types : List (List ℕ)) (groups : List Group) → object_names (objects_in types groups) ≡ texts (words_of groups)
object_names_back types groups = objects_back types (typed_words groups) ∙ typed_words_back groups

symbols_back : (types named : List (List ℕ)) (xs : List Declared) → symbol_names (map (signature types named) xs) ≡ texts (names_of xs)
symbols_back types named [] = refl
symbols_back types named (x ∷ xs) = ap (λ ns. x.name.text ∷ ns) (symbols_back types named xs)

module _ (domain : Domain) (problem : Problem) (types : List TypeName) (names_of_types : List (List ℕ)) (names : Declarations) (objects : List Object) (predicates functions : List Signature) where
  pub has_tables : types ≡ types_of (all_types domain) → names_of_types ≡ type_names (all_types domain) → HasDeclared domain problem names
      → objects ≡ objects_in names_of_types (all_constants domain) ++ objects_in names_of_types (all_objects problem)
      → predicates ≡ map (signature names_of_types (firsts (texts (all_touched domain)))) (all_predicates domain)
      → functions ≡ map (signature names_of_types (firsts (texts (all_changed domain)))) (all_functions domain)
      → HasTables domain problem (record {
        types = types;
        type_names = names_of_types;
        objects = objects;
        object_names = names.objects;
        predicates = predicates;
        predicate_names = names.predicates;
        functions = functions;
        function_names = names.functions;
      })
  has_tables t n h o p f =
      let all_objects_are : objects ≡ objects_of domain problem =
      o ∙ (sym (objects_more names_of_types (all_constants domain) (all_objects problem)) ∙ ap (λ ns. objects_in ns (all_constants domain ++ all_objects problem)) n) in
      let all_predicates_are : predicates ≡ map (signature (type_names (all_types domain)) (texts (all_touched domain))) (all_predicates domain) =
      p ∙ (signatures_like names_of_types (texts (all_touched domain)) (all_predicates domain) ∙ ap (λ ns. map (signature ns (texts (all_touched domain))) (all_predicates domain)) n) in
      let all_functions_are : functions ≡ map (signature (type_names (all_types domain)) (texts (all_changed domain))) (all_functions domain) =
      f ∙ (signatures_like names_of_types (texts (all_changed domain)) (all_functions domain) ∙ ap (λ ns. map (signature ns (texts (all_changed domain))) (all_functions domain)) n) in
      record {
        agree = record {
          types_are = n ∙ (sym (type_names_back (all_types domain)) ∙ ap type_names_of (sym t));
          symbols_are = record {
            objects_are = h.objects ∙ (sym (object_names_back (type_names (all_types domain)) (all_constants domain ++ all_objects problem)) ∙ ap object_names (sym all_objects_are));
            predicates_are = h.predicates ∙ (sym (symbols_back (type_names (all_types domain)) (texts (all_touched domain)) (all_predicates domain)) ∙ ap symbol_names (sym all_predicates_are));
            functions_are = h.functions ∙ (sym (symbols_back (type_names (all_types domain)) (texts (all_changed domain)) (all_functions domain)) ∙ ap symbol_names (sym all_functions_are));
          };
        };
        types_are = t;
        objects_are = all_objects_are;
        predicates_are = all_predicates_are;
        functions_are = all_functions_are;
      }
