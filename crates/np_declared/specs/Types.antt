-- The types of a domain, by number, and the types of what is declared.
use Rattle.std.specs.Prelude.{ℕ, List, ◌∷◌, ◌++◌, map, fold, bytes_eq, if◌then◌else◌, Option, None, Some}
use Rattle.std.specs.List.{flat_map}
use Rattle.np_model.specs.declared.task.TypeName.{TypeName}
use Rattle.np_model.specs.declared.task.Object.{Object}
use Rattle.np_words.specs.declared.word.Word.{Word}
use Rattle.np_words.specs.declared.word.Group.{Group}
use Rattle.np_names.specs.Names.{texts, firsts, number_of, given_word, typed_words, object}

-- the words of a group of `:types`, its supertype included
abbrev pub type_words : Group → List Word
type_words g = g.words ++ given_word g.of

-- the types: `object`, and then the others in the order in which `:types` first has them
abbrev pub type_names : List Group → List (List ℕ)
type_names groups = firsts (object ∷ texts (flat_map type_words groups))

-- the type that a name is under, where it is this one unless the word in hand is that name and is listed under a type
abbrev pub supertype_with : List ℕ → List ℕ → Word × Option Word → List ℕ
supertype_with name over (w, None) = over
supertype_with name over (w, Some t) = if bytes_eq name w.text then t.text else over

-- the type that a name is listed under: `object` where it is listed under none
abbrev pub supertype : List Group → List ℕ → List ℕ
supertype groups name = fold (supertype_with name) object (typed_words groups)

abbrev pub type_named : List Group → List ℕ → TypeName
type_named groups name = record { name = name; parent = number_of (type_names groups) (supertype groups name) }

abbrev pub types_of : List Group → List TypeName
types_of groups = map (type_named groups) (type_names groups)

-- the number of the type that is written after a word: without one it is `object`, which is 0
abbrev pub type_number : List (List ℕ) → Option Word → ℕ
type_number types None = 0
type_number types (Some t) = number_of types t.text

-- the types of the words of a typed list
abbrev pub numbers_in : List (List ℕ) → List Group → List ℕ
numbers_in types groups = map (λ x. type_number types x.1) (typed_words groups)

-- the objects that a typed list declares
abbrev pub object_in : List (List ℕ) → Word × Option Word → Object
object_in types x = record { name = x.0.text; of = type_number types x.1 }

abbrev pub objects_in : List (List ℕ) → List Group → List Object
objects_in types groups = map (object_in types) (typed_words groups)
