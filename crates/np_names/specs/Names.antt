-- Lists of names in the order of a text, and which of them come again.
use Rattle.std.specs.Prelude.{ℕ, suc, Bool, List, [], ◌∷◌, ◌++◌, map, fold, bytes_eq, if◌then◌else◌, codes, Option, None, Some}
use Rattle.std.specs.List.{list_any, flat_map}
use Rattle.np_words.specs.declared.word.Word.{Word}
use Rattle.np_words.specs.declared.word.Group.{Group}

-- what each item gives, where it also depends on those before it
abbrev pub each_after : {A B : Type 0} → (List A → A → List B) → List A → List A → List B
each_after f before [] = []
each_after f before (x ∷ xs) = f before x ++ each_after f (before ++ x ∷ []) xs

-- the texts of words
abbrev pub texts : List Word → List (List ℕ)
texts ws = map (λ w. w.text) ws

-- whether a name is among these
abbrev pub is_among : List ℕ → List (List ℕ) → Bool
is_among name names = list_any (bytes_eq name) names

-- the words whose name is among these or came before
abbrev pub repeats : List (List ℕ) → List Word → List Word
repeats names [] = []
repeats names (w ∷ ws) = (if is_among w.text names then w ∷ [] else []) ++ repeats (names ++ w.text ∷ []) ws

-- the names with one more, unless it is among them
abbrev pub with_name : List (List ℕ) → List ℕ → List (List ℕ)
with_name names name = if is_among name names then names else names ++ name ∷ []

-- each name once, in the order in which they first come
abbrev pub firsts : List (List ℕ) → List (List ℕ)
firsts names = fold with_name [] names

-- the number of a name: how many come before it. Where it isn't among them it is the number of them all, which numbers none
abbrev pub number_of : List (List ℕ) → List ℕ → ℕ
number_of [] name = 0
number_of (n ∷ ns) name = if bytes_eq name n then 0 else suc (number_of ns name)

-- the words of a typed list
abbrev pub words_of : List Group → List Word
words_of groups = flat_map (λ g. g.words) groups

-- a word of a typed list, with the type that is written after it
abbrev pub typed : Option Word → List Word → List (Word × Option Word)
typed of words = map (λ w. (w, of)) words

-- the words of a typed list, each with its type
abbrev pub typed_words : List Group → List (Word × Option Word)
typed_words groups = flat_map (λ g. typed g.of g.words) groups

-- a word that may be missing, as a list
abbrev pub given_word : Option Word → List Word
given_word None = []
given_word (Some w) = w ∷ []

-- a list that may be missing
abbrev pub given : {A : Type 0} → Option (List A) → List A
given None = []
given (Some xs) = xs

-- the type that all others are under
abbrev pub object : List ℕ
object = codes "object"

abbrev pub is_object : Word → Bool
is_object w = bytes_eq w.text object
