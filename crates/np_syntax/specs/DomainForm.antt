-- How the parts of a domain are read.
use Rattle.std.specs.Prelude.{Bool, true, false, List, [], ◌∷◌, ◌++◌, map, Option, None, Some, is_some, codes}
use Rattle.np_lex.specs.Tokens.{Lexeme, left, named}
use Rattle.np_read.specs.ItemReaders.{Reader, expect, after, both, made}
use Rattle.np_syntax.specs.declared.domain.Declared.{Declared}
use Rattle.np_words.specs.declared.word.Word.{Word}
use Rattle.np_words.specs.declared.word.Group.{Group}
use Rattle.np_words.specs.declared.word.ListKind.{ListKind}
use Rattle.np_words.specs.declared.word.ListKind.TheVariants.{Names, Variables}
use Rattle.np_syntax.specs.declared.read.lists.Part.{Part}
use Rattle.np_words.specs.ReadingForm.{name, variable}
use Rattle.np_words.specs.TailedRows.{Tailed, tailed_row}
use Rattle.np_words.specs.Text.{minus}

-- ---- typed lists

-- a word of a typed list
abbrev pub list_word : ListKind → Reader Word
list_word Names = name
list_word Variables = variable

-- a word more, with its group's type where it ends one
abbrev pub with_word : Part → Word → Option Word → Part
with_word p w None = record { groups = p.groups; words = p.words ++ w ∷ [] }
with_word p w (Some of) = record { groups = p.groups ++ (record { words = p.words ++ w ∷ []; of = Some of }) ∷ []; words = [] }

-- the groups, where words are left one more without a type
abbrev pub all_groups : List Group → List Word → List Group
all_groups groups [] = groups
all_groups groups (w ∷ ws) = groups ++ (record { words = w ∷ ws; of = None }) ∷ []

-- the groups after more words, each with the type after it
abbrev pub groups_after : Part → Tailed Word Word → List Group
groups_after p [] = all_groups p.groups p.words
groups_after p (entry ∷ entries) = groups_after (with_word p entry.0 entry.1) entries

-- the groups of words, each with the type after it
abbrev pub grouped : Tailed Word Word → List Group
grouped entries = groups_after (record { groups = []; words = [] }) entries

-- a typed list, up to its closing bracket
unfoldable pub typed_list : ListKind → Reader (List Group)
typed_list list_kind = made grouped (tailed_row (list_word list_kind) minus name)

-- ---- declarations

-- a name and parameters, in brackets
unfoldable pub declared : Reader Declared
declared = after (expect left) (made (λ x. record { name = x.0; parameters = x.1 }) (both name (typed_list Variables)))

-- `number`
abbrev pub number_word : Lexeme
number_word = named (codes "number")

-- whether `- number` follows a function
abbrev pub numbered : Declared × Option (Unit {0}) → Declared × Bool
numbered entry = (entry.0, is_some entry.1)

-- the mark of a function
abbrev pub mark_of : Bool → Option (Unit {0})
mark_of true = Some tt
mark_of false = None

-- functions, up to a closing bracket
unfoldable pub functions : Reader (List (Declared × Bool))
functions = made (map numbered) (tailed_row declared minus (expect number_word))
