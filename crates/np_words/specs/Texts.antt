-- What a whole text spells, and what is answered of it.
use Rattle.std.specs.Prelude.{◌≡◌, ℕ, ◌<◌, ◌≤◌, ◌⊎◌, Bool, true, false, List, All, Some, Result, Ok, Err}
use Rattle.np_lex.specs.declared.token.Place.{Place}
use Rattle.np_lex.specs.Tokens.{Lexeme, Item, items_of}
use Rattle.np_read.specs.Lexemes.{lexemes}
use Rattle.np_read.specs.Marks.{Mark, Fits}
use Rattle.np_words.specs.declared.fault.ReadFault.{ReadFault}
use Rattle.np_words.specs.declared.fault.ReadFault.TheVariants as fault
use Rattle.np_words.specs.Wide.{IsShort, IsShortLexeme, IsFirstWide}

-- the bytes spell this value: their lexemes are its own, and no number has too many digits
pub record IsSpelled {A : Type 0} (IsValue : A → Type 0) (spelling : A → List Lexeme) (bytes : List ℕ) (a : A) : Type 0 where
  pub is_value : IsValue a
  pub lexemes_are : lexemes bytes ≡ Some (spelling a)
  pub short : All IsShortLexeme (spelling a)

-- each place that the value keeps is that of its token in the bytes
pub record KeepsPlaces {A : Type 0} (marks : A → List Mark) (bytes : List ℕ) (a : A) : Type 0 where
  pub rest : List Item
  pub fits : Fits (items_of bytes) (marks a) rest

-- whether memory ran out
abbrev pub is_memory : ReadFault → Bool
is_memory (fault.At place) = false
is_memory (fault.NumberWide place) = false
is_memory fault.Memory = true

-- ---- the last step of reading

-- no number of too many digits is before this place
abbrev pub NoneWideBefore : List Item → Place → Type 0
NoneWideBefore items stop = All IsShort items ⊎ ((wide : Place) × IsFirstWide items wide × (stop.offset ≤ wide.offset))

-- the fault of a text in which reading stops at this place: it is there, unless a number of too many digits is before it
abbrev pub IsFaultFrom : List Item → Place → ReadFault → Type 0
IsFaultFrom items stop (fault.At place) = (place ≡ stop) × NoneWideBefore items stop
IsFaultFrom items stop (fault.NumberWide place) = IsFirstWide items place × (place.offset < stop.offset)
IsFaultFrom items stop fault.Memory = ⊥

-- the value that the whole text was read as, unless a number has too many digits
abbrev pub IsSettled : {A : Type 0} → List Item → A → Result A ReadFault → Type 0
IsSettled items a (Ok b) = (b ≡ a) × All IsShort items
IsSettled items a (Err (fault.At place)) = ⊥
IsSettled items a (Err (fault.NumberWide place)) = IsFirstWide items place
IsSettled items a (Err fault.Memory) = ⊥
