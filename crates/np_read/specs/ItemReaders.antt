-- Readers of the items of a text, and how larger ones are made of smaller ones. Each goes by the next item alone.
use Rattle.std.specs.Prelude.{ℕ, zero, suc, List, [], ◌∷◌, length, Option, None, Some, Result, Ok, Err, if◌then◌else◌}
use Rattle.np_lex.specs.Tokens.{Lexeme, Piece, word, bad, end, Item, left, right}
use Rattle.np_lex.specs.declared.token.Kind.TheVariants.{Number}
use Rattle.np_read.specs.Same.{same_kind, same_lexeme}

-- a value and the items after it, or the items from the fault on
abbrev pub Outcome : Type 0 → Type 0
Outcome A = Result (A × List Item) (List Item)

abbrev pub Reader : Type 0 → Type 0
Reader A = List Item → Outcome A

-- what is read after a value
abbrev pub and_then : {A B : Type 0} → Outcome A → (A → Reader B) → Outcome B
and_then (Ok x) next = next x.0 x.1
and_then (Err rest) next = Err rest

-- a value for which nothing is read
abbrev pub pure : {A : Type 0} → A → Reader A
pure a items = Ok (a, items)

-- the next item is the fault
abbrev pub refuse : {A : Type 0} → Reader A
refuse items = Err items

-- what follows an item that says something, or else the other outcome
abbrev pub chosen : {A B : Type 0} → Option B → (B → Reader A) → Outcome A → Reader A
chosen None follow other items = other
chosen (Some b) follow other items = follow b items

-- where the next item says something, what follows it; else the other reader, from that item on
abbrev pub by_next : {A B : Type 0} → (Item → Option B) → (B → Reader A) → Reader A → Reader A
by_next value follow other [] = Err []
by_next value follow other (item ∷ items) = chosen (value item) follow (other (item ∷ items)) items

-- what the next item says
abbrev pub take : {A : Type 0} → (Item → Option A) → Reader A
take value = by_next value pure refuse

-- what a piece says where it is a lexeme
abbrev pub says : {A : Type 0} → (Lexeme → Option A) → Piece → Option A
says value (word lexeme) = value lexeme
says value bad = None
says value end = None

-- whether the lexeme is the wanted one
abbrev pub wanted : Lexeme → Lexeme → Option (Unit {0})
wanted lexeme found = if same_lexeme found lexeme then Some tt else None

-- what the text of a number says
abbrev pub of_number : {A : Type 0} → (List ℕ → Option A) → Lexeme → Option A
of_number value found = if same_kind found.kind Number then value found.text else None

-- whether the piece is the end of the text
abbrev pub ended : Piece → Option (Unit {0})
ended (word lexeme) = None
ended bad = None
ended end = Some tt

-- this lexeme
unfoldable pub expect : Lexeme → Reader (Unit {0})
expect lexeme = take (λ item. says (wanted lexeme) item.piece)

-- a number, as what its text says
unfoldable pub number_by : {A : Type 0} → (List ℕ → Option A) → Reader A
number_by value = take (λ item. says (of_number value) item.piece)

-- the end of the text
unfoldable pub at_end : Reader (Unit {0})
at_end = take (λ item. ended item.piece)

-- where this lexeme is next, the first reader after it; else the second
unfoldable pub either : {A : Type 0} → Lexeme → Reader A → Reader A → Reader A
either lexeme first second = by_next (λ item. says (wanted lexeme) item.piece) (λ _. first) second

-- what follows something that is dropped
abbrev pub after : {A : Type 0} → Reader (Unit {0}) → Reader A → Reader A
after first reader items = and_then (first items) (λ _. reader)

-- an opening bracket, and then this lexeme
abbrev pub open_with : Lexeme → Reader (Unit {0})
open_with lexeme = after (expect left) (expect lexeme)

-- what something that is dropped follows
abbrev pub before : {A : Type 0} → Reader A → Reader (Unit {0}) → Reader A
before reader last items = and_then (reader items) (λ a rest. and_then (last rest) (λ _ more. Ok (a, more)))

-- one and then the other
abbrev pub both : {A B : Type 0} → Reader A → Reader B → Reader (A × B)
both first second items = and_then (first items) (λ a rest. and_then (second rest) (λ b more. Ok ((a, b), more)))

-- the value made of what is read
abbrev pub made : {A B : Type 0} → (A → B) → Reader A → Reader B
made make reader items = and_then (reader items) (λ a rest. Ok (make a, rest))

-- a value, and then the others of its list
abbrev pub further : {A : Type 0} → Reader A → Reader (List A) → Reader (List A)
further reader others items = and_then (reader items) (λ a rest. and_then (others rest) (λ more last. Ok (a ∷ more, last)))

-- values up to a closing bracket, at most so many
abbrev pub turns : {A : Type 0} → ℕ → Reader A → Reader (List A)
turns zero reader = either right (pure []) refuse
turns (suc most) reader = either right (pure []) (further reader (turns most reader))

-- values up to a closing bracket, with the bracket
unfoldable pub row : {A : Type 0} → Reader A → Reader (List A)
row reader items = turns (length items) reader items

-- all of a text
abbrev pub whole : {A : Type 0} → Reader A → Reader A
whole reader = before reader at_end
