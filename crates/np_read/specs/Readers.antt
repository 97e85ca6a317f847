-- Readers of pieces, and how larger ones are made of smaller ones.
use Rattle.std.specs.Prelude.{ℕ, zero, suc, List, [], ◌∷◌, length, Option, None, Some, if◌then◌else◌}
use Rattle.np_lex.specs.Tokens.{Lexeme, left, right}
use Rattle.np_lex.specs.declared.token.Kind.TheVariants.{Number}
use Rattle.np_read.specs.Pieces.{Piece, word, bad}
use Rattle.np_read.specs.Same.{same_kind, same_lexeme}

-- a value and the pieces after it, or none
abbrev pub Outcome : Type 0 → Type 0
Outcome A = Option (A × List Piece)

abbrev pub Reader : Type 0 → Type 0
Reader A = List Piece → Outcome A

-- what is read after a value
abbrev pub and_then : {A B : Type 0} → Outcome A → (A → Reader B) → Outcome B
and_then None next = None
and_then (Some x) next = next x.0 x.1

-- the next lexeme
abbrev pub next : Reader Lexeme
next [] = None
next (bad ∷ pieces) = None
next (word lexeme ∷ pieces) = Some (lexeme, pieces)

-- nothing, where the lexeme is the wanted one
abbrev pub wanted : Lexeme → Lexeme → Reader (Unit {0})
wanted lexeme found pieces = if same_lexeme found lexeme then Some (tt, pieces) else None

-- the value and what follows it, where there is one
abbrev pub in_front : {A : Type 0} → Option A → List Piece → Outcome A
in_front None rest = None
in_front (Some a) rest = Some (a, rest)

-- the lexeme as what its text says, where it is a number
abbrev pub number_by : {A : Type 0} → (List ℕ → Option A) → Lexeme → Reader A
number_by value lexeme rest = if same_kind lexeme.kind Number then in_front (value lexeme.text) rest else None

-- this lexeme
unfoldable pub expect : Lexeme → Reader (Unit {0})
expect lexeme pieces = and_then (next pieces) (wanted lexeme)

-- an opening bracket, and then this lexeme
abbrev pub open_with : Lexeme → Reader (Unit {0})
open_with lexeme pieces = and_then (expect left pieces) (λ _. expect lexeme)

-- what follows something that is dropped
abbrev pub after : {A : Type 0} → Reader (Unit {0}) → Reader A → Reader A
after first reader pieces = and_then (first pieces) (λ _. reader)

-- what this lexeme follows
abbrev pub before : {A : Type 0} → Reader A → Lexeme → Reader A
before reader lexeme pieces = and_then (reader pieces) (λ a rest. and_then (expect lexeme rest) (λ _ more. Some (a, more)))

-- one and then the other
abbrev pub both : {A B : Type 0} → Reader A → Reader B → Reader (A × B)
both first second pieces = and_then (first pieces) (λ a rest. and_then (second rest) (λ b more. Some ((a, b), more)))

-- the value made of what is read
abbrev pub made : {A B : Type 0} → (A → B) → Reader A → Reader B
made make reader pieces = and_then (reader pieces) (λ a rest. Some (make a, rest))

-- an empty list after a closing bracket, or else the other
abbrev pub closed_or : {A : Type 0} → Outcome (Unit {0}) → Outcome (List A) → Outcome (List A)
closed_or None other = other
closed_or (Some x) other = Some ([], x.1)

-- values up to a closing bracket, at most so many
abbrev pub turns : {A : Type 0} → ℕ → Reader A → Reader (List A)
turns zero reader pieces = closed_or (expect right pieces) None
turns (suc most) reader pieces =
    closed_or (expect right pieces) (and_then (reader pieces) (λ a rest. and_then (turns most reader rest) (λ more others. Some (a ∷ more, others))))

-- values up to a closing bracket, with the bracket
unfoldable pub row : {A : Type 0} → Reader A → Reader (List A)
row reader pieces = turns (length pieces) reader pieces

-- the value, where nothing follows it
abbrev pub alone : {A : Type 0} → A → List Piece → Option A
alone a [] = Some a
alone a (piece ∷ pieces) = None

-- all of a text
abbrev pub whole_text : {A : Type 0} → Outcome A → Option A
whole_text None = None
whole_text (Some x) = alone x.0 x.1
