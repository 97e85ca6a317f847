-- Printers: the lexemes of something, with those of what follows.
use Rattle.std.specs.Prelude.{ℕ, List, [], ◌∷◌}
use Rattle.np_lex.specs.Tokens.{Lexeme}
use Rattle.np_lex.specs.Tokens as lexeme
use Rattle.np_lex.specs.declared.token.Kind.TheVariants as kind

-- the lexemes of something before others
abbrev pub Printed : Type 0
Printed = List Lexeme → List Lexeme

abbrev pub left : Printed
left rest = lexeme.left ∷ rest

abbrev pub right : Printed
right rest = lexeme.right ∷ rest

abbrev pub name : List ℕ → Printed
name text rest = lexeme.named text ∷ rest

abbrev pub keyword : List ℕ → Printed
keyword text rest = (record { kind = kind.Keyword; text = text }) ∷ rest

abbrev pub operator : List ℕ → Printed
operator text rest = (record { kind = kind.Op; text = text }) ∷ rest

abbrev pub number : List ℕ → Printed
number text rest = lexeme.numeral text ∷ rest

-- one after the other
abbrev pub all : {A : Type 0} → (A → Printed) → List A → Printed
all print [] rest = rest
all print (x ∷ xs) rest = print x (all print xs rest)
