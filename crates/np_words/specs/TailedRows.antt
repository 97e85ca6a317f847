-- Rows of values, each with or without a tail.
use Rattle.std.specs.Prelude.{ℕ, zero, suc, List, [], ◌∷◌, length, Option, None, Some}
use Rattle.np_lex.specs.Tokens.{Lexeme, right}
use Rattle.np_read.specs.ItemReaders.{Reader, and_then, pure, refuse, either, made}

-- the values of a row, each with its tail where it has one
abbrev pub Tailed : Type 0 → Type 0 → Type 0
Tailed A B = List (A × Option B)

-- a tail, or none where this lexeme doesn't come next
abbrev pub tail_or_none : {B : Type 0} → Lexeme → Reader B → Reader (Option B)
tail_or_none lexeme tail = either lexeme (made (λ b. Some b) tail) (pure None)

-- values up to a closing bracket, with the bracket: this lexeme begins the tail of the value before it
module _ {A B : Type 0} (reader : Reader A) (lexeme : Lexeme) (tail : Reader B) where
  -- one more value, which waits for its tail
  abbrev pub next_value : (Option A → Reader (Tailed A B)) → Reader (Tailed A B)
  next_value others items = and_then (reader items) (λ a. others (Some a))

  -- the tail of a value, and the values after it
  abbrev pub tail_of : A → (Option A → Reader (Tailed A B)) → Reader (Tailed A B)
  tail_of a others items = and_then (tail items) (λ b. made (λ more. (a, Some b) ∷ more) (others None))

  -- the rest of a row, where a value waits for its tail or none does
  abbrev pub step : (Option A → Reader (Tailed A B)) → Option A → Reader (Tailed A B)
  step others None = either right (pure []) (next_value others)
  step others (Some a) = either right (pure ((a, None) ∷ [])) (either lexeme (tail_of a others) (made (λ more. (a, None) ∷ more) (next_value others)))

  -- of so many steps at most
  abbrev pub steps_within : ℕ → Option A → Reader (Tailed A B)
  steps_within zero = step (λ waiting. refuse)
  steps_within (suc most) = step (steps_within most)

  unfoldable pub rest_of : Option A → Reader (Tailed A B)
  rest_of waiting items = steps_within (length items) waiting items

  -- the whole row
  abbrev pub tailed_row : Reader (Tailed A B)
  tailed_row = rest_of None
