-- What a token of each kind is, and that of several that begin a text the longest is taken.
use Rattle.std.specs.Prelude.{◌≡◌, ℕ, ◌≤◌, ◌⊎◌, Bool, false, IsTrue, ◌==◌, ◌&&◌, ◌||◌, List, [], ◌∷◌, ◌++◌, length, take, Option, None, Some, codes}
use Rattle.std.specs.List.{list_all}
use Rattle.np_lex.specs.declared.token.Kind.{Kind}
use Rattle.np_lex.specs.declared.token.Kind.TheVariants.{Left, Right, Name, Variable, Keyword, Colon, Number, Op}
use Rattle.np_lex.specs.FirstToken.{is_letter, is_digit, is_name_byte}

-- a letter, then letters, digits, '-' and '_'
abbrev pub is_name : List ℕ → Bool
is_name [] = false
is_name (b ∷ bs) = is_letter b && list_all is_name_byte bs

-- at least one digit, and nothing else
abbrev pub is_digits : List ℕ → Bool
is_digits [] = false
is_digits (b ∷ bs) = is_digit b && list_all is_digit bs

-- the operators, of one byte or of two
abbrev pub is_operator : List ℕ → Bool
is_operator [] = false
is_operator (b ∷ []) = b == 60 || b == 62 || b == 61 || b == 43 || b == 42 || b == 47 || b == 45
is_operator (b ∷ c ∷ []) = (b == 60 || b == 62) && c == 61
is_operator (b ∷ c ∷ d ∷ bs) = false

-- digits with a point and digits after them
pub record IsDecimal (text : List ℕ) : Type 0 where
  pub whole : List ℕ
  pub fraction : List ℕ
  pub whole_digits : IsTrue (is_digits whole)
  pub fraction_digits : IsTrue (is_digits fraction)
  pub text_is : text ≡ whole ++ 46 ∷ fraction

-- digits, with or without a point and digits after them
abbrev pub IsUnsigned : List ℕ → Type 0
IsUnsigned text = IsTrue (is_digits text) ⊎ IsDecimal text

-- the byte and then a text of which the fact holds
pub record Follows (byte : ℕ) (P : List ℕ → Type 0) (text : List ℕ) : Type 0 where
  pub rest : List ℕ
  pub text_is : text ≡ byte ∷ rest
  pub holds : P rest

-- the whole text is one token of the kind
abbrev pub IsToken : Kind → List ℕ → Type 0
IsToken Left text = text ≡ codes "("
IsToken Right text = text ≡ codes ")"
IsToken Name text = IsTrue (is_name text)
IsToken Variable text = Follows 63 (λ name. IsTrue (is_name name)) text
IsToken Keyword text = Follows 58 (λ name. IsTrue (is_name name)) text
IsToken Colon text = text ≡ codes ":"
IsToken Number text = IsUnsigned text ⊎ Follows 45 IsUnsigned text
IsToken Op text = IsTrue (is_operator text)

-- the first n bytes are a token of the kind, and no token of any kind that begins the bytes is longer
pub record IsLongestToken (kind : Kind) (n : ℕ) (bytes : List ℕ) : Type 0 where
  pub in_range : n ≤ length bytes
  pub is_token : IsToken kind (take n bytes)
  pub longest : (other : Kind) (text rest : List ℕ) → bytes ≡ text ++ rest → IsToken other text → length text ≤ n

-- no token begins the bytes
pub record BeginsWithNoToken (bytes : List ℕ) : Type 0 where
  pub no_token : (kind : Kind) (text rest : List ℕ) → bytes ≡ text ++ rest → IsToken kind text → ⊥

-- what is taken of the bytes is the longest token, or no token begins them
abbrev pub TakesLongest : List ℕ → Option (Kind × ℕ) → Type 0
TakesLongest bytes None = BeginsWithNoToken bytes
TakesLongest bytes (Some taken) = IsLongestToken taken.0 taken.1 bytes
