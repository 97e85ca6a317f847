-- Which words are names.
use Rattle.std.specs.Prelude.{ℕ, Bool, false, not, ◌&&◌, ◌||◌, ◌==◌, nat_le, List, [], ◌∷◌, bytes_eq, codes}
use Rattle.std.specs.List.{list_any, list_all}

-- the words that aren't names
abbrev pub reserved : List (List ℕ)
reserved =
    codes "and" ∷ codes "or" ∷ codes "not" ∷ codes "imply" ∷ codes "exists" ∷ codes "forall" ∷ codes "when"
    ∷ codes "either" ∷ codes "increase" ∷ codes "decrease" ∷ codes "assign" ∷ codes "scale-up" ∷ codes "scale-down"
    ∷ codes "total-time" ∷ []

-- whether a word, in lower case, is one of them
abbrev pub is_reserved : List ℕ → Bool
is_reserved word = list_any (bytes_eq word) reserved

-- a letter, in lower case
abbrev pub is_letter : ℕ → Bool
is_letter c = nat_le 97 c && nat_le c 122

abbrev pub is_digit : ℕ → Bool
is_digit c = nat_le 48 c && nat_le c 57

-- a letter, a digit, `-` or `_`
abbrev pub is_name_byte : ℕ → Bool
is_name_byte c = is_letter c || is_digit c || c == 45 || c == 95

-- a letter and then letters, digits, `-` and `_`, all in lower case, and not a reserved word
abbrev pub is_name : List ℕ → Bool
is_name [] = false
is_name (c ∷ cs) = is_letter c && list_all is_name_byte cs && not (is_reserved (c ∷ cs))
