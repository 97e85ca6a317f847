-- The longest token that begins a text. `LongestToken` says what tokens are, and that this is the longest.
use Rattle.std.specs.Prelude.{ℕ, suc, ◌+◌, Bool, false, ◌==◌, ◌&&◌, ◌||◌, List, [], ◌∷◌, drop, Option, None, Some, if◌then◌else◌}
use Rattle.std.specs.Char.{is_ascii_alphabetic, is_ascii_alphanumeric, is_ascii_digit}
use Rattle.std.specs.List.{prefix_len}
use Rattle.np_lex.specs.declared.token.Kind.{Kind}
use Rattle.np_lex.specs.declared.token.Kind.TheVariants.{Left, Right, Name, Variable, Keyword, Colon, Number, Op}

-- a letter, of either case
abbrev pub is_letter : ℕ → Bool
is_letter b = is_ascii_alphabetic b

-- a decimal digit
abbrev pub is_digit : ℕ → Bool
is_digit b = is_ascii_digit b

-- a letter, a digit, '-' or '_'
abbrev pub is_name_byte : ℕ → Bool
is_name_byte b = is_ascii_alphanumeric b || b == 45 || b == 95

-- whether the first byte is one of a name
abbrev pub begins_with_name_byte : List ℕ → Bool
begins_with_name_byte [] = false
begins_with_name_byte (b ∷ bs) = is_name_byte b

-- whether the first byte is a letter
abbrev pub begins_with_letter : List ℕ → Bool
begins_with_letter [] = false
begins_with_letter (b ∷ bs) = is_letter b

-- whether the first byte is a digit
abbrev pub begins_with_digit : List ℕ → Bool
begins_with_digit [] = false
begins_with_digit (b ∷ bs) = is_digit b

-- whether the first byte is '='
abbrev pub begins_with_equals : List ℕ → Bool
begins_with_equals [] = false
begins_with_equals (b ∷ bs) = b == 61

-- the length of a point with digits after it, or 0
abbrev pub point_length : List ℕ → ℕ
point_length [] = 0
point_length (b ∷ bs) = if b == 46 && begins_with_digit bs then suc (prefix_len is_digit bs) else 0

-- the length of the leading digits, and of a point with digits after them
abbrev pub number_length : List ℕ → ℕ
number_length bytes = prefix_len is_digit bytes + point_length (drop (prefix_len is_digit bytes) bytes)

-- the token that begins with a byte that is neither a letter nor a digit: '(' ')' '?' ':' '-' '<' '>' '=' '+' '*' '/'
abbrev pub mark_token : ℕ → List ℕ → Option (Kind × ℕ)
mark_token b bs =
    if b == 40 then Some (Left, 1)
    else (if b == 41 then Some (Right, 1)
    else (if b == 63 then (if begins_with_letter bs then Some (Variable, suc (prefix_len is_name_byte bs)) else None)
    else (if b == 58 then (if begins_with_letter bs then Some (Keyword, suc (prefix_len is_name_byte bs)) else Some (Colon, 1))
    else (if b == 45 then (if begins_with_digit bs then Some (Number, suc (number_length bs)) else Some (Op, 1))
    else (if b == 60 || b == 62 then (if begins_with_equals bs then Some (Op, 2) else Some (Op, 1))
    else (if b == 61 || b == 43 || b == 42 || b == 47 then Some (Op, 1)
    else None))))))

-- the kind and the length of the longest token that begins the bytes, if one does
abbrev pub first_token : List ℕ → Option (Kind × ℕ)
first_token [] = None
first_token (b ∷ bs) =
    if is_letter b then Some (Name, suc (prefix_len is_name_byte bs))
    else (if is_digit b then Some (Number, number_length (b ∷ bs))
    else mark_token b bs)

-- the length of the number that is the first token, if it is one
abbrev pub first_number : List ℕ → Option ℕ
first_number [] = None
first_number (b ∷ bs) =
    if is_digit b then Some (number_length (b ∷ bs))
    else (if b == 45 && begins_with_digit bs then Some (suc (number_length bs)) else None)
