-- A leading name is the longest token where no byte of a name follows it.
use Rattle.std.proofs.Common.{◌≡◌, ℕ, suc, ◌+◌, ◌≤◌, Bool, true, false, not, List, [], ◌∷◌, ◌++◌, length, take, drop, Option, None, Some, refl, sym, ◌∙◌, ap, subst, arith, length-take}
use Rattle.std.specs.Prelude.{◌&&◌}
use Rattle.std.specs.Char.{to_ascii_lowercase}
use Rattle.std.specs.List.{prefix_len, list_all}
use Rattle.std.proofs.lemmas.Bool.Decides.{nat_tests}
use Rattle.std.proofs.lemmas.List.{take-append-drop}
use Rattle.np_lex.specs.declared.token.Kind.{Kind}
use Rattle.np_lex.specs.declared.token.Kind.TheVariants.{Name}
use Rattle.np_lex.specs.FirstToken.{is_letter, is_name_byte, begins_with_name_byte, first_token}
use Rattle.np_lex.specs.LongestToken.{is_name, TakesLongest, IsLongestToken}
use Rattle.np_lex.specs.Tokens.{lower, BeginsWithName}
use Rattle.np_lex.proofs.LongestLaw.{and_first, and_second, first_token-longest, prefix_len-append_all}

-- a letter in either case is a letter
letter_lower : (b : ℕ) → is_letter (to_ascii_lowercase b) ≡ is_letter b
letter_lower b = grind (arith, nat_tests)

-- and so with the bytes of names
name_byte_lower : (b : ℕ) → is_name_byte (to_ascii_lowercase b) ≡ is_name_byte b
name_byte_lower b = grind (arith, nat_tests)

name_bytes_lower : (bs : List ℕ) → list_all is_name_byte (lower bs) ≡ list_all is_name_byte bs
name_bytes_lower [] = refl
name_bytes_lower (b ∷ bs) = ap (λ (x : Bool). x && list_all is_name_byte (lower bs)) (name_byte_lower b) ∙ ap (λ (x : Bool). is_name_byte b && x) (name_bytes_lower bs)

name_lower : (bs : List ℕ) → is_name (lower bs) ≡ is_name bs
name_lower [] = refl
name_lower (b ∷ bs) = ap (λ (x : Bool). x && list_all is_name_byte (lower bs)) (letter_lower b) ∙ ap (λ (x : Bool). is_letter b && x) (name_bytes_lower bs)

-- the first token of a name and what follows it
name_token : (name rest : List ℕ) → is_name name ≡ true → first_token (name ++ rest) ≡ Some (Name, length name + prefix_len is_name_byte rest)
name_token [] rest e = absurd cc
name_token (b ∷ bs) rest e =
    let letter = and_first (is_letter b) (list_all is_name_byte bs) e in
    let covered = prefix_len-append_all is_name_byte bs rest (and_second (is_letter b) (list_all is_name_byte bs) e) in
    let sizes : suc (prefix_len is_name_byte (bs ++ rest)) ≡ suc (length bs) + prefix_len is_name_byte rest = omega (arith, covered) in
    rw letter (ap (λ (n : ℕ). Some (Name, n)) sizes)

-- what begins with no byte of a name begins with no name, and the other way round
none_in_front : (bs : List ℕ) → begins_with_name_byte bs ≡ false → prefix_len is_name_byte bs ≡ 0
none_in_front [] e = refl
none_in_front (b ∷ bs) e = rw e refl

begins_with_none : (bs : List ℕ) (begins : Bool) → begins_with_name_byte bs ≡ begins → prefix_len is_name_byte bs ≡ 0 → begins ≡ false
begins_with_none bs false e none = refl
begins_with_none [] true e none = sym e
begins_with_none (b ∷ bs) true e none =
    let some : prefix_len is_name_byte (b ∷ bs) ≡ suc (prefix_len is_name_byte bs) = rw e (omega arith) in
    absurd (omega (arith, some))

-- as many bytes as are taken of as many at least
pub name_found : (bytes name : List ℕ) → is_name name ≡ true → length name ≤ length bytes → lower (take (length name) bytes) ≡ name → begins_with_name_byte (drop (length name) bytes) ≡ false → BeginsWithName bytes name
name_found bytes name is within text ends =
    let front : List ℕ = take (length name) bytes in
    let front_is : is_name front ≡ true = sym (name_lower front) ∙ ap is_name text ∙ is in
    let size : length front + prefix_len is_name_byte (drop (length name) bytes) ≡ length name = omega (arith, length-take (length name) bytes, none_in_front (drop (length name) bytes) ends) in
    record {
      first = ap first_token (sym (take-append-drop (length name) bytes)) ∙ name_token front (drop (length name) bytes) front_is ∙ ap (λ (n : ℕ). Some (Name, n)) size;
      text = text;
    }

-- a name of so many bytes
abbrev named_of : ℕ → Option (Kind × ℕ)
named_of n = Some (Name, n)

abbrev size_of : Option (Kind × ℕ) → ℕ
size_of None = 0
size_of (Some token) = token.1

-- the name is there, and no byte of a name follows it
pub record NameEnds (bytes name : List ℕ) : Type 0 where
  pub within : length name ≤ length bytes
  pub ends : begins_with_name_byte (drop (length name) bytes) ≡ false

-- so with a name that is the longest token
pub name_ends : (bytes name : List ℕ) → BeginsWithName bytes name → NameEnds bytes name
name_ends bytes name begins = record { within = longest.in_range; ends = begins_with_none rest (begins_with_name_byte rest) refl none }
  where
    rest : List ℕ
    rest = drop (length name) bytes

    longest : IsLongestToken Name (length name) bytes
    longest = subst (TakesLongest bytes) begins.first (first_token-longest bytes)

    size_in : (a b : ℕ) → named_of a ≡ named_of b → a ≡ b
    size_in a b e = ap size_of e

    sizes : length (take (length name) bytes) + prefix_len is_name_byte rest ≡ length name
    sizes = size_in (length (take (length name) bytes) + prefix_len is_name_byte rest) (length name) (sym (name_token (take (length name) bytes) rest longest.is_token) ∙ ap first_token (take-append-drop (length name) bytes) ∙ begins.first)

    none : prefix_len is_name_byte rest ≡ 0
    none = omega (arith, sizes, length-take (length name) bytes, longest.in_range)

pub not_true : (b : Bool) → not b ≡ true → b ≡ false
not_true true e = sym e
not_true false e = refl
