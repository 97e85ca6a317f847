-- A leading number is the longest token.
use Rattle.std.proofs.Common.{◌≡◌, ℕ, suc, ◌+◌, ◌<◌, ◌≤◌, arith, length, true≢false, Bool, true, false, cond, inl, inr, List, [], ◌∷◌, ◌++◌, take, drop, Option, None, Some, refl, sym, ◌∙◌, ap, subst}
use Rattle.std.specs.Prelude.{◌==◌, ◌&&◌}
use Rattle.std.specs.List.{prefix_len}
use Rattle.std.proofs.lemmas.Bool.{eqb-true}
use Rattle.std.proofs.lemmas.List.{take-append-drop}
use Rattle.np_lex.specs.declared.token.Kind.{Kind}
use Rattle.np_lex.specs.declared.token.Kind.TheVariants.{Number}
use Rattle.np_lex.specs.FirstToken.{is_digit, begins_with_digit, number_length, point_length, first_token, first_number}
use Rattle.np_lex.specs.LongestToken.{IsToken, TakesLongest, IsLongestToken}
use Rattle.std.specs.Str.Parse.{AllDigits}
use Rattle.np_lex.proofs.Digits.{first_digit, digits_within}
use Rattle.np_lex.proofs.Streams.{number_length-le}
use Rattle.np_lex.proofs.LongestLaw.{and_first, and_second, first_token-longest, first_token-digit, unsigned_covers}

-- the token is a number of so many bytes
abbrev numbered : ℕ → Option (Kind × ℕ)
numbered n = Some (Number, n)

size_of : Option (Kind × ℕ) → ℕ
size_of None = 0
size_of (Some token) = token.1

size_in : (a b : ℕ) → numbered a ≡ numbered b → a ≡ b
unfolding size_of
size_in a b e = ap size_of e

signed_at : (b : ℕ) (bs : List ℕ) (n : ℕ) (signed : Bool) → (b == 45 && begins_with_digit bs) ≡ signed → cond signed (Some (suc (number_length bs))) None ≡ Some n → first_token (b ∷ bs) ≡ numbered n
signed_at b bs n false e is = absurd cc
signed_at b bs n true e is =
    let minus : 45 ≡ b = sym (eqb-true b 45 (and_first (b == 45) (begins_with_digit bs) e)) in
    let size : suc (number_length bs) ≡ n = cc in
    let at : first_token (45 ∷ bs) ≡ numbered (suc (number_length bs)) = rw (and_second (b == 45) (begins_with_digit bs) e) refl in
    subst (λ (c : ℕ). first_token (c ∷ bs) ≡ numbered n) minus (at ∙ ap numbered size)

number_at : (b : ℕ) (bs : List ℕ) (n : ℕ) (digit : Bool) → is_digit b ≡ digit → cond digit (Some (number_length (b ∷ bs))) (cond (b == 45 && begins_with_digit bs) (Some (suc (number_length bs))) None) ≡ Some n → first_token (b ∷ bs) ≡ numbered n
number_at b bs n true e is =
    let size : number_length (b ∷ bs) ≡ n = cc in
    first_token-digit (b ∷ bs) e ∙ ap numbered size
number_at b bs n false e is = signed_at b bs n (b == 45 && begins_with_digit bs) refl is

-- a leading number is the longest token
pub number_found : (bs : List ℕ) (n : ℕ) → first_number bs ≡ Some n → first_token bs ≡ Some (Number, n)
number_found [] n is = absurd cc
number_found (b ∷ bs) n is = number_at b bs n (is_digit b) refl is

-- a leading digit, or '-' and one, begins a number
digit_begins : (bs : List ℕ) → begins_with_digit bs ≡ true → first_number bs ≡ Some (number_length bs)
digit_begins [] e = absurd cc
digit_begins (b ∷ bs) e = rw e refl

minus_begins : (bs : List ℕ) → begins_with_digit bs ≡ true → first_number (45 ∷ bs) ≡ Some (suc (number_length bs))
minus_begins bs e = rw e refl

number_begins : (text rest : List ℕ) → IsToken Number text → (n : ℕ) × (first_number (text ++ rest) ≡ Some n)
number_begins text rest (inl unsigned) = (number_length (text ++ rest), digit_begins (text ++ rest) (unsigned_covers text rest unsigned).0)
number_begins text rest (inr signed) = (
  suc (number_length (signed.rest ++ rest)),
  ap (λ (t : List ℕ). first_number (t ++ rest)) signed.text_is ∙ minus_begins (signed.rest ++ rest) (unsigned_covers signed.rest rest signed.holds).0,
)

-- where no number is leading, the longest token is none
pub no_number : (bs : List ℕ) (n : ℕ) → first_number bs ≡ None → first_token bs ≡ Some (Number, n) → ⊥
no_number bs n none first =
    let longest : IsLongestToken Number n bs = subst (TakesLongest bs) first (first_token-longest bs) in
    let begun = number_begins (take n bs) (drop n bs) longest.is_token in
    let is : None ≡ Some begun.0 = sym none ∙ ap first_number (sym (take-append-drop n bs)) ∙ begun.1 in
    cc

-- leading digits, with no point and digits after them
alone_at : (b : ℕ) (bs : List ℕ) (n : ℕ) (digit : Bool) → is_digit b ≡ digit → n ≡ prefix_len is_digit (b ∷ bs) → 0 < n → point_length (drop n (b ∷ bs)) ≡ 0 → first_number (b ∷ bs) ≡ Some n
alone_at b bs n true e size some point =
    let same : number_length (b ∷ bs) ≡ n = ap (λ (m : ℕ). m + point_length (drop m (b ∷ bs))) (sym size) ∙ (let none : n + point_length (drop n (b ∷ bs)) ≡ n = omega (arith, point) in none) in
    digit_begins (b ∷ bs) e ∙ ap (λ (m : ℕ). Some m) same
alone_at b bs n false e size some point =
    let none : prefix_len is_digit (b ∷ bs) ≡ 0 = rw e refl in
    absurd (omega (arith, none))

pub digits_alone : (bs : List ℕ) (n : ℕ) → n ≡ prefix_len is_digit bs → 0 < n → point_length (drop n bs) ≡ 0 → first_number bs ≡ Some n
digits_alone [] n size some point = absurd (omega arith)
digits_alone (b ∷ bs) n size some point = alone_at b bs n (is_digit b) refl size some point

-- what the first token says of a number is the leading number
number_by : (bs : List ℕ) (n : ℕ) (found : Option ℕ) → first_number bs ≡ found → first_token bs ≡ numbered n → found ≡ Some n
number_by bs n None e first = absurd (no_number bs n e first)
number_by bs n (Some m) e first = ap (λ (k : ℕ). Some k) (size_in m n (sym (number_found bs m e) ∙ first))

pub number_is : (bs : List ℕ) (n : ℕ) → first_token bs ≡ Some (Number, n) → first_number bs ≡ Some n
number_is bs n first = number_by bs n (first_number bs) refl first

some_in : (a b : ℕ) → Some a ≡ Some b → a ≡ b
some_in a b e = cc

-- a number that is all digits is the leading digits
signed_is_no_digits : (b : ℕ) (bs : List ℕ) (m : ℕ) (signed : Bool) → cond signed (Some (suc (number_length bs))) None ≡ Some m → is_digit b ≡ false → AllDigits 10 (take m (b ∷ bs)) → ⊥
signed_is_no_digits b bs m false e other digits = absurd cc
signed_is_no_digits b bs m true e other digits =
    let size : suc (number_length bs) ≡ m = some_in _ _ e in
    let first : is_digit b ≡ true = first_digit b (take (number_length bs) bs) (subst (λ (k : ℕ). AllDigits 10 (take k (b ∷ bs))) (sym size) digits) in
    true≢false (sym first ∙ other)

digits_by : (b : ℕ) (bs : List ℕ) (m : ℕ) (digit : Bool) → is_digit b ≡ digit → cond digit (Some (number_length (b ∷ bs))) (cond (b == 45 && begins_with_digit bs) (Some (suc (number_length bs))) None) ≡ Some m → AllDigits 10 (take m (b ∷ bs)) → (m ≡ prefix_len is_digit (b ∷ bs)) × (point_length (drop (prefix_len is_digit (b ∷ bs)) (b ∷ bs)) ≡ 0)
digits_by b bs m true e is digits =
    let all : List ℕ = b ∷ bs in
    let size : number_length all ≡ m = some_in _ _ is in
    let within : m ≤ length all = omega (arith, size, number_length-le all) in
    let most = digits_within all m within digits in
    (omega (arith, size, most), omega (arith, size, most))
digits_by b bs m false e is digits = absurd (signed_is_no_digits b bs m (b == 45 && begins_with_digit bs) is e digits)

-- the leading number is all digits: they are the leading digits, and no point follows them
pub digits_are : (bs : List ℕ) (m : ℕ) → first_number bs ≡ Some m → AllDigits 10 (take m bs) → (m ≡ prefix_len is_digit bs) × (point_length (drop (prefix_len is_digit bs) bs) ≡ 0)
digits_are [] m is digits = absurd cc
digits_are (b ∷ bs) m is digits = digits_by b bs m (is_digit b) refl is digits
