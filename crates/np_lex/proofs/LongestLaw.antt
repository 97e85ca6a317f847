-- The first token is the longest.
use Rattle.std.proofs.Common.{◌≡◌, ℕ, suc, ◌+◌, ◌<◌, ◌≤◌, Bool, true, false, cond, ◌||◌, ◌&&◌, ◌⊎◌, inl, inr, ⊎_elim, List, [], ◌∷◌, ◌++◌, length, take, drop, Option, None, Some, refl, sym, ◌∙◌, ap, subst, arith, length-append, append_assoc}
use Rattle.std.specs.Prelude.{◌==◌, All, IfSome}
use Rattle.std.specs.List.{list_all, prefix_len}
use Rattle.std.specs.Int.{is_in_range}
use Rattle.std.specs.Char.{is_ascii}
use Rattle.std.proofs.lemmas.List.Sums.{AllPass-from_list_all}
use Rattle.std.proofs.Math.Seq.{take-add}
use Rattle.std.proofs.lemmas.Bool.{eqb-true, ltb-true}
use Rattle.std.proofs.lemmas.Bool.Decides.{nat_tests}
use Rattle.std.proofs.lemmas.List.{drop_at}
use Rattle.np_lex.specs.declared.token.Kind.{Kind}
use Rattle.np_lex.specs.declared.token.Kind.TheVariants.{Left, Right, Name, Variable, Keyword, Colon, Number, Op}
use Rattle.np_lex.specs.FirstToken.{is_letter, is_digit, is_name_byte, begins_with_letter, begins_with_digit, begins_with_equals, point_length, number_length, mark_token, first_token}
use Rattle.np_lex.specs.LongestToken.{IsToken, IsUnsigned, is_name, is_digits, is_operator, TakesLongest}
use Rattle.np_lex.proofs.Streams.{TakesUpTo, first_token-range}

-- both of two tests that pass together
pub and_first : (a b : Bool) → a && b ≡ true → a ≡ true
and_first true b e = refl
and_first false b e = e

pub and_second : (a b : Bool) → a && b ≡ true → b ≡ true
and_second true b e = e
and_second false b e = cc

-- one of two tests, where either passes
pub or_either : (a b : Bool) → a || b ≡ true → (a ≡ true) ⊎ (b ≡ true)
or_either true b e = inl refl
or_either false b e = inr e

-- a letter is one of the bytes of names
letter_among : (digit upper lower dash line : Bool) → upper || lower ≡ true → digit || upper || lower || dash || line ≡ true
letter_among true upper lower dash line e = refl
letter_among false true lower dash line e = refl
letter_among false false true dash line e = refl
letter_among false false false dash line e = cc

-- a letter is a byte of names
pub is_letter-name_byte : (b : ℕ) → is_letter b ≡ true → is_name_byte b ≡ true
is_letter-name_byte b letter = letter_among (is_in_range 48 57 b) (is_in_range 65 90 b) (is_in_range 97 122 b) (b == 45) (b == 95) letter

-- a digit is no letter
pub is_digit-letter : (b : ℕ) → is_digit b ≡ true → is_letter b ≡ false
is_digit-letter b digit = grind (arith, nat_tests)

-- the leading run of a list whose elements all pass, and of another after it
pub prefix_len-append_all : (p : ℕ → Bool) (xs ys : List ℕ) → list_all p xs ≡ true → prefix_len p (xs ++ ys) ≡ length xs + prefix_len p ys
prefix_len-append_all p [] ys all = omega arith
prefix_len-append_all p (x ∷ xs) ys all =
    let rest = prefix_len-append_all p xs ys (and_second (p x) (list_all p xs) all) in
    rw (and_first (p x) (list_all p xs) all) (omega arith)

-- what the leading run adds, by its first element
list_all-take_cond : (p : ℕ → Bool) (x n : ℕ) (xs : List ℕ) (passes : Bool) → p x ≡ passes → list_all p (take n xs) ≡ true → list_all p (take (cond passes (1 + n) 0) (x ∷ xs)) ≡ true
list_all-take_cond p x n xs true e rest = let more : 1 + n ≡ suc n = omega arith in rw more (rw (e, rest) refl)
list_all-take_cond p x n xs false e rest = refl

-- the leading run passes
list_all-prefix : (p : ℕ → Bool) (xs : List ℕ) → list_all p (take (prefix_len p xs) xs) ≡ true
list_all-prefix p [] = refl
list_all-prefix p (x ∷ xs) = list_all-take_cond p x (prefix_len p xs) xs (p x) refl (list_all-prefix p xs)

-- the leading run of a list whose first element passes
take-prefix : (p : ℕ → Bool) (x : ℕ) (xs : List ℕ) → p x ≡ true → take (prefix_len p (x ∷ xs)) (x ∷ xs) ≡ x ∷ take (prefix_len p xs) xs
take-prefix p x xs e = let more : 1 + prefix_len p xs ≡ suc (prefix_len p xs) = omega arith in rw e (rw more refl)

-- the first token is there, and no shorter
abbrev pub Reaches : ℕ → Option (Kind × ℕ) → Type 0
Reaches m None = ⊥
Reaches m (Some token) = m ≤ token.1

-- a leading name is part of the run of its bytes
name_covers : (name rest : List ℕ) → is_name name ≡ true → length name ≤ prefix_len is_name_byte (name ++ rest)
name_covers [] rest named = cc
name_covers (b ∷ bs) rest named =
    let letter = is_letter-name_byte b (and_first (is_letter b) (list_all is_name_byte bs) named) in
    rw letter (omega (arith, prefix_len-append_all is_name_byte bs rest (and_second (is_letter b) (list_all is_name_byte bs) named)))

-- a name begins with a letter
pub name_begins : (name rest : List ℕ) → is_name name ≡ true → begins_with_letter (name ++ rest) ≡ true
name_begins [] rest named = cc
name_begins (b ∷ bs) rest named = and_first (is_letter b) (list_all is_name_byte bs) named

-- digits are all digits
pub digits_all : (text : List ℕ) → is_digits text ≡ true → list_all is_digit text ≡ true
digits_all [] digits = refl
digits_all (b ∷ bs) digits = digits

-- digits begin with a digit
digits_begin : (text rest : List ℕ) → is_digits text ≡ true → begins_with_digit (text ++ rest) ≡ true
digits_begin [] rest digits = cc
digits_begin (b ∷ bs) rest digits = and_first (is_digit b) (list_all is_digit bs) digits

-- leading digits are part of the number
digits_cover : (text rest : List ℕ) → is_digits text ≡ true → length text ≤ number_length (text ++ rest)
digits_cover text rest digits = omega (arith, prefix_len-append_all is_digit text rest (digits_all text digits))

-- leading digits with a point and digits are part of the number
decimal_covers : (whole fraction rest : List ℕ) → is_digits whole ≡ true → is_digits fraction ≡ true → length (whole ++ 46 ∷ fraction) ≤ number_length (whole ++ (46 ∷ (fraction ++ rest)))
decimal_covers whole fraction rest whole_digits fraction_digits =
    let all : List ℕ = whole ++ (46 ∷ (fraction ++ rest)) in
    let run : prefix_len is_digit all ≡ length whole = prefix_len-append_all is_digit whole (46 ∷ (fraction ++ rest)) (digits_all whole whole_digits) ∙ omega arith in
    let point : point_length (drop (prefix_len is_digit all) all) ≡ suc (prefix_len is_digit (fraction ++ rest)) =
    ap point_length (drop_at whole (46 ∷ (fraction ++ rest)) (prefix_len is_digit all) (sym run)) ∙ rw (digits_begin fraction rest fraction_digits) refl in
    omega (arith, run, point, length-append whole (46 ∷ fraction), prefix_len-append_all is_digit fraction rest (digits_all fraction fraction_digits))

-- a leading number without a sign is part of the number that is taken
pub unsigned_covers : (text rest : List ℕ) → IsUnsigned text → (begins_with_digit (text ++ rest) ≡ true) × (length text ≤ number_length (text ++ rest))
unsigned_covers text rest (inl digits) = (digits_begin text rest digits, digits_cover text rest digits)
unsigned_covers text rest (inr decimal) =
    let split : text ++ rest ≡ decimal.whole ++ (46 ∷ (decimal.fraction ++ rest)) =
    ap (λ t. t ++ rest) decimal.text_is ∙ append_assoc decimal.whole (46 ∷ decimal.fraction) rest in (
      ap begins_with_digit split ∙ digits_begin decimal.whole (46 ∷ (decimal.fraction ++ rest)) decimal.whole_digits,
      omega (arith, ap length decimal.text_is, ap number_length split, decimal_covers decimal.whole decimal.fraction rest decimal.whole_digits decimal.fraction_digits),
    )

-- a number is taken where a digit begins
pub first_token-digit : (bs : List ℕ) → begins_with_digit bs ≡ true → first_token bs ≡ Some (Number, number_length bs)
first_token-digit [] digit = cc
first_token-digit (b ∷ bs) digit = rw (is_digit-letter b digit, digit) refl

-- no token that begins the bytes is longer than the first token
name_reaches : (text rest : List ℕ) → is_name text ≡ true → Reaches (length text) (first_token (text ++ rest))
name_reaches [] rest named = cc
name_reaches (b ∷ bs) rest named =
    rw (and_first (is_letter b) (list_all is_name_byte bs) named)
    (omega (arith, prefix_len-append_all is_name_byte bs rest (and_second (is_letter b) (list_all is_name_byte bs) named)))

variable_reaches : (name rest : List ℕ) → is_name name ≡ true → Reaches (suc (length name)) (first_token (63 ∷ (name ++ rest)))
variable_reaches name rest named = rw (name_begins name rest named) (omega (arith, name_covers name rest named))

keyword_reaches : (name rest : List ℕ) → is_name name ≡ true → Reaches (suc (length name)) (first_token (58 ∷ (name ++ rest)))
keyword_reaches name rest named = rw (name_begins name rest named) (omega (arith, name_covers name rest named))

colon_reaches : (rest : List ℕ) → Reaches 1 (first_token (58 ∷ rest))
colon_reaches rest = elim (begins_with_letter rest) as (λ c. Reaches 1 (cond c (Some (Keyword, suc (prefix_len is_name_byte rest))) (Some (Colon, 1)))) [ true ↦ omega arith | false ↦ omega arith ]

unsigned_reaches : (text rest : List ℕ) → IsUnsigned text → Reaches (length text) (first_token (text ++ rest))
unsigned_reaches text rest unsigned =
    let covers = unsigned_covers text rest unsigned in
    subst (Reaches (length text)) (sym (first_token-digit (text ++ rest) covers.0)) covers.1

signed_reaches : (text rest : List ℕ) → IsUnsigned text → Reaches (suc (length text)) (first_token (45 ∷ (text ++ rest)))
signed_reaches text rest unsigned = let covers = unsigned_covers text rest unsigned in rw covers.0 (omega (arith, covers.1))

minus_reaches : (rest : List ℕ) → Reaches 1 (first_token (45 ∷ rest))
minus_reaches rest = elim (begins_with_digit rest) as (λ c. Reaches 1 (cond c (Some (Number, suc (number_length rest))) (Some (Op, 1)))) [ true ↦ omega arith | false ↦ omega arith ]

order_reaches : (rest : List ℕ) → Reaches 1 (cond (begins_with_equals rest) (Some (Op, 2)) (Some (Op, 1)))
order_reaches rest = elim (begins_with_equals rest) as (λ c. Reaches 1 (cond c (Some (Op, 2)) (Some (Op, 1)))) [ true ↦ omega arith | false ↦ omega arith ]

-- the operators of one byte
operator_reaches : (b : ℕ) (rest : List ℕ) → is_operator (b ∷ []) ≡ true → Reaches 1 (first_token (b ∷ rest))
operator_reaches b rest operator =
    let F : ℕ → Type 0 = λ n. Reaches 1 (first_token (n ∷ rest)) in
    let at : (v : ℕ) → F v → b == v ≡ true → F b = λ v x e. subst F (sym (eqb-true b v e)) x in
    let order : Bool = b == 60 || b == 62 in
    let upto_61 : Bool = order || b == 61 in
    let upto_43 : Bool = upto_61 || b == 43 in
    let upto_42 : Bool = upto_43 || b == 42 in
    let upto_47 : Bool = upto_42 || b == 47 in
    let is_order : order ≡ true → F b = λ e. ⊎_elim (at 60 (order_reaches rest)) (at 62 (order_reaches rest)) (or_either (b == 60) (b == 62) e) in
    let is_61 : upto_61 ≡ true → F b = λ e. ⊎_elim is_order (at 61 (omega arith)) (or_either order (b == 61) e) in
    let is_43 : upto_43 ≡ true → F b = λ e. ⊎_elim is_61 (at 43 (omega arith)) (or_either upto_61 (b == 43) e) in
    let is_42 : upto_42 ≡ true → F b = λ e. ⊎_elim is_43 (at 42 (omega arith)) (or_either upto_43 (b == 42) e) in
    let is_47 : upto_47 ≡ true → F b = λ e. ⊎_elim is_42 (at 47 (omega arith)) (or_either upto_42 (b == 47) e) in
    ⊎_elim is_47 (at 45 (minus_reaches rest)) (or_either upto_47 (b == 45) operator)

-- the operators of two bytes
two_reach : (b c : ℕ) (rest : List ℕ) → is_operator (b ∷ c ∷ []) ≡ true → Reaches 2 (first_token (b ∷ c ∷ rest))
two_reach b c rest operator =
    let F : ℕ → Type 0 = λ n. Reaches 2 (first_token (n ∷ c ∷ rest)) in
    let order : Bool = b == 60 || b == 62 in
    let equals : c == 61 ≡ true = and_second order (c == 61) operator in
    let two : Reaches 2 (cond (c == 61) (Some (Op, 2)) (Some (Op, 1))) = rw equals (omega arith) in
    let at : (v : ℕ) → F v → b == v ≡ true → F b = λ v x e. subst F (sym (eqb-true b v e)) x in
    ⊎_elim (at 60 two) (at 62 two) (or_either (b == 60) (b == 62) (and_first order (c == 61) operator))

op_reaches : (text rest : List ℕ) → is_operator text ≡ true → Reaches (length text) (first_token (text ++ rest))
op_reaches [] rest operator = cc
op_reaches (b ∷ []) rest operator = operator_reaches b rest operator
op_reaches (b ∷ c ∷ []) rest operator = two_reach b c rest operator
op_reaches (b ∷ c ∷ d ∷ bs) rest operator = cc

-- every token that begins the bytes is within the first token
pub token_reaches : (kind : Kind) (text rest : List ℕ) → IsToken kind text → Reaches (length text) (first_token (text ++ rest))
token_reaches Left text rest token = subst (λ (t : List ℕ). Reaches (length t) (first_token (t ++ rest))) (sym token) (omega arith)
token_reaches Right text rest token = subst (λ (t : List ℕ). Reaches (length t) (first_token (t ++ rest))) (sym token) (omega arith)
token_reaches Name text rest token = name_reaches text rest token
token_reaches Variable text rest token = subst (λ (t : List ℕ). Reaches (length t) (first_token (t ++ rest))) (sym token.text_is) (variable_reaches token.rest rest token.holds)
token_reaches Keyword text rest token = subst (λ (t : List ℕ). Reaches (length t) (first_token (t ++ rest))) (sym token.text_is) (keyword_reaches token.rest rest token.holds)
token_reaches Colon text rest token = subst (λ (t : List ℕ). Reaches (length t) (first_token (t ++ rest))) (sym token) (colon_reaches rest)
token_reaches Number text rest (inl unsigned) = unsigned_reaches text rest unsigned
token_reaches Number text rest (inr signed) = subst (λ (t : List ℕ). Reaches (length t) (first_token (t ++ rest))) (sym signed.text_is) (signed_reaches signed.rest rest signed.holds)
token_reaches Op text rest token = op_reaches text rest token

-- what is taken is a token
pub record IsSound (bs : List ℕ) (found : Option (Kind × ℕ)) : Type 0 where
  pub sound : IfSome found (λ token. IsToken token.0 (take token.1 bs))

-- a choice is sound where each side is
IsSound-cond : (bs : List ℕ) (c : Bool) (x y : Option (Kind × ℕ)) → (c ≡ true → IsSound bs x) → IsSound bs y → IsSound bs (cond c x y)
IsSound-cond bs true x y first second = first refl
IsSound-cond bs false x y first second = second

-- the leading digits are digits
digits_taken : (bs : List ℕ) → begins_with_digit bs ≡ true → is_digits (take (prefix_len is_digit bs) bs) ≡ true
digits_taken [] digit = cc
digits_taken (b ∷ bs) digit = rw (take-prefix is_digit b bs digit) (rw digit (list_all-prefix is_digit bs))

-- a leading name is a name
name_taken : (bs : List ℕ) → begins_with_letter bs ≡ true → is_name (take (prefix_len is_name_byte bs) bs) ≡ true
name_taken [] letter = cc
name_taken (b ∷ bs) letter = rw (take-prefix is_name_byte b bs (is_letter-name_byte b letter)) (rw letter (list_all-prefix is_name_byte bs))

-- the leading digits with a point after them, if digits follow it
point_taken : (bs : List ℕ) (p : ℕ) (ps : List ℕ) (point : Bool) → begins_with_digit bs ≡ true → drop (prefix_len is_digit bs) bs ≡ p ∷ ps → p == 46 && begins_with_digit ps ≡ point → IsUnsigned (take (prefix_len is_digit bs + cond point (suc (prefix_len is_digit ps)) 0) bs)
point_taken bs p ps false digit after e =
    let n : ℕ = prefix_len is_digit bs in
    let none : n + 0 ≡ n = omega arith in
    inl (rw none (digits_taken bs digit))
point_taken bs p ps true digit after e =
    let n : ℕ = prefix_len is_digit bs in
    let m : ℕ = prefix_len is_digit ps in
    let is_point : p ≡ 46 = eqb-true p 46 (and_first (p == 46) (begins_with_digit ps) e) in
    inr (record {
      whole = take n bs;
      fraction = take m ps;
      whole_digits = digits_taken bs digit;
      fraction_digits = digits_taken ps (and_second (p == 46) (begins_with_digit ps) e);
      text_is = take-add n (suc m) bs ∙ ap (λ rest. take n bs ++ take (suc m) rest) after ∙ ap (λ x. take n bs ++ x ∷ take m ps) is_point;
    })

-- the leading number, by what follows its digits
number_taken_by : (bs rest : List ℕ) → begins_with_digit bs ≡ true → drop (prefix_len is_digit bs) bs ≡ rest → IsUnsigned (take (prefix_len is_digit bs + point_length rest) bs)
number_taken_by bs [] digit after =
    let n : ℕ = prefix_len is_digit bs in
    let none : n + 0 ≡ n = omega arith in
    inl (rw none (digits_taken bs digit))
number_taken_by bs (p ∷ ps) digit after = point_taken bs p ps (p == 46 && begins_with_digit ps) digit after refl

-- the leading number is a number
unsigned_taken : (bs : List ℕ) → begins_with_digit bs ≡ true → IsUnsigned (take (number_length bs) bs)
unsigned_taken bs digit = number_taken_by bs (drop (prefix_len is_digit bs) bs) digit refl

-- one of four tests among seven
operator_among : (order equals plus times over minus : Bool) → equals || plus || times || over ≡ true → order || equals || plus || times || over || minus ≡ true
operator_among true equals plus times over minus e = refl
operator_among false true plus times over minus e = refl
operator_among false false true times over minus e = refl
operator_among false false false true over minus e = refl
operator_among false false false false true minus e = refl
operator_among false false false false false minus e = cc

-- the last of two tests
or_last : (a b : Bool) → b ≡ true → a || b ≡ true
or_last true b e = refl
or_last false b e = e

-- an order and '=' after it
order_equals_sound : (b : ℕ) (bs : List ℕ) → b == 60 || b == 62 ≡ true → begins_with_equals bs ≡ true → is_operator (take 2 (b ∷ bs)) ≡ true
order_equals_sound b [] order equals = cc
order_equals_sound b (c ∷ bs) order equals = rw (order, equals) refl

-- a token that begins with a mark is a token
mark_token-sound : (b : ℕ) (bs : List ℕ) → IsSound (b ∷ bs) (mark_token b bs)
mark_token-sound b bs =
    let all : List ℕ = b ∷ bs in
    let single : (v : ℕ) → b == v ≡ true → ◌≡◌ {A = List ℕ} (b ∷ []) (v ∷ []) = λ v e. ap (λ n. n ∷ []) (eqb-true b v e) in
    let left : b == 40 ≡ true → IsSound all (Some (Left, 1)) = λ e. record { sound = single 40 e } in
    let right : b == 41 ≡ true → IsSound all (Some (Right, 1)) = λ e. record { sound = single 41 e } in
    let colon : b == 58 ≡ true → IsSound all (Some (Colon, 1)) = λ e. record { sound = single 58 e } in
    let variable : b == 63 ≡ true → begins_with_letter bs ≡ true → IsSound all (Some (Variable, suc (prefix_len is_name_byte bs))) = λ e letter. record {
      sound = record {
        rest = take (prefix_len is_name_byte bs) bs;
        text_is = ap (λ n. n ∷ take (prefix_len is_name_byte bs) bs) (eqb-true b 63 e);
        holds = name_taken bs letter;
      };
    } in
    let keyword : b == 58 ≡ true → begins_with_letter bs ≡ true → IsSound all (Some (Keyword, suc (prefix_len is_name_byte bs))) = λ e letter. record {
      sound = record {
        rest = take (prefix_len is_name_byte bs) bs;
        text_is = ap (λ n. n ∷ take (prefix_len is_name_byte bs) bs) (eqb-true b 58 e);
        holds = name_taken bs letter;
      };
    } in
    let signed : b == 45 ≡ true → begins_with_digit bs ≡ true → IsSound all (Some (Number, suc (number_length bs))) = λ e digit. record {
      sound = inr (record {
        rest = take (number_length bs) bs;
        text_is = ap (λ n. n ∷ take (number_length bs) bs) (eqb-true b 45 e);
        holds = unsigned_taken bs digit;
      });
    } in
    let minus : b == 45 ≡ true → IsSound all (Some (Op, 1)) = λ e. record { sound = or_last (b == 60 || b == 62 || b == 61 || b == 43 || b == 42 || b == 47) (b == 45) e } in
    let order : b == 60 || b == 62 ≡ true → IsSound all (Some (Op, 1)) = λ e. record { sound = rw e refl } in
    let order_equals : b == 60 || b == 62 ≡ true → begins_with_equals bs ≡ true → IsSound all (Some (Op, 2)) = λ e equals. record { sound = order_equals_sound b bs e equals } in
    let other : b == 61 || b == 43 || b == 42 || b == 47 ≡ true → IsSound all (Some (Op, 1)) = λ e. record { sound = operator_among (b == 60 || b == 62) (b == 61) (b == 43) (b == 42) (b == 47) (b == 45) e } in
    let none : IsSound all None = record { sound = tt } in
    IsSound-cond _ _ _ _ left
    (IsSound-cond _ _ _ _ right
    (IsSound-cond _ _ _ _ (λ e. IsSound-cond _ (begins_with_letter bs) _ _ (variable e) none)
    (IsSound-cond _ _ _ _ (λ e. IsSound-cond _ (begins_with_letter bs) _ _ (keyword e) (colon e))
    (IsSound-cond _ _ _ _ (λ e. IsSound-cond _ (begins_with_digit bs) _ _ (signed e) (minus e))
    (IsSound-cond _ _ _ _ (λ e. IsSound-cond _ (begins_with_equals bs) _ _ (order_equals e) (order e))
    (IsSound-cond _ _ _ _ other none))))))

-- the first token is a token
first_token-sound : (bs : List ℕ) → IsSound bs (first_token bs)
first_token-sound [] = record { sound = tt }
first_token-sound (b ∷ bs) =
    let all : List ℕ = b ∷ bs in
    let name : is_letter b ≡ true → IsSound all (Some (Name, suc (prefix_len is_name_byte bs))) = λ letter. record { sound = rw letter (list_all-prefix is_name_byte bs) } in
    let number : is_digit b ≡ true → IsSound all (Some (Number, number_length all)) = λ digit. record { sound = inl (unsigned_taken all digit) } in
    IsSound-cond _ _ _ _ name (IsSound-cond _ _ _ _ number (mark_token-sound b bs))

-- the longest, whether there is one
longest_of : (bs : List ℕ) (found : Option (Kind × ℕ)) → first_token bs ≡ found → TakesUpTo (length bs) found → IsSound bs found → TakesLongest bs found
longest_of bs None e range sound = record {
  no_token = λ kind text rest split token. subst (Reaches (length text)) (ap first_token (sym split) ∙ e) (token_reaches kind text rest token);
}
longest_of bs (Some found) e range sound = record {
  in_range = range.range.1;
  is_token = sound.sound;
  longest = λ kind text rest split token. subst (Reaches (length text)) (ap first_token (sym split) ∙ e) (token_reaches kind text rest token);
}

-- no token that begins the bytes is longer than the first token
pub first_token-longest : (bs : List ℕ) → TakesLongest bs (first_token bs)
first_token-longest bs = longest_of bs (first_token bs) refl (first_token-range bs) (first_token-sound bs)

-- what passes one test passes another
pub list_all-weaken : (p q : ℕ → Bool) → ((b : ℕ) → p b ≡ true → q b ≡ true) → (bs : List ℕ) → list_all p bs ≡ true → list_all q bs ≡ true
list_all-weaken p q implies [] all = refl
list_all-weaken p q implies (b ∷ bs) all =
    rw (implies b (and_first (p b) (list_all p bs) all), list_all-weaken p q implies bs (and_second (p b) (list_all p bs) all)) refl

-- two lists that pass, in a row
pub list_all-append : (p : ℕ → Bool) (xs ys : List ℕ) → list_all p xs ≡ true → list_all p ys ≡ true → list_all p (xs ++ ys) ≡ true
list_all-append p [] ys first second = second
list_all-append p (x ∷ xs) ys first second =
    rw (and_first (p x) (list_all p xs) first, list_all-append p xs ys (and_second (p x) (list_all p xs) first) second) refl

-- a byte of names is ASCII
name_byte_is_ascii : (b : ℕ) → is_name_byte b ≡ true → is_ascii b ≡ true
name_byte_is_ascii b name = grind (arith, nat_tests)

-- a digit is ASCII
digit_is_ascii : (b : ℕ) → is_digit b ≡ true → is_ascii b ≡ true
digit_is_ascii b digit = grind (arith, nat_tests)

-- a name is ASCII
name_is_ascii : (text : List ℕ) → is_name text ≡ true → list_all is_ascii text ≡ true
name_is_ascii [] name = refl
name_is_ascii (b ∷ bs) name =
    rw (name_byte_is_ascii b (is_letter-name_byte b (and_first (is_letter b) (list_all is_name_byte bs) name)))
    (list_all-weaken is_name_byte is_ascii name_byte_is_ascii bs (and_second (is_letter b) (list_all is_name_byte bs) name))

-- digits are ASCII
digits_are_ascii : (text : List ℕ) → is_digits text ≡ true → list_all is_ascii text ≡ true
digits_are_ascii text digits = list_all-weaken is_digit is_ascii digit_is_ascii text (digits_all text digits)

-- a number is ASCII
unsigned_is_ascii : (text : List ℕ) → IsUnsigned text → list_all is_ascii text ≡ true
unsigned_is_ascii text (inl digits) = digits_are_ascii text digits
unsigned_is_ascii text (inr decimal) =
    ap (list_all is_ascii) decimal.text_is
    ∙ list_all-append is_ascii decimal.whole (46 ∷ decimal.fraction) (digits_are_ascii decimal.whole decimal.whole_digits) (digits_are_ascii decimal.fraction decimal.fraction_digits)

-- an operator is ASCII
operator_is_ascii : (text : List ℕ) → is_operator text ≡ true → list_all is_ascii text ≡ true
operator_is_ascii [] operator = refl
operator_is_ascii (b ∷ []) operator = grind (arith, nat_tests)
operator_is_ascii (b ∷ c ∷ []) operator = grind (arith, nat_tests)
operator_is_ascii (b ∷ c ∷ d ∷ bs) operator = cc

-- each byte of a token passes the test
token_passes : (kind : Kind) (text : List ℕ) → IsToken kind text → list_all is_ascii text ≡ true
token_passes Left text token = ap (list_all is_ascii) token
token_passes Right text token = ap (list_all is_ascii) token
token_passes Name text token = name_is_ascii text token
token_passes Variable text token = ap (list_all is_ascii) token.text_is ∙ name_is_ascii token.rest token.holds
token_passes Keyword text token = ap (list_all is_ascii) token.text_is ∙ name_is_ascii token.rest token.holds
token_passes Colon text token = ap (list_all is_ascii) token
token_passes Number text (inl unsigned) = unsigned_is_ascii text unsigned
token_passes Number text (inr signed) = ap (list_all is_ascii) signed.text_is ∙ unsigned_is_ascii signed.rest signed.holds
token_passes Op text token = operator_is_ascii text token

-- a token is of ASCII bytes
pub token_is_ascii : (kind : Kind) (text : List ℕ) → IsToken kind text → All (λ b. b < 128) text
token_is_ascii kind text token k d within =
    ltb-true _ _ (AllPass-from_list_all is_ascii text (token_passes kind text token) k d within)
