-- The pieces of a text that is put together from tokens, with a blank or a bracket after each.
use Rattle.std.proofs.Common.{◌≡◌, ℕ, suc, ◌+◌, ◌-◌, ◌<◌, ◌≤◌, Bool, true, false, not, cond, ◌||◌, inl, inr, ⊎_elim, List, [], ◌∷◌, ◌++◌, length, get_or, take, drop, Option, None, Some, refl, sym, ◌∙◌, ap, subst, arith, length-append, length-take-le, length-drop, get_or-drop, get_or-take}
use Rattle.std.specs.Prelude.{◌==◌}
use Rattle.std.specs.List.{list_all, prefix_len}
use Rattle.std.proofs.lemmas.Bool.{eqb-true}
use Rattle.std.proofs.lemmas.Bool.Decides.{nat_tests}
use Rattle.std.proofs.lemmas.List.{drop_at, take_at, get_or_at}
use Rattle.std.proofs.lemmas.List.Sums.{AllPass-from_list_all}
use Rattle.np_lex.specs.declared.token.Kind.{Kind}
use Rattle.np_lex.specs.declared.token.Kind.TheVariants.{Left, Right, Name, Variable, Keyword, Colon, Number, Op}
use Rattle.std.proofs.str.Laws.{order}
use Rattle.np_lex.specs.Blanks.{is_blank, blanks_from, blank_length}
use Rattle.np_lex.specs.FirstToken.{is_letter, is_digit, is_name_byte, begins_with_letter, begins_with_digit, begins_with_equals, number_length, first_token}
use Rattle.np_lex.specs.LongestToken.{IsToken, IsUnsigned, is_name, is_digits, is_operator, TakesLongest, IsLongestToken}
use Rattle.np_lex.specs.Tokens.{Next, taken, lower, next_from, begun_at, taken_at, item_then, items_from}
use Rattle.np_lex.proofs.LongestLaw.{and_first, and_second, or_either, is_letter-name_byte, digits_all, list_all-weaken, list_all-append, token_reaches, Reaches, first_token-longest, first_token-digit, unsigned_covers, name_begins}
use Rattle.np_lex.proofs.Streams.{items_from-step}
use Rattle.np_read.specs.Pieces.{word, pieces_of, pieces}
use Rattle.np_read.proofs.Shifts.{pieces-step, pieces_from, piece_then}

-- a blank, a bracket, or what begins a comment
abbrev pub is_separator : ℕ → Bool
is_separator b = is_blank b || b == 40 || b == 41 || b == 59

-- nothing follows, or a byte of no token of more than one byte
abbrev pub Separates : List ℕ → Type 0
Separates [] = Unit {0}
Separates (b ∷ bs) = is_separator b ≡ true

-- a byte that separates nothing
abbrev is_inner : ℕ → Bool
is_inner b = not (is_separator b)

-- a byte of names separates nothing
name_byte_is_inner : (b : ℕ) → is_name_byte b ≡ true → is_inner b ≡ true
name_byte_is_inner b name = grind (arith, nat_tests)

-- neither does a digit
digit_is_inner : (b : ℕ) → is_digit b ≡ true → is_inner b ≡ true
digit_is_inner b digit = grind (arith, nat_tests)

-- a name separates nothing
name_is_inner : (text : List ℕ) → is_name text ≡ true → list_all is_inner text ≡ true
name_is_inner [] name = refl
name_is_inner (b ∷ bs) name =
    rw (name_byte_is_inner b (is_letter-name_byte b (and_first (is_letter b) (list_all is_name_byte bs) name)))
    (list_all-weaken is_name_byte is_inner name_byte_is_inner bs (and_second (is_letter b) (list_all is_name_byte bs) name))

-- neither do digits
digits_are_inner : (text : List ℕ) → is_digits text ≡ true → list_all is_inner text ≡ true
digits_are_inner text digits = list_all-weaken is_digit is_inner digit_is_inner text (digits_all text digits)

-- neither does a number
unsigned_is_inner : (text : List ℕ) → IsUnsigned text → list_all is_inner text ≡ true
unsigned_is_inner text (inl digits) = digits_are_inner text digits
unsigned_is_inner text (inr decimal) =
    ap (list_all is_inner) decimal.text_is
    ∙ list_all-append is_inner decimal.whole (46 ∷ decimal.fraction) (digits_are_inner decimal.whole decimal.whole_digits) (digits_are_inner decimal.fraction decimal.fraction_digits)

-- what holds of all holds of all but the first
list_all-tail : (p : ℕ → Bool) (bs : List ℕ) → list_all p bs ≡ true → list_all p (drop 1 bs) ≡ true
list_all-tail p [] all = refl
list_all-tail p (b ∷ bs) all = and_second (p b) (list_all p bs) all

-- an operator separates nothing after its first byte
operator_tail : (text : List ℕ) → is_operator text ≡ true → list_all is_inner (drop 1 text) ≡ true
operator_tail [] operator = refl
operator_tail (b ∷ []) operator = refl
operator_tail (b ∷ c ∷ []) operator = rw (eqb-true c 61 (and_second (b == 60 || b == 62) (c == 61) operator)) refl
operator_tail (b ∷ c ∷ d ∷ bs) operator = cc

-- no token separates after its first byte
token_tail : (kind : Kind) (text : List ℕ) → IsToken kind text → list_all is_inner (drop 1 text) ≡ true
token_tail Left text token = ap (λ (t : List ℕ). list_all is_inner (drop 1 t)) token
token_tail Right text token = ap (λ (t : List ℕ). list_all is_inner (drop 1 t)) token
token_tail Name text token = list_all-tail is_inner text (name_is_inner text token)
token_tail Variable text token = ap (λ (t : List ℕ). list_all is_inner (drop 1 t)) token.text_is ∙ name_is_inner token.rest token.holds
token_tail Keyword text token = ap (λ (t : List ℕ). list_all is_inner (drop 1 t)) token.text_is ∙ name_is_inner token.rest token.holds
token_tail Colon text token = ap (λ (t : List ℕ). list_all is_inner (drop 1 t)) token
token_tail Number text (inl unsigned) = list_all-tail is_inner text (unsigned_is_inner text unsigned)
token_tail Number text (inr signed) = ap (λ (t : List ℕ). list_all is_inner (drop 1 t)) signed.text_is ∙ unsigned_is_inner signed.rest signed.holds
token_tail Op text token = operator_tail text token

-- a token has a byte
token_some : (kind : Kind) (text : List ℕ) → IsToken kind text → 0 < length text
token_some Left text token = omega (arith, ap length token)
token_some Right text token = omega (arith, ap length token)
token_some Name [] token = cc
token_some Name (b ∷ bs) token = omega arith
token_some Variable text token = omega (arith, ap length token.text_is)
token_some Keyword text token = omega (arith, ap length token.text_is)
token_some Colon text token = omega (arith, ap length token)
token_some Number [] (inl (inl digits)) = cc
token_some Number (b ∷ bs) (inl (inl digits)) = omega arith
token_some Number text (inl (inr decimal)) = omega (arith, ap length decimal.text_is, length-append decimal.whole (46 ∷ decimal.fraction))
token_some Number text (inr signed) = omega (arith, ap length signed.text_is)
token_some Op [] token = cc
token_some Op (b ∷ bs) token = omega arith

-- a token does not go on into what separates
token_within : (kind : Kind) (text : List ℕ) (s : ℕ) (rest : List ℕ) (n : ℕ) → 0 < length text → is_separator s ≡ true → n ≤ length (text ++ s ∷ rest) → IsToken kind (take n (text ++ s ∷ rest)) → length text < n → ⊥
token_within kind text s rest n some separates range token longer =
    let all : List ℕ = text ++ s ∷ rest in
    let one_more : 1 + (length text - 1) ≡ length text = omega arith in
    let within : length text - 1 < length (drop 1 (take n all)) = omega (arith, length-drop 1 (take n all), length-take-le n all range) in
    let inner = AllPass-from_list_all is_inner (drop 1 (take n all)) (token_tail kind (take n all) token) (length text - 1) 0 within in
    let byte : get_or (drop 1 (take n all)) (length text - 1) 0 ≡ s =
    get_or-drop 1 (take n all) (length text - 1) 0 ∙ ap (λ i. get_or (take n all) i 0) one_more ∙ get_or-take n all (length text) 0 longer ∙ get_or_at text s rest 0 (length text) refl in
    let no : not (is_separator s) ≡ true = subst (λ b. is_inner b ≡ true) byte inner in
    let yes : not (is_separator s) ≡ false = ap not separates in
    let clash : true ≡ false = sym no ∙ yes in
    cc

-- the kind and the length of what is found
abbrev kind_in : Option (Kind × ℕ) → Kind
kind_in None = Left
kind_in (Some token) = token.0

abbrev length_in : Option (Kind × ℕ) → ℕ
length_in None = 0
length_in (Some token) = token.1

-- what begins with a letter begins with a name's bytes
name_run_some : (bs : List ℕ) → begins_with_letter bs ≡ true → 0 < prefix_len is_name_byte bs
name_run_some [] letter = cc
name_run_some (b ∷ bs) letter = rw (is_letter-name_byte b letter) (omega arith)

-- what begins with a digit begins with a number
number_some : (bs : List ℕ) → begins_with_digit bs ≡ true → 0 < number_length bs
number_some [] digit = cc
number_some (b ∷ bs) digit = omega (arith, unsigned_covers (b ∷ []) bs (inl (rw digit refl)))

-- what is taken from a colon on, if it is no longer
colon_kind : (rest : List ℕ) (letter : Bool) → begins_with_letter rest ≡ letter → length_in (cond letter (Some (Keyword, suc (prefix_len is_name_byte rest))) (Some (Colon, 1))) ≡ 1 → kind_in (cond letter (Some (Keyword, suc (prefix_len is_name_byte rest))) (Some (Colon, 1))) ≡ Colon
colon_kind rest true e size = absurd (omega (arith, name_run_some rest e))
colon_kind rest false e size = refl

-- what is taken from a minus on, if it is no longer
minus_kind : (rest : List ℕ) (digit : Bool) → begins_with_digit rest ≡ digit → length_in (cond digit (Some (Number, suc (number_length rest))) (Some (Op, 1))) ≡ 1 → kind_in (cond digit (Some (Number, suc (number_length rest))) (Some (Op, 1))) ≡ Op
minus_kind rest true e size = absurd (omega (arith, number_some rest e))
minus_kind rest false e size = refl

-- what is taken from '<' or '>' on
order_kind : (c : Bool) → kind_in (cond c (Some (Op, 2)) (Some (Op, 1))) ≡ Op
order_kind true = refl
order_kind false = refl

-- the kind that is taken is that of a token as long
abbrev KindIs : Kind → List ℕ → List ℕ → Type 0
KindIs kind text rest = length_in (first_token (text ++ rest)) ≡ length text → kind_in (first_token (text ++ rest)) ≡ kind

one_kind : (b : ℕ) (rest : List ℕ) → is_operator (b ∷ []) ≡ true → KindIs Op (b ∷ []) rest
one_kind b rest operator =
    let F : ℕ → Type 0 = λ n. KindIs Op (n ∷ []) rest in
    let at : (v : ℕ) → F v → b == v ≡ true → F b = λ v x e. subst F (sym (eqb-true b v e)) x in
    let order : Bool = b == 60 || b == 62 in
    let upto_61 : Bool = order || b == 61 in
    let upto_43 : Bool = upto_61 || b == 43 in
    let upto_42 : Bool = upto_43 || b == 42 in
    let upto_47 : Bool = upto_42 || b == 47 in
    let is_order : order ≡ true → F b = λ e. ⊎_elim (at 60 (λ size. order_kind (begins_with_equals rest))) (at 62 (λ size. order_kind (begins_with_equals rest))) (or_either (b == 60) (b == 62) e) in
    let is_61 : upto_61 ≡ true → F b = λ e. ⊎_elim is_order (at 61 (λ size. refl)) (or_either order (b == 61) e) in
    let is_43 : upto_43 ≡ true → F b = λ e. ⊎_elim is_61 (at 43 (λ size. refl)) (or_either upto_61 (b == 43) e) in
    let is_42 : upto_42 ≡ true → F b = λ e. ⊎_elim is_43 (at 42 (λ size. refl)) (or_either upto_43 (b == 42) e) in
    let is_47 : upto_47 ≡ true → F b = λ e. ⊎_elim is_42 (at 47 (λ size. refl)) (or_either upto_42 (b == 47) e) in
    ⊎_elim is_47 (at 45 (minus_kind rest (begins_with_digit rest) refl)) (or_either upto_47 (b == 45) operator)

two_kind : (b c : ℕ) (rest : List ℕ) → is_operator (b ∷ c ∷ []) ≡ true → KindIs Op (b ∷ c ∷ []) rest
two_kind b c rest operator =
    let F : ℕ → Type 0 = λ n. KindIs Op (n ∷ c ∷ []) rest in
    let order : Bool = b == 60 || b == 62 in
    let at : (v : ℕ) → F v → b == v ≡ true → F b = λ v x e. subst F (sym (eqb-true b v e)) x in
    ⊎_elim (at 60 (λ size. order_kind (c == 61))) (at 62 (λ size. order_kind (c == 61))) (or_either (b == 60) (b == 62) (and_first order (c == 61) operator))

op_kind : (text rest : List ℕ) → is_operator text ≡ true → KindIs Op text rest
op_kind [] rest operator = cc
op_kind (b ∷ []) rest operator = one_kind b rest operator
op_kind (b ∷ c ∷ []) rest operator = two_kind b c rest operator
op_kind (b ∷ c ∷ d ∷ bs) rest operator = cc

name_kind : (text rest : List ℕ) → is_name text ≡ true → kind_in (first_token (text ++ rest)) ≡ Name
name_kind [] rest named = cc
name_kind (b ∷ bs) rest named = rw (and_first (is_letter b) (list_all is_name_byte bs) named) refl

variable_kind : (name rest : List ℕ) → is_name name ≡ true → kind_in (first_token (63 ∷ (name ++ rest))) ≡ Variable
variable_kind name rest named = rw (name_begins name rest named) refl

keyword_kind : (name rest : List ℕ) → is_name name ≡ true → kind_in (first_token (58 ∷ (name ++ rest))) ≡ Keyword
keyword_kind name rest named = rw (name_begins name rest named) refl

signed_kind : (text rest : List ℕ) → IsUnsigned text → kind_in (first_token (45 ∷ (text ++ rest))) ≡ Number
signed_kind text rest unsigned = rw (unsigned_covers text rest unsigned).0 refl

token_kind : (kind : Kind) (text rest : List ℕ) → IsToken kind text → KindIs kind text rest
token_kind Left text rest token = subst (λ (t : List ℕ). KindIs Left t rest) (sym token) (λ size. refl)
token_kind Right text rest token = subst (λ (t : List ℕ). KindIs Right t rest) (sym token) (λ size. refl)
token_kind Name text rest token = λ size. name_kind text rest token
token_kind Variable text rest token = subst (λ (t : List ℕ). KindIs Variable t rest) (sym token.text_is) (λ size. variable_kind token.rest rest token.holds)
token_kind Keyword text rest token = subst (λ (t : List ℕ). KindIs Keyword t rest) (sym token.text_is) (λ size. keyword_kind token.rest rest token.holds)
token_kind Colon text rest token = subst (λ (t : List ℕ). KindIs Colon t rest) (sym token) (colon_kind rest (begins_with_letter rest) refl)
token_kind Number text rest (inl unsigned) = λ size. ap kind_in (first_token-digit (text ++ rest) (unsigned_covers text rest unsigned).0)
token_kind Number text rest (inr signed) = subst (λ (t : List ℕ). KindIs Number t rest) (sym signed.text_is) (λ size. signed_kind signed.rest rest signed.holds)
token_kind Op text rest token = op_kind text rest token

-- no more is taken where something separates
taken_within : (kind : Kind) (text rest : List ℕ) (n : ℕ) → 0 < length text → Separates rest → IsLongestToken kind n (text ++ rest) → n ≤ length text
taken_within kind text [] n some separates longest = omega (arith, longest.in_range, length-append text [])
taken_within kind text (s ∷ rest) n some separates longest =
    ⊎_elim (λ longer. absurd (token_within kind text s rest n some separates longest.in_range longest.is_token longer)) (λ within. within) (order (length text) n)

-- what is found before what separates
found_alone : (kind : Kind) (text rest : List ℕ) (found : Option (Kind × ℕ)) → IsToken kind text → Separates rest → first_token (text ++ rest) ≡ found → found ≡ Some (kind, length text)
found_alone kind text rest None token separates e =
    absurd (subst (Reaches (length text)) e (token_reaches kind text rest token))
found_alone kind text rest (Some found) token separates e =
    let reaches : length text ≤ found.1 = subst (Reaches (length text)) e (token_reaches kind text rest token) in
    let longest : IsLongestToken found.0 found.1 (text ++ rest) = subst (TakesLongest (text ++ rest)) e (first_token-longest (text ++ rest)) in
    let within = taken_within found.0 text rest found.1 (token_some kind text token) separates longest in
    let size : found.1 ≡ length text = omega arith in
    let kind_is : found.0 ≡ kind = sym (ap kind_in e) ∙ token_kind kind text rest token (ap length_in e ∙ size) in
    λ i. Some (kind_is i, size i)

-- a token that something separates from the rest is taken
pub first_token-alone : (kind : Kind) (text rest : List ℕ) → IsToken kind text → Separates rest → first_token (text ++ rest) ≡ Some (kind, length text)
first_token-alone kind text rest token separates = found_alone kind text rest (first_token (text ++ rest)) token separates refl

-- at a blank no token begins
blank_no_token : (b : ℕ) (bs : List ℕ) → is_blank b ≡ true → first_token (b ∷ bs) ≡ None
blank_no_token b bs blank =
    let F : ℕ → Type 0 = λ n. first_token (n ∷ bs) ≡ None in
    let at : (v : ℕ) → F v → b == v ≡ true → F b = λ v x e. subst F (sym (eqb-true b v e)) x in
    let two : Bool = b == 32 || b == 9 in
    let three : Bool = two || b == 13 in
    let is_two : two ≡ true → F b = λ e. ⊎_elim (at 32 refl) (at 9 refl) (or_either (b == 32) (b == 9) e) in
    let is_three : three ≡ true → F b = λ e. ⊎_elim is_two (at 13 refl) (or_either two (b == 13) e) in
    ⊎_elim is_three (at 10 refl) (or_either three (b == 10) blank)

-- nor where a comment begins
comment_no_token : (b : ℕ) (bs : List ℕ) → b == 59 ≡ true → first_token (b ∷ bs) ≡ None
comment_no_token b bs comment = subst (λ n. first_token (n ∷ bs) ≡ None) (sym (eqb-true b 59 comment)) refl

-- no blanks are where a token begins
no_blanks_by : (b : ℕ) (bs : List ℕ) (found : Kind × ℕ) (comment blank : Bool) (x y : ℕ) → b == 59 ≡ comment → is_blank b ≡ blank → first_token (b ∷ bs) ≡ Some found → cond comment x (cond blank y 0) ≡ 0
no_blanks_by b bs found true blank x y e f token = let none = comment_no_token b bs e in cc
no_blanks_by b bs found false true x y e f token = let none = blank_no_token b bs f in cc
no_blanks_by b bs found false false x y e f token = refl

no_blanks : (bs : List ℕ) (found : Kind × ℕ) → first_token bs ≡ Some found → blank_length bs ≡ 0
no_blanks [] found token = refl
no_blanks (b ∷ bs) found token = no_blanks_by b bs found (b == 59) (is_blank b) (suc (blanks_from true bs)) (suc (blanks_from false bs)) refl refl token

-- what comes next where a token is taken
next_from-token : (bs : List ℕ) (kind : Kind) (n : ℕ) → first_token bs ≡ Some (kind, n) → next_from bs 0 ≡ taken (record { kind = kind; from = 0; to = n })
next_from-token [] kind n token = cc
next_from-token (b ∷ bs) kind n token =
    let start : 0 + blank_length (b ∷ bs) ≡ 0 = omega (arith, no_blanks (b ∷ bs) (kind, n) token) in
    let to : 0 + n ≡ n = omega arith in
    ap (λ i. begun_at i (drop i (b ∷ bs))) start ∙ ap (taken_at 0) token ∙ (λ i. taken (record { kind = kind; from = 0; to = to i }))

-- the pieces of a token and of what follows it, where something separates them
pub pieces-token : (kind : Kind) (text rest : List ℕ) → IsToken kind text → Separates rest → pieces (text ++ rest) ≡ word (record { kind = kind; text = lower text }) ∷ pieces rest
pieces-token kind text rest token separates =
    let all : List ℕ = text ++ rest in
    let cut : take (length text - 0) all ≡ text = ap (λ n. take n all) (omega arith) ∙ take_at text rest (length text) refl in
    pieces-step all ∙ ap (λ (next : Next). piece_then all next (λ n. pieces (drop n all))) (next_from-token all kind (length text) (first_token-alone kind text rest token separates))
    ∙ λ i. word (record { kind = kind; text = lower (cut i) }) ∷ pieces (drop_at text rest (length text) refl i)

-- a leading blank adds no piece
blank_first : (b : ℕ) (bs : List ℕ) → blank_length (b ∷ bs) ≡ suc (blank_length bs) → pieces (b ∷ bs) ≡ pieces bs
blank_first b bs e =
    let all : List ℕ = b ∷ bs in
    let same : 0 + blank_length all ≡ 1 + blank_length bs = omega arith in
    let next : next_from all 0 ≡ next_from all 1 = ap (λ i. begun_at i (drop i all)) same in
    ap pieces_of (items_from-step all 0 (omega arith) ∙ ap (λ (n : Next). item_then all n (items_from all)) next ∙ sym (items_from-step all 1 (omega arith)))
    ∙ pieces_from all 1

pub pieces-blank : (b : ℕ) (bs : List ℕ) → is_blank b ≡ true → pieces (b ∷ bs) ≡ pieces bs
pieces-blank b bs blank =
    let F : ℕ → Type 0 = λ n. pieces (n ∷ bs) ≡ pieces bs in
    let at : (v : ℕ) → F v → b == v ≡ true → F b = λ v x e. subst F (sym (eqb-true b v e)) x in
    let two : Bool = b == 32 || b == 9 in
    let three : Bool = two || b == 13 in
    let is_two : two ≡ true → F b = λ e. ⊎_elim (at 32 (blank_first 32 bs refl)) (at 9 (blank_first 9 bs refl)) (or_either (b == 32) (b == 9) e) in
    let is_three : three ≡ true → F b = λ e. ⊎_elim is_two (at 13 (blank_first 13 bs refl)) (or_either two (b == 13) e) in
    ⊎_elim is_three (at 10 (blank_first 10 bs refl)) (or_either three (b == 10) blank)

-- a text of no bytes has no pieces
pub pieces-nil : pieces [] ≡ []
pieces-nil = pieces-step []
