-- The items from an offset on are the next one and those after it.
use Rattle.std.proofs.Common.{◌≡◌, ℕ, zero, suc, ◌+◌, ◌-◌, ◌<◌, ◌≤◌, Bool, true, false, not, cond, List, [], ◌∷◌, length, drop, Option, None, Some, refl, sym, ◌∙◌, ap, arith, length-drop}
use Rattle.std.specs.Prelude.{◌==◌, ◌&&◌, IfSome}
use Rattle.std.specs.List.{prefix_len}
use Rattle.std.proofs.lemmas.List.{drop_all, drop-drop}
use Rattle.std.proofs.lemmas.List.Sums.{prefix_len-le-length}
use Rattle.np_lex.specs.declared.token.Kind.{Kind}
use Rattle.np_lex.specs.declared.token.Kind.TheVariants.{Left, Right, Name, Variable, Keyword, Colon, Number, Op}
use Rattle.np_lex.specs.Blanks.{is_line_feed, is_blank, blanks_from, blank_length}
use Rattle.np_lex.specs.FirstToken.{is_digit, is_name_byte, begins_with_letter, begins_with_digit, begins_with_equals, point_length, number_length, mark_token, first_token}
use Rattle.np_lex.specs.Tokens.{Span, Next, taken, bad_at, ended, Item, items_within, items_from, next_from, begun_at, taken_at, item_then}

-- a choice is within a bound where both sides are
cond-le : {m : ℕ} (c : Bool) (x y : ℕ) → x ≤ m → y ≤ m → cond c x y ≤ m
cond-le true x y low high = low
cond-le false x y low high = high

-- there are no more blanks than bytes
pub blanks_from-le : (in_comment : Bool) (bs : List ℕ) → blanks_from in_comment bs ≤ length bs
blanks_from-le in_comment [] = omega arith
blanks_from-le true (b ∷ bs) = omega (arith, blanks_from-le (not (is_line_feed b)) bs)
blanks_from-le false (b ∷ bs) =
    cond-le (b == 59) (suc (blanks_from true bs)) (cond (is_blank b) (suc (blanks_from false bs)) 0) (omega (arith, blanks_from-le true bs))
    (cond-le (is_blank b) (suc (blanks_from false bs)) 0 (omega (arith, blanks_from-le false bs)) (omega arith))

-- the token takes a byte at least, and no more than m
pub record TakesUpTo (m : ℕ) (found : Option (Kind × ℕ)) : Type 0 where
  pub range : IfSome found (λ token. (0 < token.1) × (token.1 ≤ m))

-- a choice takes no more than m where each side does
TakesUpTo-cond : (m : ℕ) (c : Bool) (x y : Option (Kind × ℕ)) → (c ≡ true → TakesUpTo m x) → TakesUpTo m y → TakesUpTo m (cond c x y)
TakesUpTo-cond m true x y first second = first refl
TakesUpTo-cond m false x y first second = second

-- no token takes none
takes_none : (m : ℕ) → TakesUpTo m None
takes_none m = record { range = tt }

-- a token of n bytes
takes_some : (m : ℕ) (kind : Kind) (n : ℕ) → 0 < n → n ≤ m → TakesUpTo m (Some (kind, n))
takes_some m kind n some within = record { range = (some, within) }

-- a point and digits are no longer than the bytes
point_length-le : (bs : List ℕ) → point_length bs ≤ length bs
point_length-le [] = omega arith
point_length-le (b ∷ bs) =
    cond-le (b == 46 && begins_with_digit bs) (suc (prefix_len is_digit bs)) 0 (omega (arith, prefix_len-le-length is_digit bs)) (omega arith)

-- a number is no longer than the bytes
pub number_length-le : (bs : List ℕ) → number_length bs ≤ length bs
number_length-le bs =
    omega (arith, point_length-le (drop (prefix_len is_digit bs) bs), length-drop (prefix_len is_digit bs) bs, prefix_len-le-length is_digit bs)

-- what begins with a digit has a digit
prefix_len-digit : (b : ℕ) (bs : List ℕ) → is_digit b ≡ true → 0 < prefix_len is_digit (b ∷ bs)
prefix_len-digit b bs digit = rw digit (omega arith)

-- what begins with '=' has a byte
begins_with_equals-length : (bs : List ℕ) → begins_with_equals bs ≡ true → 0 < length bs
begins_with_equals-length [] e = cc
begins_with_equals-length (b ∷ bs) e = omega arith

-- a token that begins with a mark takes a byte at least, and no more than there are
mark_token-range : (b : ℕ) (bs : List ℕ) → TakesUpTo (suc (length bs)) (mark_token b bs)
mark_token-range b bs =
    let m : ℕ = suc (length bs) in
    let name : suc (prefix_len is_name_byte bs) ≤ m = omega (arith, prefix_len-le-length is_name_byte bs) in
    let number : suc (number_length bs) ≤ m = omega (arith, number_length-le bs) in
    let one : (kind : Kind) → TakesUpTo m (Some (kind, 1)) = λ kind. takes_some m kind 1 (omega arith) (omega arith) in
    let two : begins_with_equals bs ≡ true → TakesUpTo m (Some (Op, 2)) = λ e. takes_some m Op 2 (omega arith) (omega (arith, begins_with_equals-length bs e)) in
    let named : (kind : Kind) → TakesUpTo m (Some (kind, suc (prefix_len is_name_byte bs))) = λ kind. takes_some m kind (suc (prefix_len is_name_byte bs)) (omega arith) name in
    let signed : TakesUpTo m (Some (Number, suc (number_length bs))) = takes_some m Number (suc (number_length bs)) (omega arith) number in
    TakesUpTo-cond _ _ _ _ (λ _. one Left)
    (TakesUpTo-cond _ _ _ _ (λ _. one Right)
    (TakesUpTo-cond _ _ _ _ (λ _. TakesUpTo-cond _ (begins_with_letter bs) _ _ (λ _. named Variable) (takes_none m))
    (TakesUpTo-cond _ _ _ _ (λ _. TakesUpTo-cond _ (begins_with_letter bs) _ _ (λ _. named Keyword) (one Colon))
    (TakesUpTo-cond _ _ _ _ (λ _. TakesUpTo-cond _ (begins_with_digit bs) _ _ (λ _. signed) (one Op))
    (TakesUpTo-cond _ _ _ _ (λ _. TakesUpTo-cond _ (begins_with_equals bs) _ _ two (one Op))
    (TakesUpTo-cond _ _ _ _ (λ _. one Op) (takes_none m)))))))

-- the first token takes a byte at least, and no more than there are
pub first_token-range : (bs : List ℕ) → TakesUpTo (length bs) (first_token bs)
first_token-range [] = takes_none 0
first_token-range (b ∷ bs) =
    let m : ℕ = suc (length bs) in
    let name : suc (prefix_len is_name_byte bs) ≤ m = omega (arith, prefix_len-le-length is_name_byte bs) in
    let named : TakesUpTo m (Some (Name, suc (prefix_len is_name_byte bs))) = takes_some m Name (suc (prefix_len is_name_byte bs)) (omega arith) name in
    let number : is_digit b ≡ true → TakesUpTo m (Some (Number, number_length (b ∷ bs))) = λ digit. takes_some m Number (number_length (b ∷ bs)) (omega (arith, prefix_len-digit b bs digit)) (number_length-le (b ∷ bs)) in
    TakesUpTo-cond m _ _ _ (λ _. named) (TakesUpTo-cond m _ _ _ number (mark_token-range b bs))

-- the offset after what comes next
abbrev after_of : Next → ℕ
after_of (taken span) = span.to
after_of (bad_at offset) = offset
after_of ended = 0

-- a token that is taken ends after its begin, and within the bytes
taken_at-range : (start m : ℕ) (found : Option (Kind × ℕ)) (span : Span) → TakesUpTo m found → taken_at start found ≡ taken span → (start < span.to) × (span.to ≤ start + m)
taken_at-range start m None span range e = cc
taken_at-range start m (Some token) span range e = (omega (arith, ap after_of e, range.range.0), omega (arith, ap after_of e, range.range.1))

-- the same of what begins at an offset
begun_at-range : (start : ℕ) (rest : List ℕ) (span : Span) → begun_at start rest ≡ taken span → (start < span.to) × (span.to ≤ start + length rest)
begun_at-range start [] span e = cc
begun_at-range start (b ∷ bs) span e = taken_at-range start (length (b ∷ bs)) (first_token (b ∷ bs)) span (first_token-range (b ∷ bs)) e

-- the same of what comes next
pub next_from-range : (text : List ℕ) (offset : ℕ) (span : Span) → offset ≤ length text → next_from text offset ≡ taken span → (offset < span.to) × (span.to ≤ length text)
next_from-range text offset span within e =
    let start : ℕ = offset + blank_length (drop offset text) in
    let blanks : blank_length (drop offset text) ≤ length text - offset = omega (arith, blanks_from-le false (drop offset text), length-drop offset text) in
    let range = begun_at-range start (drop start text) span e in
    (omega (arith, range.0), omega (arith, range.1, length-drop start text))

-- after the last byte comes the end
next_from-end : (text : List ℕ) (offset : ℕ) → length text ≤ offset → next_from text offset ≡ ended
next_from-end text offset past =
    let start : ℕ = offset + blank_length (drop offset text) in
    ap (begun_at start) (drop_all start text (omega arith))

-- the items are the same where those after what comes next are
item_then-same : (text : List ℕ) (next : Next) (f g : ℕ → List Item) → ((span : Span) → next ≡ taken span → f span.to ≡ g span.to) → item_then text next f ≡ item_then text next g
item_then-same text (taken span) f g same = rw (same span refl) refl
item_then-same text (bad_at offset) f g same = refl
item_then-same text ended f g same = refl

-- as many tokens as there are bytes are enough
items_within-same : (m n : ℕ) (text : List ℕ) (offset : ℕ) → offset ≤ length text → length text - offset ≤ m → length text - offset ≤ n → items_within m text offset ≡ items_within n text offset
unfolding items_within
items_within-same zero zero text offset within first second = refl
items_within-same zero (suc n) text offset within first second = rw (next_from-end text offset (omega arith)) refl
items_within-same (suc m) zero text offset within first second = rw (next_from-end text offset (omega arith)) refl
items_within-same (suc m) (suc n) text offset within first second =
    item_then-same text (next_from text offset) _ _
    (λ span e.
    let range = next_from-range text offset span within e in
    items_within-same m n text span.to range.1 (omega (arith, range.0)) (omega (arith, range.0)))

-- the items from an offset on are the next and those after it
pub items_from-step : (text : List ℕ) (offset : ℕ) → offset ≤ length text → items_from text offset ≡ item_then text (next_from text offset) (items_from text)
unfolding items_from items_within
items_from-step text offset within =
    items_within-same (length text - offset) (suc (length text)) text offset within (omega arith) (omega arith)
    ∙ item_then-same text (next_from text offset) (items_within (length text) text) (items_from text)
    (λ span e.
    let range = next_from-range text offset span within e in
    items_within-same (length text) (length text - span.to) text span.to range.1 (omega arith) (omega arith))

-- after the leading blanks no blank begins
blanks_end_by : (b : ℕ) (bs : List ℕ) (comment blank : Bool) → b == 59 ≡ comment → is_blank b ≡ blank → blank_length (drop (blanks_from true bs) bs) ≡ 0 → blank_length (drop (blanks_from false bs) bs) ≡ 0 → blank_length (drop (cond comment (suc (blanks_from true bs)) (cond blank (suc (blanks_from false bs)) 0)) (b ∷ bs)) ≡ 0
blanks_end_by b bs true blank first second in_comment outside = in_comment
blanks_end_by b bs false true first second in_comment outside = outside
blanks_end_by b bs false false first second in_comment outside = rw (first, second) refl

blanks_end : (in_comment : Bool) (bs : List ℕ) → blank_length (drop (blanks_from in_comment bs) bs) ≡ 0
blanks_end in_comment [] = refl
blanks_end true (b ∷ bs) = blanks_end (not (is_line_feed b)) bs
blanks_end false (b ∷ bs) = blanks_end_by b bs (b == 59) (is_blank b) refl refl (blanks_end true bs) (blanks_end false bs)

-- the offset after the blanks that begin at one
abbrev pub after_blanks : List ℕ → ℕ → ℕ
after_blanks text n = n + blank_length (drop n text)

pub after_blanks-le : (text : List ℕ) (n : ℕ) → n ≤ length text → after_blanks text n ≤ length text
after_blanks-le text n within = omega (arith, blanks_from-le false (drop n text), length-drop n text)

pub no_blanks_ahead : (text : List ℕ) → blank_length (drop (blank_length text) text) ≡ 0
no_blanks_ahead text = blanks_end false text

pub no_blanks_after : (text : List ℕ) (n : ℕ) → blank_length (drop (after_blanks text n) text) ≡ 0
no_blanks_after text n = ap blank_length (sym (drop-drop (blank_length (drop n text)) n text)) ∙ blanks_end false (drop n text)

-- what comes next where no blank begins
pub next_from-here : (text : List ℕ) (n : ℕ) → blank_length (drop n text) ≡ 0 → next_from text n ≡ begun_at n (drop n text)
next_from-here text n none =
    let here : n + blank_length (drop n text) ≡ n = omega (arith, none) in
    ap (λ (m : ℕ). begun_at m (drop m text)) here

-- leading blanks change no items
pub items_from-blanks : (text : List ℕ) (n : ℕ) → n ≤ length text → items_from text (after_blanks text n) ≡ items_from text n
items_from-blanks text n within =
    items_from-step text (after_blanks text n) (after_blanks-le text n within)
    ∙ ap (λ (next : Next). item_then text next (items_from text)) (next_from-here text (after_blanks text n) (no_blanks_after text n))
    ∙ sym (items_from-step text n within)

pub items_from-start : (text : List ℕ) → items_from text (blank_length text) ≡ items_from text 0
items_from-start text =
    let here : blank_length text ≡ after_blanks text 0 = omega arith in
    ap (items_from text) here ∙ items_from-blanks text 0 (omega arith)
