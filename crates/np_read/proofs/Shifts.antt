-- The pieces from an offset on are those of the bytes there.
use Rattle.std.proofs.Common.{◌≡◌, ℕ, zero, suc, ◌+◌, ◌-◌, List, [], ◌∷◌, length, take, drop, Option, None, Some, refl, sym, ◌∙◌, ap, arith, length-drop}
use Rattle.std.specs.List.{slice_range}
use Rattle.std.proofs.lemmas.List.{drop-drop}
use Rattle.np_lex.specs.declared.token.Kind.{Kind}
use Rattle.np_lex.specs.Blanks.{blank_length}
use Rattle.np_lex.specs.FirstToken.{first_token}
use Rattle.np_lex.specs.Tokens.{Next, taken, bad_at, ended, Item, lower, lexeme_of, taken_at, begun_at, next_from, item_then, items_within, items_from}
use Rattle.np_lex.proofs.Streams.{items_from-step}
use Rattle.np_read.specs.Pieces.{Piece, word, bad, pieces_of, pieces}

-- what comes next, so many bytes later
abbrev later_by : ℕ → Next → Next
later_by n (taken span) = taken (record { kind = span.kind; from = n + span.from; to = n + span.to })
later_by n (bad_at offset) = bad_at (n + offset)
later_by n ended = ended

-- the piece of what comes next, and after a token what the function gives at the offset after it
abbrev pub piece_then : List ℕ → Next → (ℕ → List Piece) → List Piece
piece_then text (taken span) later = word (lexeme_of text span) ∷ later span.to
piece_then text (bad_at offset) later = bad ∷ []
piece_then text ended later = []

-- the pieces of what comes next and of what follows it
pub pieces_of-item_then : (text : List ℕ) (next : Next) (f : ℕ → List Item) → pieces_of (item_then text next f) ≡ piece_then text next (λ offset. pieces_of (f offset))
pieces_of-item_then text (taken span) f = refl
pieces_of-item_then text (bad_at offset) f = refl
pieces_of-item_then text ended f = refl

-- what begins later
taken_at-later : (n start : ℕ) (found : Option (Kind × ℕ)) → taken_at (n + start) found ≡ later_by n (taken_at start found)
taken_at-later n start None = refl
taken_at-later n start (Some token) =
    let same : n + start + token.1 ≡ n + (start + token.1) = omega arith in
    λ i. taken (record { kind = token.0; from = n + start; to = same i })

begun_at-later : (n start : ℕ) (rest : List ℕ) → begun_at (n + start) rest ≡ later_by n (begun_at start rest)
begun_at-later n start [] = refl
begun_at-later n start (b ∷ bs) = taken_at-later n start (first_token (b ∷ bs))

next_from-later : (text : List ℕ) (n offset : ℕ) → next_from text (n + offset) ≡ later_by n (next_from (drop n text) offset)
next_from-later text n offset =
    let blanks : ℕ = blank_length (drop offset (drop n text)) in
    let start : ℕ = offset + blanks in
    let same_blanks : blank_length (drop (n + offset) text) ≡ blanks = ap blank_length (sym (drop-drop offset n text)) in
    let same_start : n + offset + blank_length (drop (n + offset) text) ≡ n + start = omega arith in
    ap (λ i. begun_at i (drop i text)) same_start ∙ ap (begun_at (n + start)) (sym (drop-drop start n text)) ∙ begun_at-later n start (drop start (drop n text))

-- the bytes of a part are those of the part after the first bytes
slice_range-later : (text : List ℕ) (n from to : ℕ) → slice_range text (n + from) (n + to) ≡ slice_range (drop n text) from to
slice_range-later text n from to =
    let same : n + to - (n + from) ≡ to - from = omega arith in
    λ i. take (same i) ((sym (drop-drop from n text)) i)

-- the piece that comes later
piece_then-later : (text : List ℕ) (n : ℕ) (next : Next) (f g : ℕ → List Piece) → ((offset : ℕ) → f (n + offset) ≡ g offset) → piece_then text (later_by n next) f ≡ piece_then (drop n text) next g
piece_then-later text n (taken span) f g same =
    λ i. word (record { kind = span.kind; text = lower (slice_range-later text n span.from span.to i) }) ∷ same span.to i
piece_then-later text n (bad_at offset) f g same = refl
piece_then-later text n ended f g same = refl

-- the pieces that come later, where so many are enough
pieces-later : (most : ℕ) (text : List ℕ) (n offset : ℕ) → pieces_of (items_within most text (n + offset)) ≡ pieces_of (items_within most (drop n text) offset)
unfolding items_within
pieces-later zero text n offset = refl
pieces-later (suc most) text n offset =
    pieces_of-item_then text (next_from text (n + offset)) (items_within most text)
    ∙ ap (λ (next : Next). piece_then text next (λ after. pieces_of (items_within most text after))) (next_from-later text n offset)
    ∙ piece_then-later text n (next_from (drop n text) offset) (λ after. pieces_of (items_within most text after)) (λ after. pieces_of (items_within most (drop n text) after)) (pieces-later most text n)
    ∙ sym (pieces_of-item_then (drop n text) (next_from (drop n text) offset) (items_within most (drop n text)))

-- what comes next and then the same is the same
piece_then-same : (text : List ℕ) (next : Next) (f g : ℕ → List Piece) → ((n : ℕ) → f n ≡ g n) → piece_then text next f ≡ piece_then text next g
piece_then-same text (taken span) f g same = ap (λ rest. word (lexeme_of text span) ∷ rest) (same span.to)
piece_then-same text (bad_at offset) f g same = refl
piece_then-same text ended f g same = refl

-- the pieces from an offset on are those of the bytes there
pub pieces_from : (text : List ℕ) (n : ℕ) → pieces_of (items_from text n) ≡ pieces (drop n text)
unfolding items_from
pieces_from text n =
    let same : n + 0 ≡ n = omega arith in
    let most : length text - n ≡ length (drop n text) - 0 = omega (arith, length-drop n text) in
    ap (λ offset. pieces_of (items_within (length text - n) text offset)) (sym same)
    ∙ pieces-later (length text - n) text n 0
    ∙ ap (λ m. pieces_of (items_within m (drop n text) 0)) most

-- the pieces of a text are the next and those of what follows it
pub pieces-step : (text : List ℕ) → pieces text ≡ piece_then text (next_from text 0) (λ n. pieces (drop n text))
pieces-step text =
    ap pieces_of (items_from-step text 0 (omega arith))
    ∙ pieces_of-item_then text (next_from text 0) (items_from text)
    ∙ piece_then-same text (next_from text 0) (λ n. pieces_of (items_from text n)) (λ n. pieces (drop n text)) (pieces_from text)
