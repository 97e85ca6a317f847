-- What one reading does, from what begins at the lexer's offset.
use Rattle.std.proofs.Common.{◌≡◌, ℕ, ◌+◌, ◌-◌, ◌<◌, ◌≤◌, List, [], ◌∷◌, length, drop, take, Option, None, Some, refl, sym, ◌∙◌, ap, subst, arith, length-drop}
use Rattle.std.proofs.lemmas.List.{take_rest}
use Rattle.np_lex.specs.declared.reading.Lexer.{Lexer}
use Rattle.np_lex.specs.declared.token.Kind.{Kind}
use Rattle.np_lex.specs.declared.token.Place.{Place}
use Rattle.np_lex.specs.declared.token.Token.{Token}
use Rattle.np_lex.specs.declared.token.BadByte.{BadByte}
use Rattle.np_lex.specs.FirstToken.{first_token}
use Rattle.np_lex.specs.LongestToken.{TakesLongest, IsLongestToken, BeginsWithNoToken}
use Rattle.np_lex.specs.Tokens.{Next, taken, bad_at, ended, place_of, begun_at, taken_at, span_of, lexeme_of, word, bad, Item, item_at, item_then, items_from, first_place}
use Rattle.np_lex.specs.Lexers.{bytes_of, items_left, GivesToken, FindsEnd, FindsBadByte}
use Rattle.np_lex.proofs.Streams.{after_blanks, next_from-here, items_from-blanks, items_from-step, first_token-range, TakesUpTo}
use Rattle.np_lex.proofs.LongestLaw.{first_token-longest, token_is_ascii}

-- what begins at the lexer's offset
abbrev pub rest_of : Lexer → List ℕ
rest_of lexer = drop lexer.offset lexer.bytes.now

-- the same, as the code cuts it off
pub rest_is : (lexer : Lexer) → take (length lexer.bytes.now - lexer.offset) (drop lexer.offset lexer.bytes.now) ≡ rest_of lexer
rest_is lexer = take_rest lexer.bytes.now lexer.offset

-- the end is begun where nothing is left
begun_at-nil : (start : ℕ) (rest : List ℕ) → length rest ≡ 0 → begun_at start rest ≡ ended
begun_at-nil start [] e = refl
begun_at-nil start (b ∷ bs) e = absurd (omega arith)

-- a token is begun, or its byte is bad, where something is left
begun_at-some : (start : ℕ) (rest : List ℕ) → 0 < length rest → begun_at start rest ≡ taken_at start (first_token rest)
begun_at-some start [] some = absurd (omega arith)
begun_at-some start (b ∷ bs) some = refl

-- the items left, by what is next
pub items_left-next : (lexer : Lexer) (next : Next) → begun_at lexer.offset (rest_of lexer) ≡ next → items_left lexer ≡ item_then lexer.bytes.now next (items_from lexer.bytes.now)
unfolding items_left
items_left-next lexer next e =
    items_from-step lexer.bytes.now lexer.offset lexer.in_range
    ∙ ap (λ (n : Next). item_then lexer.bytes.now n (items_from lexer.bytes.now)) (next_from-here lexer.bytes.now lexer.offset lexer.no_blank_next ∙ e)

-- nothing is left but the end
pub finds_end : (lexer : Lexer) → length (rest_of lexer) ≡ 0 → FindsEnd lexer lexer
unfolding bytes_of
finds_end lexer nothing = record { items = items_left-next lexer ended (begun_at-nil lexer.offset (rest_of lexer) nothing); stays = refl }

-- no token is begun, though something is left
pub finds_bad_byte : (lexer : Lexer) (error : BadByte) → 0 < length (rest_of lexer) → first_token (rest_of lexer) ≡ None → error.place ≡ place_of lexer.bytes.now lexer.offset → FindsBadByte lexer lexer error
unfolding bytes_of
finds_bad_byte lexer error some none place =
    let start : lexer.offset ≡ error.place.offset = sym (ap (λ (p : Place). p.offset) place) in
    record {
      items = items_left-next lexer (bad_at lexer.offset) (begun_at-some lexer.offset (rest_of lexer) some ∙ ap (taken_at lexer.offset) none)
          ∙ ap (λ (p : Place). (record { piece = bad; place = p }) ∷ []) (sym place);
      in_range = omega (arith, some, length-drop lexer.offset lexer.bytes.now);
      place = place ∙ ap (place_of lexer.bytes.now) start;
      no_token = subst (λ n. BeginsWithNoToken (drop n lexer.bytes.now)) start (subst (TakesLongest (rest_of lexer)) none (first_token-longest (rest_of lexer)));
      stays = refl;
    }

-- the token that is taken at the start
span_is : (old : Lexer) (token : Token) (n : ℕ) → token.from ≡ old.offset → token.to ≡ token.from + n → taken_at old.offset (Some (token.kind, n)) ≡ taken (span_of token)
span_is old token n from to =
    let after : token.to ≡ old.offset + n = omega arith in
    λ i. taken (record { kind = token.kind; from = (sym from) i; to = (sym after) i })

-- the items of the lexer after a token of the same text
items_left-after : (old new : Lexer) (to : ℕ) → to ≤ length old.bytes.now → new.bytes ≡ old.bytes → new.offset ≡ after_blanks old.bytes.now to → items_left new ≡ items_from old.bytes.now to
unfolding items_left
items_left-after old new to within bytes offset = (λ i. items_from (bytes i).now (offset i)) ∙ items_from-blanks old.bytes.now to within

-- the first token is the longest
longest_at : (old : Lexer) (token : Token) (n : ℕ) → first_token (rest_of old) ≡ Some (token.kind, n) → token.from ≡ old.offset → token.to ≡ token.from + n → IsLongestToken token.kind (token.to - token.from) (drop token.from old.bytes.now)
longest_at old token n first from to =
    let length_is : n ≡ token.to - token.from = omega arith in
    subst (λ m. IsLongestToken token.kind m (drop token.from old.bytes.now)) length_is
    (subst (λ start. IsLongestToken token.kind n (drop start old.bytes.now)) (sym from)
    (subst (TakesLongest (rest_of old)) first (first_token-longest (rest_of old))))

-- a token is begun
pub gives_token : (old new : Lexer) (token : Token) (n : ℕ) → first_token (rest_of old) ≡ Some (token.kind, n) → token.from ≡ old.offset → token.to ≡ token.from + n → new.bytes ≡ old.bytes → new.offset ≡ after_blanks old.bytes.now token.to → 0 < length (rest_of old) → token.place ≡ place_of old.bytes.now token.from → GivesToken old new token
unfolding bytes_of
gives_token old new token n first from to bytes offset some place =
    let range = (subst (TakesUpTo (length (rest_of old))) first (first_token-range (rest_of old))).range in
    let longest = longest_at old token n first from to in
    let reaches : token.to ≤ length old.bytes.now = omega (arith, range.1, length-drop old.offset old.bytes.now) in
    let first_item : Item = item_at old.bytes.now token.from (word (lexeme_of old.bytes.now (span_of token))) in
    let items : items_left old ≡ first_item ∷ items_left new =
    items_left-next old (taken (span_of token)) (begun_at-some old.offset (rest_of old) some ∙ ap (taken_at old.offset) first ∙ span_is old token n from to)
    ∙ ap (λ (more : List Item). first_item ∷ more) (sym (items_left-after old new token.to reaches bytes offset)) in
    record {
      items = items ∙ ap (λ (p : Place). (record { piece = word (lexeme_of old.bytes.now (span_of token)); place = p }) ∷ items_left new) (sym place);
      not_empty = omega (arith, range.0);
      in_range = reaches;
      place = place;
      ascii = token_is_ascii token.kind (take (token.to - token.from) (drop token.from old.bytes.now)) longest.is_token;
      longest = longest;
    }

-- ---- the place of the first item

first_place-then : (text : List ℕ) (start : ℕ) (found : Option (Kind × ℕ)) (later : ℕ → List Item) → first_place (item_then text (taken_at start found) later) ≡ Some (place_of text start)
first_place-then text start None later = refl
first_place-then text start (Some token) later = refl

first_place-begun : (text : List ℕ) (start : ℕ) (rest : List ℕ) (later : ℕ → List Item) → start ≤ length text → drop start text ≡ rest → first_place (item_then text (begun_at start rest) later) ≡ Some (place_of text start)
first_place-begun text start [] later within is =
    let here : length text ≡ start = omega (arith, length-drop start text, ap length is) in
    ap (λ (n : ℕ). Some (place_of text n)) here
first_place-begun text start (b ∷ bs) later within is = first_place-then text start (first_token (b ∷ bs)) later

-- what comes next is at the lexer's offset
pub first_place-left : (lexer : Lexer) (place : Place) → place ≡ place_of lexer.bytes.now lexer.offset → first_place (items_left lexer) ≡ Some place
first_place-left lexer place is =
    ap first_place (items_left-next lexer (begun_at lexer.offset (rest_of lexer)) refl)
    ∙ first_place-begun lexer.bytes.now lexer.offset (rest_of lexer) (items_from lexer.bytes.now) lexer.in_range refl
    ∙ ap (λ (p : Place). Some p) (sym is)
