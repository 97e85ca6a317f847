-- Pieces and lexemes of a text say the same, and what a lexer does is told by its pieces.
use Rattle.std.proofs.Common.{◌≡◌, ℕ, List, [], ◌∷◌, map, Option, None, Some, refl, sym, ◌∙◌, ap}
use Rattle.std.specs.Prelude.{◌↔◌}
use Rattle.std.specs.Option.{option_map}
use Rattle.np_lex.specs.declared.reading.Lexer.{Lexer}
use Rattle.np_lex.specs.declared.token.Place.{Place}
use Rattle.np_lex.specs.declared.token.Token.{Token}
use Rattle.np_lex.specs.declared.token.BadByte.{BadByte}
use Rattle.np_lex.specs.Tokens.{Lexeme, Item, items_of, span_of, lexeme_of}
use Rattle.np_lex.specs.Tokens as text
use Rattle.np_lex.specs.Lexers.{bytes_of, items_left, GivesToken, FindsEnd, FindsBadByte, Takes, Leaves}
use Rattle.np_read.specs.Lexemes.{lexeme_before, lexemes_in, lexemes}
use Rattle.np_read.specs.Pieces.{Piece, word, bad, piece_before, pieces_of, pieces, pieces_left}

-- ---- pieces and lexemes

-- the lexemes among pieces, and whether there is no bad byte
abbrev words_of : List Piece → Option (List Lexeme)
words_of [] = Some []
words_of (word lexeme ∷ ps) = option_map (λ ls. lexeme ∷ ls) (words_of ps)
words_of (bad ∷ ps) = None

words_of-before : (piece : text.Piece) (ps : List Piece) (others : Option (List Lexeme)) → words_of ps ≡ others → words_of (piece_before piece ps) ≡ lexeme_before piece others
words_of-before (text.word lexeme) ps others e = ap (option_map (λ ls. lexeme ∷ ls)) e
words_of-before text.bad ps others e = refl
words_of-before text.end ps others e = refl

words_of-pieces : (items : List Item) → words_of (pieces_of items) ≡ lexemes_in items
words_of-pieces [] = refl
words_of-pieces (item ∷ items) = words_of-before item.piece (pieces_of items) (lexemes_in items) (words_of-pieces items)

words_of-words : (ls : List Lexeme) → words_of (map word ls) ≡ Some ls
words_of-words [] = refl
words_of-words (lexeme ∷ ls) = ap (option_map (λ more. lexeme ∷ more)) (words_of-words ls)

words_more : (lexeme : Lexeme) (ps : List Piece) (found : Option (List Lexeme)) (ls : List Lexeme) → ((more : List Lexeme) → found ≡ Some more → ps ≡ map word more) → option_map (λ more. lexeme ∷ more) found ≡ Some ls → word lexeme ∷ ps ≡ map word ls
words_more lexeme ps None ls back e = absurd cc
words_more lexeme ps (Some more) ls back e =
    let same : lexeme ∷ more ≡ ls = cc in
    ap (λ (rest : List Piece). word lexeme ∷ rest) (back more refl) ∙ ap (map word) same

words_of-back : (ps : List Piece) (ls : List Lexeme) → words_of ps ≡ Some ls → ps ≡ map word ls
words_of-back [] ls e = let same : [] ≡ ls = cc in ap (map word) same
words_of-back (word lexeme ∷ ps) ls e = words_more lexeme ps (words_of ps) ls (words_of-back ps) e
words_of-back (bad ∷ ps) ls e = absurd cc

-- a text has these lexemes exactly where they are its pieces
pub lexemes-pieces : (bytes : List ℕ) (ls : List Lexeme) → (lexemes bytes ≡ Some ls) ↔ (pieces bytes ≡ map word ls)
lexemes-pieces bytes ls = (
  λ e. words_of-back (pieces bytes) ls (words_of-pieces (items_of bytes) ∙ e),
  λ e. sym (words_of-pieces (items_of bytes)) ∙ ap words_of e ∙ words_of-words ls,
)

-- ---- what a lexer does

pub pieces_at_start : (lexer : Lexer) (bytes : List ℕ) → items_left lexer ≡ items_of bytes → pieces_left lexer ≡ pieces bytes
unfolding pieces_left
pieces_at_start lexer bytes e = ap pieces_of e

pub gives_piece : (old new : Lexer) (token : Token) → GivesToken old new token → pieces_left old ≡ word (lexeme_of (bytes_of old) (span_of token)) ∷ pieces_left new
unfolding pieces_left
gives_piece old new token gives = ap pieces_of gives.items

pub token_left : (old new : Lexer) (token : Token) → GivesToken old new token → pieces_left old ≡ [] → ⊥
token_left old new token gives e = let first = gives_piece old new token gives in absurd cc

pub no_piece_left : (old new : Lexer) → FindsEnd old new → pieces_left old ≡ []
unfolding pieces_left
no_piece_left old new finds = ap pieces_of finds.items

pub bad_piece_left : (old new : Lexer) (error : BadByte) → FindsBadByte old new error → pieces_left old ≡ bad ∷ []
unfolding pieces_left
bad_piece_left old new error finds = ap pieces_of finds.items

pub takes_piece : (old new : Lexer) (lexeme : Lexeme) → Takes old new lexeme → pieces_left old ≡ word lexeme ∷ pieces_left new
unfolding pieces_left
takes_piece old new lexeme takes = ap pieces_of takes.items

-- the first item is this lexeme
abbrev BeginsWith : Lexeme → List Item → Type 0
BeginsWith lexeme items = (place : Place) × (others : List Item) × (items ≡ (record { piece = text.word lexeme; place = place }) ∷ others)

begins_by : (lexeme : Lexeme) (others : List Piece) (piece : text.Piece) (place : Place) (items : List Item) → piece_before piece (pieces_of items) ≡ word lexeme ∷ others → BeginsWith lexeme ((record { piece = piece; place = place }) ∷ items)
begins_by lexeme others (text.word found) place items e =
    let same : found ≡ lexeme = cc in
    (place, items, ap (λ (l : Lexeme). (record { piece = text.word l; place = place }) ∷ items) same)
begins_by lexeme others text.bad place items e = absurd cc
begins_by lexeme others text.end place items e = absurd cc

begins_with : (lexeme : Lexeme) (others : List Piece) (items : List Item) → pieces_of items ≡ word lexeme ∷ others → BeginsWith lexeme items
begins_with lexeme others [] e = absurd cc
begins_with lexeme others (item ∷ items) e = begins_by lexeme others item.piece item.place items e

pub leaves_piece : (old new : Lexer) (P : Lexeme → Type 0) → Leaves old new P → (lexeme : Lexeme) (others : List Piece) → pieces_left old ≡ word lexeme ∷ others → P lexeme → ⊥
unfolding pieces_left
leaves_piece old new P leaves lexeme others e holds =
    let begins = begins_with lexeme others (items_left old) e in
    leaves.none lexeme begins.0 begins.1 begins.2 holds
