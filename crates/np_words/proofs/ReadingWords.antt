-- Words are read as they are spelled, and stand where they say.
use Rattle.std.proofs.Common.{◌≡◌, ◌⊎◌, inl, inr, ℕ, Bool, true, false, ◌==◌, ◌&&◌, cond, List, [], ◌∷◌, Option, None, Some, refl, sym, ap, subst, ◌∙◌, codes}
use Rattle.std.proofs.lemmas.Bool.Decides.{Decides-eqb}
use Rattle.np_lex.specs.declared.token.Kind.{Kind}
use Rattle.np_lex.specs.declared.token.Kind.TheVariants.{Name, Variable, Keyword}
use Rattle.np_lex.specs.declared.token.Place.{Place}
use Rattle.np_lex.specs.Tokens.{Lexeme, Piece, word, bad, end, Item, named}
use Rattle.np_read.specs.Marks.{Mark}
use Rattle.np_read.specs.Same.{same_kind}
use Rattle.np_read.specs.ItemReaders.{pure, made, says}
use Rattle.np_read.specs.PlacedReaders.{token_by}
use Rattle.np_read.proofs.Same.{same_kind_true, same_kind-refl, both_true}
use Rattle.np_read.proofs.Good.{Starting, good_pure}
use Rattle.np_read.proofs.GoodParts.{good_made, starts_made}
use Rattle.np_read.proofs.Spelled.{Reads, Avoids, Made, reads_same, reads_pure, reads_made}
use Rattle.np_read.proofs.Marked.{Placed, placed_same, placed_pure, placed_made}
use Rattle.np_read.proofs.PlacedParts.{Refuses, MadeOf, starts_token, starts_either_by, reads_token, placed_token, reads_either_by, placed_either_by, silent, token_refuses, token_nothing, either_by_refuses, made_refuses}
use Rattle.np_words.specs.declared.word.Word.{Word}
use Rattle.np_words.specs.declared.word.Ident.{Ident}
use Rattle.np_words.specs.declared.word.Ident.TheVariants as ident
use Rattle.np_words.specs.Bare.{nowhere, bare_word, bare_ident}
use Rattle.np_words.specs.Written.{is_small_name, is_free_name, IsWord, IsName, IsIdent}
use Rattle.np_words.specs.Text.{spelled, marked, keyword_lexeme, variable_lexeme}
use Rattle.np_words.specs.Text as text
use Rattle.np_words.specs.ReadingForm.{word_if, name_of, word_after, variable_of, requirement_of, name, variable, requirement, identifier}

-- the same but for the place
abbrev pub SameWord : Word → Word → Type 0
SameWord a b = bare_word a ≡ bare_word b

abbrev word_at : Place → List ℕ → Word
word_at place text = record { text = text; place = place }

-- ---- a word where a test holds

word_is : (good : Bool) (place : Place) (text : List ℕ) (w : Word) → word_if good place text ≡ Some w → (good ≡ true) × (w ≡ word_at place text)
word_is true place text w e = (refl, (let same : w ≡ word_at place text = cc in same))
word_is false place text w e = absurd cc

-- ---- names

name_parts : (place : Place) (lexeme : Lexeme) (w : Word) → name_of place lexeme ≡ Some w → IsName w × (lexeme ≡ named w.text) × (w.place ≡ place)
name_parts place lexeme w e =
    let h = word_is (same_kind lexeme.kind Name && is_free_name lexeme.text) place lexeme.text w e in
    let k = both_true (same_kind lexeme.kind Name) (is_free_name lexeme.text) h.0 in
    (subst IsName (sym h.1) k.1, ap (λ (kind : Kind). record { kind = kind; text = lexeme.text }) (same_kind_true lexeme.kind Name k.0) ∙ ap (λ (v : Word). named v.text) (sym h.1), ap (λ (v : Word). v.place) h.1)

name_back : (place : Place) (w : Word) → IsName w → name_of place (named w.text) ≡ Some (word_at place w.text)
name_back place w h = ap (λ (good : Bool). word_if good place w.text) h

-- ---- variables and keywords

word_after_is : (byte : ℕ) (place : Place) (found : List ℕ) (w : Word) → word_after byte place found ≡ Some w → IsWord w × (found ≡ byte ∷ w.text) × (w.place ≡ place)
word_after_is byte place [] w e = absurd cc
word_after_is byte place (b ∷ found) w e =
    let h = word_is (b == byte && is_small_name found) place found w e in
    let k = both_true (b == byte) (is_small_name found) h.0 in
    let same : b ≡ byte = (Decides-eqb b byte).0 k.0 in
    (subst IsWord (sym h.1) k.1, ap (λ (c : ℕ). c ∷ found) same ∙ ap (λ (v : Word). byte ∷ v.text) (sym h.1), ap (λ (v : Word). v.place) h.1)

word_after_back : (byte : ℕ) (place : Place) (w : Word) → IsWord w → word_after byte place (byte ∷ w.text) ≡ Some (word_at place w.text)
word_after_back byte place w h = ap (λ (good : Bool). word_if good place w.text) (ap (λ (same : Bool). same && is_small_name w.text) ((Decides-eqb byte byte).1 refl) ∙ h)

abbrev lexeme_after : Kind → ℕ → Word → Lexeme
lexeme_after kind byte w = record { kind = kind; text = byte ∷ w.text }

abbrev after_if : Kind → ℕ → Place → Lexeme → Option Word
after_if kind byte place lexeme = cond (same_kind lexeme.kind kind) (word_after byte place lexeme.text) None

module _ (kind : Kind) (byte : ℕ) where
  after_by : (place : Place) (lexeme : Lexeme) (w : Word) (same : Bool) → same_kind lexeme.kind kind ≡ same → cond same (word_after byte place lexeme.text) None ≡ Some w → IsWord w × (lexeme ≡ lexeme_after kind byte w) × (w.place ≡ place)
  after_by place lexeme w true is e =
      let h = word_after_is byte place lexeme.text w e in
      (h.0, ap (λ (k : Kind). record { kind = k; text = lexeme.text }) (same_kind_true lexeme.kind kind is) ∙ ap (λ (t : List ℕ). record { kind = kind; text = t }) h.1, h.2)
  after_by place lexeme w false is e = absurd cc

  after_parts : (place : Place) (lexeme : Lexeme) (w : Word) → after_if kind byte place lexeme ≡ Some w → IsWord w × (lexeme ≡ lexeme_after kind byte w) × (w.place ≡ place)
  after_parts place lexeme w e = after_by place lexeme w (same_kind lexeme.kind kind) refl e

  after_back : (place : Place) (w : Word) → IsWord w → after_if kind byte place (lexeme_after kind byte w) ≡ Some (word_at place w.text)
  after_back place w h = ap (λ (same : Bool). cond same (word_after byte place (byte ∷ w.text)) None) (same_kind-refl kind) ∙ word_after_back byte place w h

-- ---- the laws of a word's token

module _ (value : Place → Lexeme → Option Word) (P : Word → Type 0) (lexeme_of : Word → Lexeme) (parts : (place : Place) (lexeme : Lexeme) (w : Word) → value place lexeme ≡ Some w → P w × (lexeme ≡ lexeme_of w) × (w.place ≡ place)) where
  reads_word : ((place : Place) (w : Word) → P w → value place (lexeme_of w) ≡ Some (word_at place w.text)) → Reads P (λ (w : Word) (ls : List Lexeme). lexeme_of w ∷ ls) SameWord (token_by value)
  reads_word back =
      reads_token value P lexeme_of SameWord (λ place lexeme w e. let h = parts place lexeme w e in (h.0, h.1))
      (λ place w h. (word_at place w.text, back place w h, refl))

  placed_word : Placed P (λ (w : Word) (ms : List Mark). marked (w.place ∷ []) (lexeme_of w) ∷ ms) (token_by value)
  placed_word =
      placed_token value P (λ w. marked (w.place ∷ []) (lexeme_of w))
      (λ place lexeme w e. let h = parts place lexeme w e in (h.0, record { piece = ap (λ (l : Lexeme). word l) h.1; places = (h.2, tt) }))

avoids_token : {A : Type 0} (value : Place → Lexeme → Option A) (lexeme : Lexeme) → ((place : Place) → value place lexeme ≡ None) → Avoids lexeme (token_by value)
avoids_token value lexeme none item items is = token_refuses value item items (silent value item lexeme is (none item.place))

a_word : Word
a_word = word_at nowhere (codes "a")

a_name : IsName a_word
unfolding a_word is_free_name is_small_name
a_name = refl

is_a_word : IsWord a_word
unfolding a_word is_small_name
is_a_word = refl

-- names
pub starting_name : Starting name
unfolding name
starting_name k = starts_token k name_of nowhere (named a_word.text) (word_at nowhere a_word.text) (name_back nowhere a_word a_name)

pub reads_name : Reads IsName (text.name spelled) SameWord name
unfolding name
reads_name = reads_word name_of IsName (λ w. named w.text) name_parts name_back

pub placed_name : Placed IsName (text.name marked) name
unfolding name
placed_name = placed_word name_of IsName (λ w. named w.text) name_parts

pub name_avoids : (lexeme : Lexeme) → ((place : Place) → name_of place lexeme ≡ None) → Avoids lexeme name
unfolding name
name_avoids = avoids_token name_of

-- variables
pub starting_variable : Starting variable
unfolding variable
starting_variable k = starts_token k variable_of nowhere (variable_lexeme a_word.text) (word_at nowhere a_word.text) (after_back Variable 63 nowhere a_word is_a_word)

pub reads_variable : Reads IsWord (text.variable spelled) SameWord variable
unfolding variable
reads_variable = reads_word variable_of IsWord (λ w. variable_lexeme w.text) (after_parts Variable 63) (after_back Variable 63)

pub placed_variable : Placed IsWord (text.variable marked) variable
unfolding variable
placed_variable = placed_word variable_of IsWord (λ w. variable_lexeme w.text) (after_parts Variable 63)

pub variable_avoids : (lexeme : Lexeme) → ((place : Place) → variable_of place lexeme ≡ None) → Avoids lexeme variable
unfolding variable
variable_avoids = avoids_token variable_of

-- keywords
pub starting_requirement : Starting requirement
unfolding requirement
starting_requirement k = starts_token k requirement_of nowhere (keyword_lexeme a_word.text) (word_at nowhere a_word.text) (after_back Keyword 58 nowhere a_word is_a_word)

pub reads_requirement : Reads IsWord (text.requirement spelled) SameWord requirement
unfolding requirement
reads_requirement = reads_word requirement_of IsWord (λ w. keyword_lexeme w.text) (after_parts Keyword 58) (after_back Keyword 58)

pub placed_requirement : Placed IsWord (text.requirement marked) requirement
unfolding requirement
placed_requirement = placed_word requirement_of IsWord (λ w. keyword_lexeme w.text) (after_parts Keyword 58)

pub requirement_avoids : (lexeme : Lexeme) → ((place : Place) → requirement_of place lexeme ≡ None) → Avoids lexeme requirement
unfolding requirement
requirement_avoids = avoids_token requirement_of

-- ---- names or variables

-- the same but for the place
abbrev pub SameIdent : Ident → Ident → Type 0
SameIdent a b = bare_ident a ≡ bare_ident b

abbrev variable_made : Word → Unit {0} → Ident
variable_made w u = ident.Variable w

abbrev IsUnit : Unit {0} → Type 0
IsUnit u = u ≡ tt

-- what says a variable says no name
no_name : (place : Place) (piece : Piece) (w : Word) → says (variable_of place) piece ≡ Some w → says (name_of place) piece ≡ None
no_name place (word lexeme) w e = ap (name_of place) (after_parts Variable 63 place lexeme w e).1
no_name place bad w e = absurd cc
no_name place end w e = absurd cc

variable_no_name : (item : Item) (items : List Item) (w : Word) → says (variable_of item.place) item.piece ≡ Some w → Refuses (made (λ v. ident.Name v) name) (item ∷ items)
unfolding name
variable_no_name item items w e = made_refuses (λ v. ident.Name v) (token_by name_of) (item ∷ items) (token_refuses name_of item items (no_name item.place item.piece w e))

name_nothing : Refuses (made (λ v. ident.Name v) name) []
unfolding name
name_nothing = made_refuses (λ v. ident.Name v) (token_by name_of) [] (token_nothing name_of)

abbrev EitherIdent : Ident → Type 0
EitherIdent a = MadeOf variable_made IsWord IsUnit a ⊎ Made (λ w. ident.Name w) IsName a

ident_either : (a : Ident) → IsIdent a → EitherIdent a
ident_either (ident.Name w) h = inr (w, refl, h)
ident_either (ident.Variable w) h = inl (w, tt, refl, h, refl)

either_ident : (a : Ident) → EitherIdent a → IsIdent a
either_ident a (inl h) = subst IsIdent h.2 h.3
either_ident a (inr h) = subst IsIdent h.1 h.2

same_name : (a b : Word) → SameWord a b → SameIdent (ident.Name a) (ident.Name b)
same_name a b same = ap (λ (w : Word). ident.Name w) same

pub reads_identifier : Reads IsIdent (text.identifier spelled) SameIdent identifier
unfolding identifier
reads_identifier =
    reads_same IsIdent either_ident ident_either
    (reads_either_by variable_of IsWord variable_made (λ w. variable_lexeme w.text) SameWord
    (λ place lexeme w e. let h = after_parts Variable 63 place lexeme w e in (h.0, h.1)) (λ place w h. (word_at place w.text, after_back Variable 63 place w h, refl))
    (λ w u ls. refl) (λ a b u v same _. ap (λ (w : Word). ident.Variable w) same) (reads_pure tt)
    (reads_made (λ w. ident.Name w) (text.identifier spelled) SameIdent (λ w ls. refl) same_name reads_name) name_nothing variable_no_name)

pub placed_identifier : Placed IsIdent (text.identifier marked) identifier
unfolding identifier
placed_identifier =
    placed_same IsIdent either_ident
    (placed_either_by variable_of IsWord variable_made (λ w. marked (w.place ∷ []) (variable_lexeme w.text))
    (λ place lexeme w e. let h = after_parts Variable 63 place lexeme w e in (h.0, record { piece = ap (λ (l : Lexeme). word l) h.1; places = (h.2, tt) }))
    (λ w u ms. refl) (placed_pure tt) (placed_made (λ w. ident.Name w) (text.identifier marked) (λ w ms. refl) placed_name))

pub starting_identifier : Starting identifier
unfolding identifier
starting_identifier k =
    starts_either_by k variable_of (λ w. made (variable_made w) (pure tt)) (made (λ w. ident.Name w) name) (λ w. good_made k (variable_made w) (pure tt) (good_pure k tt))
    (starts_made k (λ w. ident.Name w) name (starting_name k)).tries nowhere (variable_lexeme a_word.text) (word_at nowhere a_word.text) (after_back Variable 63 nowhere a_word is_a_word)

pub identifier_avoids : (lexeme : Lexeme) → ((place : Place) → variable_of place lexeme ≡ None) → ((place : Place) → name_of place lexeme ≡ None) → Avoids lexeme identifier
unfolding identifier
identifier_avoids lexeme none nothing item items is =
    either_by_refuses variable_of (λ w. made (variable_made w) (pure tt)) (made (λ w. ident.Name w) name) item items (silent variable_of item lexeme is (none item.place))
    (made_refuses (λ w. ident.Name w) name (item ∷ items) (name_avoids lexeme nothing item items is))
