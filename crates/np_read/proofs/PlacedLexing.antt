-- What a lexer takes with its place, and what it leaves, is what a reader by places reads, and refuses.
use Rattle.std.proofs.Common.{◌≡◌, Bool, true, false, cond, List, [], ◌∷◌, Option, None, Some, Ok, Err, refl, sym, ap, ◌∙◌}
use Rattle.np_lex.specs.declared.reading.Lexer.{Lexer}
use Rattle.np_lex.specs.declared.token.Place.{Place}
use Rattle.np_lex.specs.Tokens.{Lexeme, Piece, word, bad, end, Item}
use Rattle.np_lex.specs.Lexers.{items_left, Leaves, Takes}
use Rattle.np_read.specs.Same.{same_lexeme}
use Rattle.np_read.specs.ItemReaders.{Reader, pure, refuse, chosen, says}
use Rattle.np_read.specs.PlacedReaders.{token_by, place_if, placed, either_by}
use Rattle.np_read.specs.Takes.{TakesAt}
use Rattle.np_read.proofs.Same.{same_lexeme_is, same_lexeme-refl}
use Rattle.np_read.proofs.ItemLexing.{NotFirst, not_first, stays}

-- a place is forgotten
pub takes_at : (old new : Lexer) (lexeme : Lexeme) (place : Place) → TakesAt old new lexeme place → Takes old new lexeme
takes_at old new lexeme place takes = record { place = place; items = takes.items }

abbrev first_item : Lexeme → Place → Item
first_item lexeme place = record { piece = word lexeme; place = place }

-- ---- one lexeme

module _ {A : Type 0} (value : Place → Lexeme → Option A) (old new : Lexer) where
  -- it says nothing of lexemes of which the fact doesn't hold
  abbrev pub SaysNothing : (Lexeme → Type 0) → Type 0
  SaysNothing P = (place : Place) (lexeme : Lexeme) → (P lexeme → ⊥) → value place lexeme ≡ None

  pub token_taken : (lexeme : Lexeme) (place : Place) (a : A) → TakesAt old new lexeme place → value place lexeme ≡ Some a → token_by value (items_left old) ≡ Ok (a, items_left new)
  unfolding token_by
  token_taken lexeme place a takes is =
      ap (token_by value) takes.items ∙ ap (λ (o : Option A). chosen o pure (refuse (first_item lexeme place ∷ items_left new)) (items_left new)) is

  pub token_refused : (lexeme : Lexeme) (place : Place) → TakesAt old new lexeme place → value place lexeme ≡ None → token_by value (items_left old) ≡ Err (items_left old)
  unfolding token_by
  token_refused lexeme place takes is =
      ap (token_by value) takes.items ∙ ap (λ (o : Option A). chosen o pure (refuse (first_item lexeme place ∷ items_left new)) (items_left new)) is
      ∙ ap (λ (items : List Item). Err items) (sym takes.items)

  none_said : (P : Lexeme → Type 0) → SaysNothing P → (place : Place) (piece : Piece) → ((lexeme : Lexeme) → piece ≡ word lexeme → P lexeme → ⊥) → says (value place) piece ≡ None
  none_said P nothing place (word lexeme) never = nothing place lexeme (never lexeme refl)
  none_said P nothing place bad never = refl
  none_said P nothing place end never = refl

  missing_by : (P : Lexeme → Type 0) → SaysNothing P → (items : List Item) → NotFirst P items → token_by value items ≡ Err items
  unfolding token_by
  missing_by P nothing [] never = refl
  missing_by P nothing (item ∷ items) never =
      ap (λ (o : Option A). chosen o pure (refuse (item ∷ items)) items) (none_said P nothing item.place item.piece (λ lexeme is holds. never item items lexeme refl is holds))

  pub token_missing : (P : Lexeme → Type 0) → SaysNothing P → Leaves old new P → token_by value (items_left old) ≡ Err (items_left new)
  token_missing P nothing leaves =
      missing_by P nothing (items_left old) (not_first old new P leaves) ∙ ap (λ (items : List Item). Err items) (stays old new P leaves)

-- ---- a choice

module _ {A B : Type 0} (value : Place → Lexeme → Option B) (follow : B → Reader A) (other : Reader A) (old new : Lexer) where
  pub first_by : (lexeme : Lexeme) (place : Place) (b : B) → TakesAt old new lexeme place → value place lexeme ≡ Some b → either_by value follow other (items_left old) ≡ follow b (items_left new)
  unfolding either_by
  first_by lexeme place b takes is =
      ap (either_by value follow other) takes.items ∙ ap (λ (o : Option B). chosen o follow (other (first_item lexeme place ∷ items_left new)) (items_left new)) is

  pub refused_by : (lexeme : Lexeme) (place : Place) → TakesAt old new lexeme place → value place lexeme ≡ None → either_by value follow other (items_left old) ≡ other (items_left old)
  unfolding either_by
  refused_by lexeme place takes is =
      ap (either_by value follow other) takes.items ∙ ap (λ (o : Option B). chosen o follow (other (first_item lexeme place ∷ items_left new)) (items_left new)) is
      ∙ ap other (sym takes.items)

  other_by : (P : Lexeme → Type 0) → SaysNothing value old new P → other [] ≡ Err [] → (items : List Item) → NotFirst P items → either_by value follow other items ≡ other items
  unfolding either_by
  other_by P nothing empty [] never = sym empty
  other_by P nothing empty (item ∷ items) never =
      ap (λ (o : Option B). chosen o follow (other (item ∷ items)) items) (none_said value old new P nothing item.place item.piece (λ lexeme is holds. never item items lexeme refl is holds))

  pub second_by : (P : Lexeme → Type 0) → SaysNothing value old new P → other [] ≡ Err [] → Leaves old new P → either_by value follow other (items_left old) ≡ other (items_left new)
  second_by P nothing empty leaves = other_by P nothing empty (items_left old) (not_first old new P leaves) ∙ ap other (stays old new P leaves)

-- ---- a wanted lexeme, as its place

module _ (lexeme : Lexeme) where
  pub place_yes : (place : Place) → place_if lexeme place lexeme ≡ Some place
  place_yes place = ap (λ (b : Bool). cond b (Some place) None) (same_lexeme-refl lexeme)

  place_no_by : (place : Place) (found : Lexeme) (same : Bool) → same_lexeme found lexeme ≡ same → (found ≡ lexeme → ⊥) → cond same (Some place) None ≡ None
  place_no_by place found true e never = absurd (never (same_lexeme_is found lexeme e))
  place_no_by place found false e never = refl

  pub place_no : (place : Place) (found : Lexeme) → (found ≡ lexeme → ⊥) → place_if lexeme place found ≡ None
  place_no place found never = place_no_by place found (same_lexeme found lexeme) refl never

  module _ (old new : Lexer) where
    pub is_taken_at : (place : Place) → TakesAt old new lexeme place → placed lexeme (items_left old) ≡ Ok (place, items_left new)
    is_taken_at place takes = token_taken (place_if lexeme) old new lexeme place place takes (place_yes place)

    pub is_left_at : Leaves old new (λ found. found ≡ lexeme) → placed lexeme (items_left old) ≡ Err (items_left new)
    is_left_at leaves = token_missing (place_if lexeme) old new (λ found. found ≡ lexeme) place_no leaves

-- ---- a choice by what a reader of one lexeme reads

module _ {A B : Type 0} (value : Place → Lexeme → Option B) (follow : B → Reader A) (other : Reader A) where
  read_by : (item : Item) (items : List Item) (o : Option B) → says (value item.place) item.piece ≡ o → (b : B) (rest : List Item) → chosen o pure (refuse (item ∷ items)) items ≡ Ok (b, rest) → chosen o follow (other (item ∷ items)) items ≡ follow b rest
  read_by item items None e b rest is = absurd cc
  read_by item items (Some c) e b rest is =
      let pair : (c, items) ≡ (b, rest) = cc in ap (λ (x : B × List Item). follow x.0 x.1) pair

  unread_by : (item : Item) (items : List Item) (o : Option B) → says (value item.place) item.piece ≡ o → (rest : List Item) → chosen o pure (refuse (item ∷ items)) items ≡ Err rest → chosen o follow (other (item ∷ items)) items ≡ other (item ∷ items)
  unread_by item items None e rest is = refl
  unread_by item items (Some c) e rest is = absurd cc

  -- where the lexeme is read, what follows it
  pub either_by_read : (items : List Item) (b : B) (rest : List Item) → token_by value items ≡ Ok (b, rest) → either_by value follow other items ≡ follow b rest
  unfolding token_by either_by
  either_by_read [] b rest is = absurd cc
  either_by_read (item ∷ items) b rest is = read_by item items (says (value item.place) item.piece) refl b rest is

  -- where it isn't, the other reader
  pub either_by_unread : other [] ≡ Err [] → (items rest : List Item) → token_by value items ≡ Err rest → either_by value follow other items ≡ other items
  unfolding token_by either_by
  either_by_unread empty [] rest is = sym empty
  either_by_unread empty (item ∷ items) rest is = unread_by item items (says (value item.place) item.piece) refl rest is

-- what is refused is refused from the first item on
refused_whole_by : {A : Type 0} (value : Place → Lexeme → Option A) (item : Item) (items : List Item) (o : Option A) (rest : List Item) → chosen o pure (refuse (item ∷ items)) items ≡ Err rest → item ∷ items ≡ rest
refused_whole_by value item items None rest is = (let same : item ∷ items ≡ rest = cc in same)
refused_whole_by value item items (Some a) rest is = absurd cc

pub refused_whole : {A : Type 0} (value : Place → Lexeme → Option A) (items rest : List Item) → token_by value items ≡ Err rest → items ≡ rest
unfolding token_by
refused_whole value [] rest is = (let same : [] ≡ rest = cc in same)
refused_whole value (item ∷ items) rest is = refused_whole_by value item items (says (value item.place) item.piece) rest is
