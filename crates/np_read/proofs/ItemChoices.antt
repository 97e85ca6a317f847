-- What readers do at an item that is a wanted lexeme, and at one that isn't.
use Rattle.std.proofs.Common.{◌≡◌, ◌⊎◌, inl, inr, Bool, true, false, cond, List, [], ◌∷◌, Option, None, Some, Ok, Err, refl, ap, ◌∙◌}
use Rattle.np_lex.specs.Tokens.{Lexeme, Piece, word, bad, end, Item}
use Rattle.np_read.specs.Same.{same_lexeme}
use Rattle.np_read.specs.ItemReaders.{Reader, pure, refuse, chosen, says, wanted, expect, either}
use Rattle.np_read.proofs.Same.{same_lexeme_is}
use Rattle.np_read.proofs.GoodParts.{wanted_itself}

module _ (lexeme : Lexeme) where
  abbrev pub Is : Piece → Type 0
  Is piece = piece ≡ word lexeme

  wanted_yes : (piece : Piece) → Is piece → says (wanted lexeme) piece ≡ Some tt
  wanted_yes piece is = ap (says (wanted lexeme)) is ∙ wanted_itself lexeme

  lexeme_no : (found : Lexeme) (same : Bool) → same_lexeme found lexeme ≡ same → (found ≡ lexeme → ⊥) → cond {A = Option (Unit {0})} same (Some tt) None ≡ None
  lexeme_no found true e never = absurd (never (same_lexeme_is found lexeme e))
  lexeme_no found false e never = refl

  wanted_no : (piece : Piece) → (Is piece → ⊥) → says (wanted lexeme) piece ≡ None
  wanted_no (word found) never = lexeme_no found (same_lexeme found lexeme) refl (λ e. never (ap (λ (l : Lexeme). word l) e))
  wanted_no bad never = refl
  wanted_no end never = refl

  found_is : (found : Lexeme) (same : Bool) → same_lexeme found lexeme ≡ same → (found ≡ lexeme) ⊎ (found ≡ lexeme → ⊥)
  found_is found true e = inl (same_lexeme_is found lexeme e)
  found_is found false e = inr (λ is. let yes = wanted_yes (word found) (ap (λ (l : Lexeme). word l) is) in let no : says (wanted lexeme) (word found) ≡ None = ap (λ (b : Bool). cond {A = Option (Unit {0})} b (Some tt) None) e in cc)

  word_is : (found : Lexeme) → (found ≡ lexeme) ⊎ (found ≡ lexeme → ⊥) → Is (word found) ⊎ (Is (word found) → ⊥)
  word_is found (inl is) = inl (ap (λ (l : Lexeme). word l) is)
  word_is found (inr never) = inr (λ e. never (let same : found ≡ lexeme = cc in same))

  pub is_wanted : (piece : Piece) → Is piece ⊎ (Is piece → ⊥)
  is_wanted (word found) = word_is found (found_is found (same_lexeme found lexeme) refl)
  is_wanted bad = inr (λ e. cc)
  is_wanted end = inr (λ e. cc)

  pub expect_taken : (item : Item) (items : List Item) → Is item.piece → expect lexeme (item ∷ items) ≡ Ok (tt, items)
  unfolding expect
  expect_taken item items is = ap (λ (o : Option (Unit {0})). chosen o pure (refuse (item ∷ items)) items) (wanted_yes item.piece is)

  pub expect_refused : (item : Item) (items : List Item) → (Is item.piece → ⊥) → expect lexeme (item ∷ items) ≡ Err (item ∷ items)
  unfolding expect
  expect_refused item items never = ap (λ (o : Option (Unit {0})). chosen o pure (refuse (item ∷ items)) items) (wanted_no item.piece never)

  pub expect_nothing : expect lexeme [] ≡ Err []
  unfolding expect
  expect_nothing = refl

  module _ {A : Type 0} (first second : Reader A) where
    pub either_taken : (item : Item) (items : List Item) → Is item.piece → either lexeme first second (item ∷ items) ≡ first items
    unfolding either
    either_taken item items is = ap (λ (o : Option (Unit {0})). chosen o (λ _. first) (second (item ∷ items)) items) (wanted_yes item.piece is)

    pub either_other : (item : Item) (items : List Item) → (Is item.piece → ⊥) → either lexeme first second (item ∷ items) ≡ second (item ∷ items)
    unfolding either
    either_other item items never = ap (λ (o : Option (Unit {0})). chosen o (λ _. first) (second (item ∷ items)) items) (wanted_no item.piece never)
