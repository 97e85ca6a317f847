-- What is read stands at the places that it keeps: the laws of `Spelled`, for marks.
use Rattle.std.proofs.Common.{◌≡◌, ◌⊎◌, inl, inr, ℕ, zero, suc, List, [], ◌∷◌, length, Ok, refl, sym, subst}
use Rattle.std.specs.List.{All}
use Rattle.std.proofs.lemmas.List.Elements.{All-nil, All-cons}
use Rattle.np_lex.specs.declared.token.Place.{Place}
use Rattle.np_lex.specs.Tokens.{Lexeme, word, Item, left, right}
use Rattle.np_read.specs.Marks.{Mark, Marking, IsMarked, Fits, each}
use Rattle.np_read.specs.ItemReaders.{Reader, and_then, pure, refuse, expect, either, after, open_with, before, both, made, further, turns, row}
use Rattle.np_read.proofs.GoodParts.{either_nothing}
use Rattle.np_read.proofs.ItemChoices.{is_wanted, expect_taken, expect_refused, expect_nothing, either_taken, either_other}
use Rattle.np_read.proofs.Spelled.{Gets, then_at, weaker, IsAny, GoodPair, Made, HasOne}

-- the value is good, and its marks fit the items up to those that are left
pub record Marked {A : Type 0} (P : A → Type 0) (marks : A → Marking) (items : List Item) (a : A) (rest : List Item) : Type 0 where
  pub good : P a
  pub fits : (ms : List Mark) (others : List Item) → Fits rest ms others → Fits items (marks a ms) others

-- each value that is read is good, and its marks fit
pub record Placed {A : Type 0} (P : A → Type 0) (marks : A → Marking) (p : Reader A) : Type 0 where
  pub placed : (items : List Item) → Gets (Marked P marks items) (p items)

-- a lexeme for which no place is kept
abbrev pub plain : Lexeme → Mark
plain lexeme = record { lexeme = lexeme; places = [] }

-- a lexeme for which one place is kept
abbrev pub marked_at : Place → Lexeme → Mark
marked_at place lexeme = record { lexeme = lexeme; places = place ∷ [] }

pub is_plain : (item : Item) (lexeme : Lexeme) → item.piece ≡ word lexeme → IsMarked item (plain lexeme)
is_plain item lexeme is = record { piece = is; places = tt }

-- ---- nothing

pub placed_pure : {A : Type 0} (a : A) → Placed (λ (b : A). b ≡ a) (λ b ms. ms) (pure a)
placed_pure a = record { placed = λ items. record { good = refl; fits = λ ms others h. h } }

-- ---- one lexeme

module _ (lexeme : Lexeme) where
  abbrev pub only_mark : Unit {0} → Marking
  only_mark _ ms = plain lexeme ∷ ms

  expect_by : (item : Item) (items : List Item) → (item.piece ≡ word lexeme) ⊎ (item.piece ≡ word lexeme → ⊥) → Gets (Marked IsAny only_mark (item ∷ items)) (expect lexeme (item ∷ items))
  expect_by item items (inl is) =
      subst (Gets (Marked IsAny only_mark (item ∷ items))) (sym (expect_taken lexeme item items is))
      (record { good = tt; fits = λ ms others h. (is_plain item lexeme is, h) })
  expect_by item items (inr never) = subst (Gets (Marked IsAny only_mark (item ∷ items))) (sym (expect_refused lexeme item items never)) tt

  expect_placed : (items : List Item) → Gets (Marked IsAny only_mark items) (expect lexeme items)
  expect_placed [] = subst (Gets (Marked IsAny only_mark [])) (sym (expect_nothing lexeme)) tt
  expect_placed (item ∷ items) = expect_by item items (is_wanted lexeme item.piece)

  pub placed_expect : Placed IsAny only_mark (expect lexeme)
  placed_expect = record { placed = expect_placed }

-- ---- a choice

module _ {A : Type 0} {P Q : A → Type 0} {marks after_first : A → Marking} {first second : Reader A} where
  module _ (lexeme : Lexeme) (one : Placed P after_first first) (two : Placed Q marks second) (begins : (a : A) (ms : List Mark) → P a → marks a ms ≡ plain lexeme ∷ after_first a ms) where
    abbrev Either : A → Type 0
    Either a = P a ⊎ Q a

    either_by : (item : Item) (items : List Item) → (item.piece ≡ word lexeme) ⊎ (item.piece ≡ word lexeme → ⊥) → Gets (Marked Either marks (item ∷ items)) (either lexeme first second (item ∷ items))
    either_by item items (inl is) =
        subst (Gets (Marked Either marks (item ∷ items))) (sym (either_taken lexeme first second item items is))
        (weaker (Marked P after_first items) (Marked Either marks (item ∷ items)) (first items)
        (λ a rest h. record {
          good = inl h.good;
          fits = λ ms others f. subst (λ (all_of : List Mark). Fits (item ∷ items) all_of others) (sym (begins a ms h.good)) (is_plain item lexeme is, h.fits ms others f);
        }) (one.placed items))
    either_by item items (inr never) =
        subst (Gets (Marked Either marks (item ∷ items))) (sym (either_other lexeme first second item items never))
        (weaker (Marked Q marks (item ∷ items)) (Marked Either marks (item ∷ items)) (second (item ∷ items)) (λ a rest h. record { good = inr h.good; fits = h.fits }) (two.placed (item ∷ items)))

    either_placed : (items : List Item) → Gets (Marked Either marks items) (either lexeme first second items)
    either_placed [] = subst (Gets (Marked Either marks [])) (sym (either_nothing lexeme first second)) tt
    either_placed (item ∷ items) = either_by item items (is_wanted lexeme item.piece)

    pub placed_either : Placed Either marks (either lexeme first second)
    placed_either = record { placed = either_placed }

-- the same of values that are named otherwise
pub placed_same : {A : Type 0} {P : A → Type 0} {marks : A → Marking} {p : Reader A} (Q : A → Type 0) → ((a : A) → P a → Q a) → Placed P marks p → Placed Q marks p
placed_same {P = P} {marks = marks} {p = p} Q to one = record {
  placed = λ items. weaker (Marked P marks items) (Marked Q marks items) (p items) (λ a rest h. record { good = to a h.good; fits = h.fits }) (one.placed items);
}

-- by marks that are the same
pub placed_again : {A : Type 0} {P : A → Type 0} {marks : A → Marking} {p : Reader A} (again : A → Marking) → ((a : A) (ms : List Mark) → P a → again a ms ≡ marks a ms) → Placed P marks p → Placed P again p
placed_again {P = P} {marks = marks} {p = p} again same one = record {
  placed = λ items.
      weaker (Marked P marks items) (Marked P again items) (p items)
      (λ a rest h. record { good = h.good; fits = λ ms others f. subst (λ (all_of : List Mark). Fits items all_of others) (sym (same a ms h.good)) (h.fits ms others f) }) (one.placed items);
}

-- ---- parts together

abbrev pub mark_pair : {A B : Type 0} → (A → Marking) → (B → Marking) → A × B → Marking
mark_pair f g x ms = f x.0 (g x.1 ms)

module _ {A B : Type 0} {P : A → Type 0} {Q : B → Type 0} {f : A → Marking} {g : B → Marking} {p : Reader A} {q : Reader B} where
  pub placed_both : Placed P f p → Placed Q g q → Placed (GoodPair P Q) (mark_pair f g) (both p q)
  placed_both one two = record {
    placed = λ items.
        then_at (Marked P f items) (Marked (GoodPair P Q) (mark_pair f g) items) (λ a rest. and_then (q rest) (λ b more. Ok ((a, b), more))) (p items) (one.placed items)
        (λ a rest h. then_at (Marked Q g rest) (Marked (GoodPair P Q) (mark_pair f g) items) (λ b more. Ok ((a, b), more)) (q rest) (two.placed rest)
        (λ b more k. record { good = (h.good, k.good); fits = λ ms others e. h.fits (g b ms) others (k.fits ms others e) }));
  }

module _ {A B : Type 0} {P : A → Type 0} {f : A → Marking} {p : Reader A} (make : A → B) (marks : B → Marking) where
  pub placed_made : ((a : A) (ms : List Mark) → marks (make a) ms ≡ f a ms) → Placed P f p → Placed (Made make P) marks (made make p)
  placed_made same one = record {
    placed = λ items.
        then_at (Marked P f items) (Marked (Made make P) marks items) (λ a rest. Ok (make a, rest)) (p items) (one.placed items)
        (λ a rest h. record { good = (a, refl, h.good); fits = λ ms others e. subst (λ (all_of : List Mark). Fits items all_of others) (sym (same a ms)) (h.fits ms others e) });
  }

module _ {A : Type 0} {P : A → Type 0} {f : A → Marking} {p : Reader A} {w : Reader (Unit {0})} {g : Unit {0} → Marking} where
  pub placed_after : Placed IsAny g w → Placed P f p → Placed P (λ (a : A) (ms : List Mark). g tt (f a ms)) (after w p)
  placed_after one two = record {
    placed = λ items.
        then_at (Marked IsAny g items) (Marked P (λ (a : A) (ms : List Mark). g tt (f a ms)) items) (λ _. p) (w items) (one.placed items)
        (λ u rest h. weaker (Marked P f rest) (Marked P (λ (a : A) (ms : List Mark). g tt (f a ms)) items) (p rest)
        (λ a more k. record { good = k.good; fits = λ ms others e. h.fits (f a ms) others (k.fits ms others e) }) (two.placed rest));
  }

  pub placed_before : Placed P f p → Placed IsAny g w → Placed P (λ (a : A) (ms : List Mark). f a (g tt ms)) (before p w)
  placed_before one two = record {
    placed = λ items.
        then_at (Marked P f items) (Marked P (λ (a : A) (ms : List Mark). f a (g tt ms)) items) (λ a rest. and_then (w rest) (λ _ more. Ok (a, more))) (p items) (one.placed items)
        (λ a rest h. then_at (Marked IsAny g rest) (Marked P (λ (a : A) (ms : List Mark). f a (g tt ms)) items) (λ _ more. Ok (a, more)) (w rest) (two.placed rest)
        (λ u more k. record { good = h.good; fits = λ ms others e. h.fits (g tt ms) others (k.fits ms others e) }));
  }

pub placed_open : (lexeme : Lexeme) → Placed IsAny (λ (u : Unit {0}) (ms : List Mark). plain left ∷ plain lexeme ∷ ms) (open_with lexeme)
placed_open lexeme = placed_after (placed_expect left) (placed_expect lexeme)

-- ---- rows

module _ {A : Type 0} {P : A → Type 0} {f : A → Marking} {p : Reader A} (reads : Placed P f p) where
  abbrev row_marks : List A → Marking
  row_marks xs ms = each f xs (plain right ∷ ms)

  closes_by : (second : Reader (List A)) (item : Item) (items : List Item) → (item.piece ≡ word right) ⊎ (item.piece ≡ word right → ⊥) → Gets (Marked (All P) row_marks (item ∷ items)) (second (item ∷ items)) → Gets (Marked (All P) row_marks (item ∷ items)) (either right (pure []) second (item ∷ items))
  closes_by second item items (inl is) h =
      subst (Gets (Marked (All P) row_marks (item ∷ items))) (sym (either_taken right (pure []) second item items is))
      (record { good = All-nil P; fits = λ ms others e. (is_plain item right is, e) })
  closes_by second item items (inr never) h = subst (Gets (Marked (All P) row_marks (item ∷ items))) (sym (either_other right (pure []) second item items never)) h

  closes : (second : Reader (List A)) (items : List Item) → Gets (Marked (All P) row_marks items) (second items) → Gets (Marked (All P) row_marks items) (either right (pure []) second items)
  closes second [] h = subst (Gets (Marked (All P) row_marks [])) (sym (either_nothing right (pure []) second)) tt
  closes second (item ∷ items) h = closes_by second item items (is_wanted right item.piece) h

  further_placed : (others_read : Reader (List A)) → ((items : List Item) → Gets (Marked (All P) row_marks items) (others_read items)) → (items : List Item) → Gets (Marked (All P) row_marks items) (further p others_read items)
  further_placed others_read placed items =
      then_at (Marked P f items) (Marked (All P) row_marks items) (λ a rest. and_then (others_read rest) (λ more last. Ok (a ∷ more, last))) (p items) (reads.placed items)
      (λ a rest h. then_at (Marked (All P) row_marks rest) (Marked (All P) row_marks items) (λ more last. Ok (a ∷ more, last)) (others_read rest) (placed rest)
      (λ more last k. record { good = All-cons P a more h.good k.good; fits = λ ms others e. h.fits (row_marks more ms) others (k.fits ms others e) }))

  turns_placed : (most : ℕ) (items : List Item) → Gets (Marked (All P) row_marks items) (turns most p items)
  turns_placed zero items = closes refuse items tt
  turns_placed (suc most) items = closes (further p (turns most p)) items (further_placed (turns most p) (turns_placed most) items)

  row_placed : (items : List Item) → Gets (Marked (All P) row_marks items) (row p items)
  unfolding row
  row_placed items = turns_placed (length items) items

  pub placed_row : Placed (All P) row_marks (row p)
  placed_row = record { placed = row_placed }

  -- one value at least
  abbrev IsSomeAll : List A → Type 0
  IsSomeAll xs = HasOne xs × All P xs

  pub placed_some : Placed (λ (xs : List A). HasOne xs × All P xs) row_marks (further p (row p))
  placed_some = record {
    placed = λ items.
        then_at (Marked P f items) (Marked IsSomeAll row_marks items) (λ a rest. and_then (row p rest) (λ more last. Ok (a ∷ more, last))) (p items) (reads.placed items)
        (λ a rest h. then_at (Marked (All P) row_marks rest) (Marked IsSomeAll row_marks items) (λ more last. Ok (a ∷ more, last)) (row p rest) (row_placed rest)
        (λ more last k. record { good = (tt, All-cons P a more h.good k.good); fits = λ ms others e. h.fits (row_marks more ms) others (k.fits ms others e) }));
  }
