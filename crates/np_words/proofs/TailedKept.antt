-- What is read of a row of values with tails, is kept of it, where what is read of the values and the tails is.
use Rattle.std.proofs.Common.{◌≡◌, ◌⊎◌, inl, inr, ℕ, zero, suc, List, [], ◌∷◌, length, Option, None, Some, Ok, refl, sym, subst}
use Rattle.std.specs.List.{All}
use Rattle.std.proofs.lemmas.List.Elements.{All-nil, All-cons}
use Rattle.np_lex.specs.Tokens.{Lexeme, word, Item, right}
use Rattle.np_read.specs.ItemReaders.{Reader, pure, refuse, either, made}
use Rattle.np_read.proofs.GoodParts.{either_nothing}
use Rattle.np_read.proofs.ItemChoices.{is_wanted, either_taken, either_other}
use Rattle.np_read.proofs.Spelled.{Gets, then_at, weaker}
use Rattle.np_words.specs.TailedRows.{Tailed, next_value, tail_of, step, steps_within, rest_of, tailed_row}

-- ---- what a row is made of

-- this holds of a tail, where there is one
abbrev pub IfTail : {B : Type 0} → (B → Type 0) → Option B → Type 0
IfTail Q None = Unit {0}
IfTail Q (Some b) = Q b

-- a value and its tail are good
abbrev pub GoodEntry : {A B : Type 0} → (A → Type 0) → (B → Type 0) → A × Option B → Type 0
GoodEntry P Q x = P x.0 × IfTail Q x.1

module _ {A B T : Type 0} (f : A → List T → List T) (mark : T) (close : T) (g : B → List T → List T) where
  -- a tail, after what begins it
  abbrev pub print_tail : Option B → List T → List T
  print_tail None ts = ts
  print_tail (Some b) ts = mark ∷ g b ts

  -- a value and its tail
  abbrev pub print_entry : A × Option B → List T → List T
  print_entry x ts = f x.0 (print_tail x.1 ts)

  -- a row with its bracket
  abbrev pub print_row : List (A × Option B) → List T → List T
  print_row [] ts = close ∷ ts
  print_row (x ∷ xs) ts = print_entry x (print_row xs ts)

  -- the same without the first value, where one was read
  abbrev pub print_rest : Option A → List (A × Option B) → List T → List T
  print_rest None xs ts = print_row xs ts
  print_rest (Some a) [] ts = ts
  print_rest (Some a) (x ∷ xs) ts = print_tail x.1 (print_row xs ts)

-- the rest of a row is good: it begins with the value that was read
abbrev pub GoodRest : {A B : Type 0} → (A → Type 0) → (B → Type 0) → Option A → List (A × Option B) → Type 0
GoodRest P Q None xs = All (GoodEntry P Q) xs
GoodRest P Q (Some a) [] = ⊥
GoodRest P Q (Some a) (x ∷ xs) = (x.0 ≡ a) × (IfTail Q x.1 × All (GoodEntry P Q) xs)

-- ---- what is kept

module _ {T O : Type 0} (F : List Item → List T → O → Type 0) where
  -- the value is good, and what holds of the items after it holds of those before it, with its tokens
  pub record Kept {A : Type 0} (P : A → Type 0) (print : A → List T → List T) (items : List Item) (a : A) (rest : List Item) : Type 0 where
    pub good : P a
    pub kept : (ts : List T) (o : O) → F rest ts o → F items (print a ts) o

  -- either way of a choice
  choice : {C : Type 0} (R : List Item → C → List Item → Type 0) (marker : Lexeme) (first second : Reader C) → ((item : Item) (others : List Item) → item.piece ≡ word marker → Gets (R (item ∷ others)) (first others)) → ((items : List Item) → Gets (R items) (second items)) → (items : List Item) → Gets (R items) (either marker first second items)
  choice R marker first second taken other [] = subst (Gets (R [])) (sym (either_nothing marker first second)) tt
  choice {C = C} R marker first second taken other (item ∷ others) = by (is_wanted marker item.piece)
    where
      by : (item.piece ≡ word marker) ⊎ (item.piece ≡ word marker → ⊥) → Gets (R (item ∷ others)) (either marker first second (item ∷ others))
      by (inl is) = subst (Gets (R (item ∷ others))) (sym (either_taken marker first second item others is)) (taken item others is)
      by (inr never) = subst (Gets (R (item ∷ others))) (sym (either_other marker first second item others never)) (other (item ∷ others))

  module _ {A B : Type 0} (P : A → Type 0) (Q : B → Type 0) (f : A → List T → List T) (g : B → List T → List T) (lexeme : Lexeme) (token : Lexeme → T) (begins : (marker : Lexeme) (item : Item) (items : List Item) (ts : List T) (o : O) → item.piece ≡ word marker → F items ts o → F (item ∷ items) (token marker ∷ ts) o)
      (p : Reader A) (q : Reader B) (one : (items : List Item) → Gets (Kept P f items) (p items)) (two : (items : List Item) → Gets (Kept Q g items) (q items)) where
    abbrev Rest : Type 0
    Rest = Option A → Reader (Tailed A B)

    abbrev print_so : Option A → List (A × Option B) → List T → List T
    print_so = print_rest f (token lexeme) (token right) g

    abbrev Keeps : Option A → List Item → Tailed A B → List Item → Type 0
    Keeps waiting = Kept (GoodRest P Q waiting) (print_so waiting)

    with_first : (a : A) (xs : Tailed A B) (items rest last : List Item) → Kept P f items a rest → Keeps (Some a) rest xs last → Keeps None items xs last
    with_first a [] items rest last h k = absurd k.good
    with_first a (x ∷ xs) items rest last h k = record {
      good = All-cons (GoodEntry P Q) x xs (subst P (sym k.good.0) h.good, k.good.1.0) k.good.1.1;
      kept = λ ts o e.
          subst (λ (b : A). F items (f b (print_tail f (token lexeme) (token right) g x.1 (print_so None xs ts))) o) (sym k.good.0)
          (h.kept (print_so (Some a) (x ∷ xs) ts) o (k.kept ts o e));
    }

    next_kept : (others : Rest) → ((a : A) (items : List Item) → Gets (Keeps (Some a) items) (others (Some a) items)) → (items : List Item) → Gets (Keeps None items) (next_value p lexeme q others items)
    next_kept others go items =
        then_at (Kept P f items) (Keeps None items) (λ a. others (Some a)) (p items) (one items)
        (λ a rest h. weaker (Keeps (Some a) rest) (Keeps None items) (others (Some a) rest) (λ xs last k. with_first a xs items rest last h k) (go a rest))

    tail_kept : (a : A) (others : Rest) → ((items : List Item) → Gets (Keeps None items) (others None items)) → (item : Item) (items : List Item) → item.piece ≡ word lexeme → Gets (Keeps (Some a) (item ∷ items)) (tail_of p lexeme q a others items)
    tail_kept a others go item items is =
        then_at (Kept Q g items) (Keeps (Some a) (item ∷ items)) (λ b. made (λ more. (a, Some b) ∷ more) (others None)) (q items) (two items)
        (λ b rest h. then_at (Keeps None rest) (Keeps (Some a) (item ∷ items)) (λ more last. Ok ((a, Some b) ∷ more, last)) (others None rest) (go rest)
        (λ more last k. record {
          good = (refl, (h.good, k.good));
          kept = λ ts o e. begins lexeme item items (g b (print_so None more ts)) o is (h.kept (print_so None more ts) o (k.kept ts o e));
        }))

    second_kept : (a : A) (others : Rest) → ((b : A) (items : List Item) → Gets (Keeps (Some b) items) (others (Some b) items)) → (items : List Item) → Gets (Keeps (Some a) items) (made (λ more. (a, None) ∷ more) (next_value p lexeme q others) items)
    second_kept a others go items =
        then_at (Keeps None items) (Keeps (Some a) items) (λ more last. Ok ((a, None) ∷ more, last)) (next_value p lexeme q others items) (next_kept others go items)
        (λ more last k. record { good = (refl, (tt, k.good)); kept = k.kept })

    step_kept : (others : Rest) → ((w : Option A) (items : List Item) → Gets (Keeps w items) (others w items)) → (waiting : Option A) (items : List Item) → Gets (Keeps waiting items) (step p lexeme q others waiting items)
    step_kept others go None items =
        choice (Keeps None) right (pure []) (next_value p lexeme q others)
        (λ item rest is. record { good = All-nil (GoodEntry P Q); kept = λ ts o e. begins right item rest ts o is e }) (next_kept others (λ a. go (Some a))) items
    step_kept others go (Some a) items =
        choice (Keeps (Some a)) right (pure ((a, None) ∷ [])) (either lexeme (tail_of p lexeme q a others) (made (λ more. (a, None) ∷ more) (next_value p lexeme q others)))
        (λ item rest is. record { good = (refl, (tt, All-nil (GoodEntry P Q))); kept = λ ts o e. begins right item rest ts o is e })
        (choice (Keeps (Some a)) lexeme (tail_of p lexeme q a others) (made (λ more. (a, None) ∷ more) (next_value p lexeme q others)) (tail_kept a others (go None)) (second_kept a others (λ b. go (Some b)))) items

    within_kept : (most : ℕ) (waiting : Option A) (items : List Item) → Gets (Keeps waiting items) (steps_within p lexeme q most waiting items)
    within_kept zero waiting items = step_kept (λ w. refuse) (λ w rest. tt) waiting items
    within_kept (suc most) waiting items = step_kept (steps_within p lexeme q most) (within_kept most) waiting items

    -- the whole row
    pub row_kept : (items : List Item) → Gets (Kept (All (GoodEntry P Q)) (print_row f (token lexeme) (token right) g) items) (tailed_row p lexeme q items)
    unfolding rest_of
    row_kept items = within_kept (length items) None items
