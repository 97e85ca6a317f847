-- A row of values with tails is read one by one: each with its tail, where one comes next.
use Rattle.std.proofs.Common.{◌≡◌, ◌⊎◌, inl, inr, ℕ, zero, suc, ◌-◌, ◌<◌, ◌≤◌, List, [], ◌∷◌, length, Option, None, Some, Ok, Err, refl, sym, ap, ◌∙◌, arith}
use Rattle.np_lex.specs.declared.reading.Lexer.{Lexer}
use Rattle.np_lex.specs.Tokens.{Lexeme, Piece, word, Item, right, Next, taken, bad_at, ended, next_from, item_then, items_within, items_from}
use Rattle.np_lex.specs.Lexers.{items_left, Takes, Leaves}
use Rattle.np_read.specs.declared.fault.ReadFault.{ReadFault}
use Rattle.np_read.specs.declared.fault.ReadFault.TheVariants as fault_of
use Rattle.np_read.specs.ItemAnswers.{Stops}
use Rattle.np_read.specs.ItemReaders.{Outcome, Reader, and_then, pure, either, both, made, further}
use Rattle.np_read.proofs.Good.{Starting, is_shorter, ok_rest}
use Rattle.np_read.proofs.GoodParts.{either_nothing, either_same}
use Rattle.np_read.proofs.ItemChoices.{is_wanted, either_taken, either_other}
use Rattle.np_read.proofs.ItemLexing.{NotFirst, not_first, first_taken, second_taken, stays}
use Rattle.np_words.specs.TailedRows.{Tailed, next_value, tail_of, rest_of, tail_or_none, tailed_row}
use Rattle.np_words.proofs.TailedGood.{rest_at, rest_nothing}

-- what is made of the values so far and of those that are still read
abbrev pub from_state : {S E C : Type 0} → (S → List E → C) → S → Outcome (List E) → Outcome C
from_state finish state x = and_then x (λ more rest. Ok (finish state more, rest))

-- ---- a tail, where it comes next

some_then : (bytes : List ℕ) (next : Next) (later : ℕ → List Item) → item_then bytes next later ≡ [] → ⊥
some_then bytes (taken span) later e = cc
some_then bytes (bad_at offset) later e = cc
some_then bytes ended later e = cc

some_within : (most : ℕ) (bytes : List ℕ) (offset : ℕ) → items_within most bytes offset ≡ [] → ⊥
unfolding items_within
some_within zero bytes offset e = cc
some_within (suc most) bytes offset e = some_then bytes (next_from bytes offset) (items_within most bytes) e

some_left : (lexer : Lexer) → items_left lexer ≡ [] → ⊥
unfolding items_left items_from
some_left lexer e = some_within (length lexer.bytes.now - lexer.offset) lexer.bytes.now lexer.offset e

module _ {B : Type 0} (lexeme : Lexeme) (q : Reader B) (old new : Lexer) where
  pub tail_comes : Takes old new lexeme → tail_or_none lexeme q (items_left old) ≡ made (λ b. Some b) q (items_left new)
  tail_comes takes = first_taken lexeme (made (λ b. Some b) q) (pure None) old new takes

  none_by : (items : List Item) → (items ≡ [] → ⊥) → NotFirst (λ found. found ≡ lexeme) items → tail_or_none lexeme q items ≡ Ok (None, items)
  none_by [] some never = absurd (some refl)
  none_by (item ∷ items) some never = either_other lexeme (made (λ b. Some b) q) (pure None) item items (λ is. never item items lexeme refl is refl)

  pub no_tail : Leaves old new (λ found. found ≡ lexeme) → tail_or_none lexeme q (items_left old) ≡ Ok (None, items_left new)
  no_tail leaves =
      none_by (items_left old) (some_left old) (not_first old new (λ found. found ≡ lexeme) leaves) ∙ ap (λ (items : List Item). Ok (None, items)) (stays old new (λ found. found ≡ lexeme) leaves)

module _ {A B : Type 0} (p : Reader A) (lexeme : Lexeme) (q : Reader B) (starting : Starting p) (starts_tail : Starting q) (differ : (piece : Piece) → piece ≡ word lexeme → piece ≡ word right → ⊥) where
  abbrev row_read : Reader (Tailed A B)
  row_read = tailed_row p lexeme q

  abbrev with_entry : A × Option B → Reader (Tailed A B)
  with_entry x = made (λ more. x ∷ more) row_read

  abbrev optional : Reader (Option B)
  optional = tail_or_none lexeme q

  -- the rest of a row after a value, by whether its tail comes next
  abbrev by_tail : A → Reader (Tailed A B)
  by_tail a items = and_then (optional items) (λ o. with_entry (a, o))

  tail_first : (a : A) (x : Outcome B) → and_then x (λ b. with_entry (a, Some b)) ≡ and_then (and_then x (λ b rest. Ok (Some b, rest))) (λ o. with_entry (a, o))
  tail_first a (Ok x) = refl
  tail_first a (Err rest) = refl

  abbrev last_one : A → Reader (Tailed A B)
  last_one a = pure ((a, None) ∷ [])

  abbrev next : Reader (Tailed A B)
  next = next_value p lexeme q (rest_of p lexeme q)

  abbrev second : A → Reader (Tailed A B)
  second a = made (λ more. (a, None) ∷ more) next

  abbrev waiting : A → Reader (Tailed A B)
  waiting a = rest_of p lexeme q (Some a)

  without_tail : (a : A) (item : Item) (items : List Item) → (item.piece ≡ word lexeme → ⊥) → (item.piece ≡ word right) ⊎ (item.piece ≡ word right → ⊥) → waiting a (item ∷ items) ≡ with_entry (a, None) (item ∷ items)
  without_tail a item items never (inl is) =
      rest_at p lexeme q starting starts_tail (Some a) (item ∷ items) ∙ either_taken right (last_one a) (either lexeme (tail_of p lexeme q a (rest_of p lexeme q)) (second a)) item items is
      ∙ sym (ap (λ (x : Outcome (Tailed A B)). and_then x (λ more last. Ok ((a, None) ∷ more, last))) (rest_at p lexeme q starting starts_tail None (item ∷ items) ∙ either_taken right (pure []) next item items is))
  without_tail a item items never (inr not_right) =
      rest_at p lexeme q starting starts_tail (Some a) (item ∷ items) ∙ either_other right (last_one a) (either lexeme (tail_of p lexeme q a (rest_of p lexeme q)) (second a)) item items not_right
      ∙ either_other lexeme (tail_of p lexeme q a (rest_of p lexeme q)) (second a) item items never
      ∙ sym (ap (λ (x : Outcome (Tailed A B)). and_then x (λ more last. Ok ((a, None) ∷ more, last))) (rest_at p lexeme q starting starts_tail None (item ∷ items) ∙ either_other right (pure []) next item items not_right))

  waiting_by : (a : A) (item : Item) (items : List Item) → (item.piece ≡ word lexeme) ⊎ (item.piece ≡ word lexeme → ⊥) → waiting a (item ∷ items) ≡ by_tail a (item ∷ items)
  waiting_by a item items (inl is) =
      rest_at p lexeme q starting starts_tail (Some a) (item ∷ items) ∙ either_other right (last_one a) (either lexeme (tail_of p lexeme q a (rest_of p lexeme q)) (second a)) item items (differ item.piece is)
      ∙ either_taken lexeme (tail_of p lexeme q a (rest_of p lexeme q)) (second a) item items is ∙ tail_first a (q items)
      ∙ sym (ap (λ (x : Outcome (Option B)). and_then x (λ o. with_entry (a, o))) (either_taken lexeme (made (λ b. Some b) q) (pure None) item items is))
  waiting_by a item items (inr never) =
      without_tail a item items never (is_wanted right item.piece)
      ∙ sym (ap (λ (x : Outcome (Option B)). and_then x (λ o. with_entry (a, o))) (either_other lexeme (made (λ b. Some b) q) (pure None) item items never))

  waiting_is : (a : A) (items : List Item) → waiting a items ≡ by_tail a items
  waiting_is a [] =
      rest_nothing p lexeme q starting starts_tail (Some a)
      ∙ sym (ap (λ (x : Outcome (Option B)). and_then x (λ o. with_entry (a, o))) (either_nothing lexeme (made (λ b. Some b) q) (pure None)))
  waiting_is a (item ∷ items) = waiting_by a item items (is_wanted lexeme item.piece)

  -- a value and its tail
  abbrev pub entry : Reader (A × Option B)
  entry = both p optional

  entry_first : (a : A) (x : Outcome (Option B)) → and_then x (λ o. with_entry (a, o)) ≡ and_then (and_then x (λ o rest. Ok ((a, o), rest))) (λ e rest. and_then (row_read rest) (λ more last. Ok (e ∷ more, last)))
  entry_first a (Ok x) = refl
  entry_first a (Err rest) = refl

  next_by : (x : Outcome A) → and_then x waiting ≡ and_then (and_then x (λ a rest. and_then (optional rest) (λ o more. Ok ((a, o), more)))) (λ e rest. and_then (row_read rest) (λ more last. Ok (e ∷ more, last)))
  next_by (Ok x) = waiting_is x.0 x.1 ∙ entry_first x.0 (optional x.1)
  next_by (Err rest) = refl

  -- what the row is at each item
  pub entries_at : (items : List Item) → row_read items ≡ either right (pure []) (further entry row_read) items
  entries_at items = rest_at p lexeme q starting starts_tail None items ∙ either_same right (pure []) next (further entry row_read) items (next_by (p items))

  -- ---- what is left is shorter

  optional_shorter : (items : List Item) (o : Option B) (rest : List Item) → optional items ≡ Ok (o, rest) → length rest ≤ length items
  optional_shorter [] o rest e = absurd (let nothing = either_nothing lexeme (made (λ b. Some b) q) (pure None) in cc)
  optional_shorter (item ∷ items) o rest e = by (is_wanted lexeme item.piece)
    where
      said : (x : Outcome B) → q items ≡ x → and_then x (λ b last. Ok (Some b, last)) ≡ Ok (o, rest) → length rest ≤ length (item ∷ items)
      said (Ok x) is made_is =
          let short = is_shorter q starts_tail items x.0 x.1 is in
          omega (arith, short, ap length (ok_rest (Some x.0) o x.1 rest made_is))
      said (Err left) is made_is = absurd cc

      by : (item.piece ≡ word lexeme) ⊎ (item.piece ≡ word lexeme → ⊥) → length rest ≤ length (item ∷ items)
      by (inl is) = said (q items) refl (sym (either_taken lexeme (made (λ b. Some b) q) (pure None) item items is) ∙ e)
      by (inr never) =
          let none : ◌≡◌ {A = Outcome (Option B)} (Ok (None, item ∷ items)) (Ok (o, rest)) = sym (either_other lexeme (made (λ b. Some b) q) (pure None) item items never) ∙ e in
          omega (arith, ap length (ok_rest None o (item ∷ items) rest none))

  entry_shorter_by : (items : List Item) (x : Outcome A) → p items ≡ x → (e : A × Option B) (rest : List Item) → and_then x (λ a left. and_then (optional left) (λ o more. Ok ((a, o), more))) ≡ Ok (e, rest) → length rest < length items
  entry_shorter_by items (Err left) is e rest made_is = absurd cc
  entry_shorter_by items (Ok x) is e rest made_is = tail_by (optional x.1) refl made_is
    where
      tail_by : (y : Outcome (Option B)) → optional x.1 ≡ y → and_then y (λ o more. Ok ((x.0, o), more)) ≡ Ok (e, rest) → length rest < length items
      tail_by (Err left) tail_is made_is = absurd cc
      tail_by (Ok y) tail_is made_is =
          let short = is_shorter p starting items x.0 x.1 is in
          let more = optional_shorter x.1 y.0 y.1 tail_is in
          omega (arith, short, more, ap length (ok_rest (x.0, y.0) e y.1 rest made_is))

  pub entry_shorter : (items : List Item) (e : A × Option B) (rest : List Item) → entry items ≡ Ok (e, rest) → length rest < length items
  entry_shorter items e rest is = entry_shorter_by items (p items) refl e rest is

  -- ---- a loop that reads the row: what it has so far, and then what is still read

  module _ {S C : Type 0} (finish : S → List (A × Option B) → C) where
    state_more : (state after : S) (e : A × Option B) → ((more : List (A × Option B)) → finish state (e ∷ more) ≡ finish after more) → (x : Outcome (Tailed A B)) → from_state finish state (and_then x (λ more rest. Ok (e ∷ more, rest))) ≡ from_state finish after x
    state_more state after e takes (Ok x) = ap (λ (c : C). Ok (c, x.1)) (takes x.0)
    state_more state after e takes (Err rest) = refl

    abbrev others_of : A × Option B → Reader (Tailed A B)
    others_of e rest = and_then (row_read rest) (λ more last. Ok (e ∷ more, last))

    further_nothing : further entry row_read [] ≡ Err []
    further_nothing = ap (λ (x : Outcome A). and_then (and_then x (λ a left. and_then (optional left) (λ o more. Ok ((a, o), more)))) others_of) (starting 0).tries.nothing

    -- where no bracket closes it
    row_open : (old tried : Lexer) → Leaves old tried (λ found. found ≡ right) → row_read (items_left old) ≡ and_then (entry (items_left tried)) others_of
    row_open old tried leaves = entries_at (items_left old) ∙ second_taken right (pure []) (further entry row_read) old tried further_nothing leaves

    pub entries_go_on : (state after : S) (old tried next_one : Lexer) (e : A × Option B) (total : Outcome C) → ((more : List (A × Option B)) → finish state (e ∷ more) ≡ finish after more) → Leaves old tried (λ found. found ≡ right)
        → entry (items_left tried) ≡ Ok (e, items_left next_one) → from_state finish state (row_read (items_left old)) ≡ total → from_state finish after (row_read (items_left next_one)) ≡ total
    entries_go_on state after old tried next_one e total takes leaves is so_far =
        sym (state_more state after e takes (row_read (items_left next_one)))
        ∙ ap (from_state finish state) (sym (row_open old tried leaves ∙ ap (λ (x : Outcome (A × Option B)). and_then x others_of) is)) ∙ so_far

    pub entries_stop : (fault : ReadFault) (state : S) (old tried : Lexer) (rest : List Item) (total : Outcome C) → Leaves old tried (λ found. found ≡ right) → Stops rest fault (entry (items_left tried)) → from_state finish state (row_read (items_left old)) ≡ total → Stops rest fault total
    entries_stop fault_of.Next state old tried rest total leaves is so_far =
        sym so_far ∙ ap (from_state finish state) (row_open old tried leaves ∙ ap (λ (x : Outcome (A × Option B)). and_then x others_of) is)
    entries_stop fault_of.Memory state old tried rest total leaves is so_far = tt

    pub entries_done : (state : S) (old new : Lexer) (total : Outcome C) → Takes old new right → from_state finish state (row_read (items_left old)) ≡ total → total ≡ Ok (finish state [], items_left new)
    entries_done state old new total takes so_far =
        sym so_far ∙ ap (from_state finish state) (entries_at (items_left old) ∙ first_taken right (pure []) (further entry row_read) old new takes)

  pub entries_shorter : (old tried next_one : Lexer) (e : A × Option B) → Leaves old tried (λ found. found ≡ right) → entry (items_left tried) ≡ Ok (e, items_left next_one) → length (items_left next_one) < length (items_left old)
  entries_shorter old tried next_one e leaves is = entry_shorter (items_left old) e (items_left next_one) (ap entry (stays old tried (λ found. found ≡ right) leaves) ∙ is)
