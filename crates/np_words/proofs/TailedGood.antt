-- Rows of values with tails go by the items alone.
use Rattle.std.proofs.Common.{◌≡◌, ℕ, zero, suc, ◌≤◌, ◌<◌, List, [], ◌∷◌, ◌++◌, length, Option, None, Some, Ok, Err, refl, sym, ap, ◌∙◌, arith}
use Rattle.np_lex.specs.Tokens.{Lexeme, word, Item, right}
use Rattle.np_read.specs.ItemReaders.{Outcome, Reader, and_then, pure, refuse, chosen, says, wanted, either, made}
use Rattle.np_read.proofs.Good.{Took, Goes, Stopped, Good, Tries, Starts, Starting, good_pure, good_starts, good_of, is_shorter, good_then, tries_then}
use Rattle.np_read.proofs.GoodParts.{at, either_same, either_nothing, starts_either, good_made}
use Rattle.np_words.specs.TailedRows.{Tailed, next_value, tail_of, step, steps_within, rest_of}

then_same : {C D : Type 0} (x : Outcome C) (f g : C → Reader D) → ((c : C) (rest : List Item) → x ≡ Ok (c, rest) → f c rest ≡ g c rest) → and_then x f ≡ and_then x g
then_same (Ok x) f g same = same x.0 x.1 refl
then_same (Err rest) f g same = refl

chosen_same : {C D : Type 0} (o : Option C) (f g : Reader D) (other : Outcome D) (items : List Item) → f items ≡ g items → chosen o (λ _. f) other items ≡ chosen o (λ _. g) other items
chosen_same None f g other items e = refl
chosen_same (Some c) f g other items e = e

-- a reader that does the same is as good
same_good : {B : Type 0} (k : ℕ) (f g : Reader B) → ((items : List Item) → f items ≡ g items) → Good k g → Good k f
same_good k f g same good = record {
  some = record { more = good.some.more; value = good.some.value; reads = λ other. same (good.some.more ++ other) ∙ good.some.reads other };
  took = λ items rest a le e.
      let h = good.took items rest a le (sym (same items) ∙ e) in
      record { text = h.text; cut = h.cut; again = λ other. same (h.text ++ other) ∙ h.again other };
  stopped = λ items rest le e.
      let h = good.stopped items rest le (sym (same items) ∙ e) in
      record {
        front = h.front;
        cut = h.cut;
        goes = record { more = h.goes.more; value = h.goes.value; reads = λ other. same ((h.front ++ h.goes.more) ++ other) ∙ h.goes.reads other };
        same = λ item after other eq. same (h.front ++ item ∷ other) ∙ h.same item after other eq;
      };
}

module _ {A B : Type 0} (p : Reader A) (lexeme : Lexeme) (q : Reader B) (starting : Starting p) (starts_tail : Starting q) where
  abbrev Rest : Type 0
  Rest = Option A → Reader (Tailed A B)

  abbrev row_step : Rest → Rest
  row_step = step p lexeme q

  abbrev row_rest : Rest
  row_rest = rest_of p lexeme q

  -- ---- one step at a time

  -- two readers of the rest do the same on fewer items
  abbrev AgreeBelow : Rest → Rest → List Item → Type 0
  AgreeBelow f g items = (waiting : Option A) (rest : List Item) → length rest < length items → f waiting rest ≡ g waiting rest

  next_same : (f g : Rest) (items : List Item) → AgreeBelow f g items → next_value p lexeme q f items ≡ next_value p lexeme q g items
  next_same f g items agree =
      then_same (p items) (λ a. f (Some a)) (λ a. g (Some a)) (λ a rest e. agree (Some a) rest (is_shorter p starting items a rest e))

  abbrev with_entry : A × Option B → Outcome (Tailed A B) → Outcome (Tailed A B)
  with_entry entry x = and_then x (λ more rest. Ok (entry ∷ more, rest))

  tail_same : (a : A) (f g : Rest) (items : List Item) → AgreeBelow f g items → tail_of p lexeme q a f items ≡ tail_of p lexeme q a g items
  tail_same a f g items agree =
      then_same (q items) (λ b. made (λ more. (a, Some b) ∷ more) (f None)) (λ b. made (λ more. (a, Some b) ∷ more) (g None))
      (λ b rest e. ap (with_entry (a, Some b)) (agree None rest (is_shorter q starts_tail items b rest e)))

  -- the second choice where a value waits
  abbrev second_of : A → Rest → Reader (Tailed A B)
  second_of a f = made (λ more. (a, None) ∷ more) (next_value p lexeme q f)

  -- a choice does the same where what follows the lexeme does on fewer items, and what else is read does
  choice_same : (marker : Lexeme) (f g h k : Reader (Tailed A B)) (item : Item) (items : List Item) → f items ≡ g items → h (item ∷ items) ≡ k (item ∷ items) → either marker f h (item ∷ items) ≡ either marker g k (item ∷ items)
  unfolding either
  choice_same marker f g h k item items e d =
      ap (λ (o : Outcome (Tailed A B)). chosen (says (wanted marker) item.piece) (λ _. f) o items) d ∙ chosen_same (says (wanted marker) item.piece) f g (k (item ∷ items)) items e

  step_same : (f g : Rest) (waiting : Option A) (item : Item) (items : List Item) → AgreeBelow f g (item ∷ items) → AgreeBelow f g items → row_step f waiting (item ∷ items) ≡ row_step g waiting (item ∷ items)
  step_same f g None item items agree below = either_same right (pure []) (next_value p lexeme q f) (next_value p lexeme q g) (item ∷ items) (next_same f g (item ∷ items) agree)
  step_same f g (Some a) item items agree below =
      either_same right (pure ((a, None) ∷ [])) (either lexeme (tail_of p lexeme q a f) (second_of a f)) (either lexeme (tail_of p lexeme q a g) (second_of a g)) (item ∷ items)
      (choice_same lexeme (tail_of p lexeme q a f) (tail_of p lexeme q a g) (second_of a f) (second_of a g) item items (tail_same a f g items below) (ap (with_entry (a, None)) (next_same f g (item ∷ items) agree)))

  step_nothing : (f : Rest) (waiting : Option A) → row_step f waiting [] ≡ Err []
  step_nothing f None = either_nothing right (pure []) (next_value p lexeme q f)
  step_nothing f (Some a) = either_nothing right (pure ((a, None) ∷ [])) (either lexeme (tail_of p lexeme q a f) (second_of a f))

  within_nothing : (most : ℕ) (waiting : Option A) → steps_within p lexeme q most waiting [] ≡ Err []
  within_nothing zero waiting = step_nothing (λ w. refuse) waiting
  within_nothing (suc most) waiting = step_nothing (steps_within p lexeme q most) waiting

  within_agree : (k j : ℕ) (waiting : Option A) (items : List Item) → length items ≤ k → length items ≤ j → steps_within p lexeme q k waiting items ≡ steps_within p lexeme q j waiting items
  within_agree k j waiting [] le lf = within_nothing k waiting ∙ sym (within_nothing j waiting)
  within_agree zero j waiting (item ∷ items) le lf = absurd (omega arith)
  within_agree (suc k) zero waiting (item ∷ items) le lf = absurd (omega arith)
  within_agree (suc k) (suc j) waiting (item ∷ items) le lf =
      step_same (steps_within p lexeme q k) (steps_within p lexeme q j) waiting item items
      (λ w rest less. within_agree k j w rest (omega arith) (omega arith)) (λ w rest less. within_agree k j w rest (omega arith) (omega arith))

  -- what the rest of a row is at each item
  pub rest_at : (waiting : Option A) (items : List Item) → row_rest waiting items ≡ row_step row_rest waiting items
  unfolding rest_of
  rest_at waiting [] = step_nothing (λ w. refuse) waiting ∙ sym (step_nothing row_rest waiting)
  rest_at waiting (item ∷ items) =
      step_same (steps_within p lexeme q (length items)) row_rest waiting item items
      (λ w rest less. within_agree (length items) (length rest) w rest (omega arith) (omega arith))
      (λ w rest less. within_agree (length items) (length rest) w rest (omega arith) (omega arith))

  pub rest_nothing : (waiting : Option A) → row_rest waiting [] ≡ Err []
  rest_nothing waiting = rest_at waiting [] ∙ step_nothing row_rest waiting

  -- ---- by the items alone

  abbrev ended : Option A → Tailed A B
  ended None = []
  ended (Some a) = (a, None) ∷ []

  rest_ends : (waiting : Option A) (other : List Item) → row_step row_rest waiting (at (word right) ∷ other) ≡ Ok (ended waiting, other)
  unfolding either
  rest_ends None other = refl
  rest_ends (Some a) other = refl

  rest_goes : (waiting : Option A) → Goes (row_rest waiting) []
  rest_goes waiting = record {
    more = at (word right) ∷ [];
    value = ended waiting;
    reads = λ other. rest_at waiting (at (word right) ∷ other) ∙ rest_ends waiting other;
  }

  took_none : (waiting : Option A) (items rest : List Item) (xs : Tailed A B) → length items ≤ 0 → row_rest waiting items ≡ Ok (xs, rest) → Took (row_rest waiting) items rest xs
  took_none waiting [] rest xs le e = absurd (let h = rest_nothing waiting in cc)
  took_none waiting (item ∷ items) rest xs le e = absurd (omega arith)

  stopped_none : (waiting : Option A) (items rest : List Item) → length items ≤ 0 → row_rest waiting items ≡ Err rest → Stopped (row_rest waiting) items rest
  stopped_none waiting [] rest le e =
      let is : [] ≡ rest = let h = rest_nothing waiting in cc in
      record { front = []; cut = is; goes = rest_goes waiting; same = λ u after other eq. absurd cc }
  stopped_none waiting (item ∷ items) rest le e = absurd (omega arith)

  tries_value : (k : ℕ) → ((w : Option A) → Good k (row_rest w)) → Tries k (next_value p lexeme q row_rest)
  tries_value k good = tries_then k p (λ a. row_rest (Some a)) (λ a. good (Some a)) (starting k).tries

  good_tail : (k : ℕ) (a : A) → ((w : Option A) → Good k (row_rest w)) → Good k (tail_of p lexeme q a row_rest)
  good_tail k a good =
      good_then k q (λ b. made (λ more. (a, Some b) ∷ more) (row_rest None)) (λ b. good_made k (λ more. (a, Some b) ∷ more) (row_rest None) (good None))
      (good_of k q (starts_tail k))

  tries_second : (k : ℕ) (a : A) → ((w : Option A) → Good k (row_rest w)) → Tries k (second_of a row_rest)
  tries_second k a good =
      tries_then k (next_value p lexeme q row_rest) (λ more rest. Ok ((a, None) ∷ more, rest)) (λ more. good_pure k ((a, None) ∷ more)) (tries_value k good)

  starts_step : (k : ℕ) → ((w : Option A) → Good k (row_rest w)) → (waiting : Option A) → Starts k (row_step row_rest waiting)
  starts_step k good None = starts_either k right (pure []) (next_value p lexeme q row_rest) (good_pure k []) (tries_value k good)
  starts_step k good (Some a) =
      starts_either k right (pure ((a, None) ∷ [])) (either lexeme (tail_of p lexeme q a row_rest) (second_of a row_rest)) (good_pure k ((a, None) ∷ []))
      (starts_either k lexeme (tail_of p lexeme q a row_rest) (second_of a row_rest) (good_tail k a good) (tries_second k a good)).tries

  pub good_rest : (k : ℕ) (waiting : Option A) → Good k (row_rest waiting)
  good_rest zero waiting = record { some = rest_goes waiting; took = took_none waiting; stopped = stopped_none waiting }
  good_rest (suc k) waiting = same_good (suc k) (row_rest waiting) (row_step row_rest waiting) (rest_at waiting) (good_starts k (row_step row_rest waiting) (starts_step k (good_rest k) waiting))
