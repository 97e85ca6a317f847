-- The readers of this crate are good.
use Rattle.std.proofs.Common.{◌≡◌, ℕ, zero, suc, ◌≤◌, Bool, cond, List, [], ◌∷◌, ◌++◌, length, Option, None, Some, Ok, Err, refl, sym, ap, ◌∙◌, arith}
use Rattle.np_lex.specs.Tokens.{Lexeme, Piece, word, end, Item, left, right}
use Rattle.np_lex.specs.declared.token.Kind.TheVariants.{Number}
use Rattle.np_read.specs.ItemReaders.{Outcome, Reader, and_then, pure, refuse, chosen, take, says, wanted, of_number, ended, expect, number_by, at_end, either, after, open_with, before, both, made, further, turns, row}
use Rattle.np_read.proofs.Same.{same_lexeme-refl}
use Rattle.np_read.proofs.Good.{Took, Goes, Stopped, Good, Tries, Starts, Starting, good_pure, good_starts, good_of, is_shorter, starts_next, tries_refuse, good_then, tries_then, starts_then}

-- a piece at no place of its own
abbrev pub at : Piece → Item
at piece = record { piece = piece; place = record { offset = 0; line = 0; column = 0 } }

-- ---- one item

starts_take : {A : Type 0} (k : ℕ) (value : Item → Option A) (item : Item) (a : A) → value item ≡ Some a → Starts k (take value)
starts_take k value item a is = starts_next k value pure (good_pure k) refuse (tries_refuse k) item a is

pub wanted_itself : (lexeme : Lexeme) → wanted lexeme lexeme ≡ Some tt
wanted_itself lexeme = ap (λ (b : Bool). cond b (Some tt) None) (same_lexeme-refl lexeme)

pub starts_expect : (k : ℕ) (lexeme : Lexeme) → Starts k (expect lexeme)
unfolding expect
starts_expect k lexeme = starts_take k (λ item. says (wanted lexeme) item.piece) (at (word lexeme)) tt (wanted_itself lexeme)

-- some text is a number
pub starts_number : {A : Type 0} (k : ℕ) (value : List ℕ → Option A) (text : List ℕ) (a : A) → value text ≡ Some a → Starts k (number_by value)
unfolding number_by
starts_number k value text a is = starts_take k (λ item. says (of_number value) item.piece) (at (word (record { kind = Number; text = text }))) a is

pub starts_end : (k : ℕ) → Starts k at_end
unfolding at_end
starts_end k = starts_take k (λ item. ended item.piece) (at end) tt refl

-- ---- a choice

module _ {A : Type 0} (k : ℕ) (lexeme : Lexeme) (first second : Reader A) (good : Good k first) (tries : Tries k second) where
  pub starts_either : Starts k (either lexeme first second)
  unfolding either
  starts_either = starts_next k (λ item. says (wanted lexeme) item.piece) (λ _. first) (λ _. good) second tries (at (word lexeme)) tt (wanted_itself lexeme)

-- ---- parts together

module _ {A : Type 0} (k : ℕ) where
  pub good_after : (first : Reader (Unit {0})) (p : Reader A) → Good k first → Good k p → Good k (after first p)
  good_after first p one two = good_then k first (λ _. p) (λ _. two) one

  pub starts_after : (first : Reader (Unit {0})) (p : Reader A) → Starts k first → Good k p → Starts k (after first p)
  starts_after first p one two = starts_then k first (λ _. p) (λ _. two) one

  last_good : (last : Reader (Unit {0})) → Good k last → (a : A) → Good k (λ rest. and_then (last rest) (λ _ more. Ok (a, more)))
  last_good last good a = good_then k last (λ _ more. Ok (a, more)) (λ _. good_pure k a) good

  pub good_before : (p : Reader A) (last : Reader (Unit {0})) → Good k p → Good k last → Good k (before p last)
  good_before p last one two = good_then k p (λ a rest. and_then (last rest) (λ _ more. Ok (a, more))) (last_good last two) one

  pub starts_before : (p : Reader A) (last : Reader (Unit {0})) → Starts k p → Good k last → Starts k (before p last)
  starts_before p last one two = starts_then k p (λ a rest. and_then (last rest) (λ _ more. Ok (a, more))) (last_good last two) one

module _ {A B : Type 0} (k : ℕ) where
  second_good : (q : Reader B) → Good k q → (a : A) → Good {A = A × B} k (λ rest. and_then (q rest) (λ b more. Ok ((a, b), more)))
  second_good q good a = good_then k q (λ b more. Ok ((a, b), more)) (λ b. good_pure k (a, b)) good

  pub good_both : (p : Reader A) (q : Reader B) → Good k p → Good k q → Good k (both p q)
  good_both p q one two = good_then k p (λ a rest. and_then (q rest) (λ b more. Ok ((a, b), more))) (second_good q two) one

  pub starts_both : (p : Reader A) (q : Reader B) → Starts k p → Good k q → Starts k (both p q)
  starts_both p q one two = starts_then k p (λ a rest. and_then (q rest) (λ b more. Ok ((a, b), more))) (second_good q two) one

  pub good_made : (make : A → B) (p : Reader A) → Good k p → Good k (made make p)
  good_made make p good = good_then k p (λ a rest. Ok (make a, rest)) (λ a. good_pure k (make a)) good

  pub starts_made : (make : A → B) (p : Reader A) → Starts k p → Starts k (made make p)
  starts_made make p starts = starts_then k p (λ a rest. Ok (make a, rest)) (λ a. good_pure k (make a)) starts

pub starts_open : (k : ℕ) (lexeme : Lexeme) → Starts k (open_with lexeme)
starts_open k lexeme = starts_after k (expect left) (expect lexeme) (starts_expect k left) (good_of k (expect lexeme) (starts_expect k lexeme))

-- ---- rows

-- two choices are the same where what they else read is
pub either_same : {A : Type 0} (lexeme : Lexeme) (first second third : Reader A) (items : List Item) → second items ≡ third items → either lexeme first second items ≡ either lexeme first third items
unfolding either
either_same lexeme first second third [] e = refl
either_same lexeme first second third (item ∷ items) e = ap (λ (o : Outcome _). chosen (says (wanted lexeme) item.piece) (λ _. first) o items) e

pub either_nothing : {A : Type 0} (lexeme : Lexeme) (first second : Reader A) → either lexeme first second [] ≡ Err []
unfolding either
either_nothing lexeme first second = refl

module _ {A : Type 0} (p : Reader A) (starting : Starting p) where
  turns_nothing : (most : ℕ) → turns most p [] ≡ Err []
  turns_nothing zero = either_nothing right (pure []) refuse
  turns_nothing (suc most) = either_nothing right (pure []) (further p (turns most p))

  further_same : (f g : Reader (List A)) (x : Outcome A) → ((a : A) (rest : List Item) → x ≡ Ok (a, rest) → f rest ≡ g rest) → and_then x (λ a rest. and_then (f rest) (λ more last. Ok (a ∷ more, last))) ≡ and_then x (λ a rest. and_then (g rest) (λ more last. Ok (a ∷ more, last)))
  further_same f g (Ok x) same = ap (λ (o : Outcome (List A)). and_then o (λ more last. Ok (x.0 ∷ more, last))) (same x.0 x.1 refl)
  further_same f g (Err r) same = refl

  turns_agree : (k j : ℕ) (items : List Item) → length items ≤ k → length items ≤ j → turns k p items ≡ turns j p items
  turns_agree k j [] le lf = turns_nothing k ∙ sym (turns_nothing j)
  turns_agree zero j (item ∷ items) le lf = absurd (omega arith)
  turns_agree (suc k) zero (item ∷ items) le lf = absurd (omega arith)
  turns_agree (suc k) (suc j) (item ∷ items) le lf =
      either_same right (pure []) (further p (turns k p)) (further p (turns j p)) (item ∷ items)
      (further_same (turns k p) (turns j p) (p (item ∷ items))
      (λ a rest e. let less = is_shorter p starting (item ∷ items) a rest e in turns_agree k j rest (omega arith) (omega arith)))

  -- what a row is at each item
  pub row_at : (items : List Item) → row p items ≡ either right (pure []) (further p (row p)) items
  unfolding row
  row_at [] = either_nothing right (pure []) refuse ∙ sym (either_nothing right (pure []) (further p (row p)))
  row_at (item ∷ items) =
      either_same right (pure []) (further p (turns (length items) p)) (further p (row p)) (item ∷ items)
      (further_same (turns (length items) p) (row p) (p (item ∷ items))
      (λ a rest e. let less = is_shorter p starting (item ∷ items) a rest e in turns_agree (length items) (length rest) rest (omega arith) (omega arith)))

  -- a reader that does the same is as good
  same_good : {B : Type 0} (k : ℕ) (f g : Reader B) → ((items : List Item) → f items ≡ g items) → Good k g → Good k f
  same_good k f g same good = record {
    some = record { more = good.some.more; value = good.some.value; reads = λ other. same (good.some.more ++ other) ∙ good.some.reads other };
    took = λ items rest a le e.
        let h = good.took items rest a le (sym (same items) ∙ e) in
        record { text = h.text; cut = h.cut; again = λ other. same (h.text ++ other) ∙ h.again other };
    stopped = λ items rest le e.
        let h = good.stopped items rest le (sym (same items) ∙ e) in
        record {
          front = h.front;
          cut = h.cut;
          goes = record { more = h.goes.more; value = h.goes.value; reads = λ other. same ((h.front ++ h.goes.more) ++ other) ∙ h.goes.reads other };
          same = λ item after other eq. same (h.front ++ item ∷ other) ∙ h.same item after other eq;
        };
  }

  further_tries : (k : ℕ) → Good k (row p) → Tries k (further p (row p))
  further_tries k good =
      tries_then k p (λ a rest. and_then (row p rest) (λ more last. Ok (a ∷ more, last)))
      (λ a. good_then k (row p) (λ more last. Ok (a ∷ more, last)) (λ more. good_pure k (a ∷ more)) good) (starting k).tries

  starts_row_by : (k : ℕ) → Good k (row p) → Starts k (either right (pure []) (further p (row p)))
  starts_row_by k good = starts_either k right (pure []) (further p (row p)) (good_pure k []) (further_tries k good)

  either_right : (second : Reader (List A)) (other : List Item) → either right (pure []) second (at (word right) ∷ other) ≡ Ok ([], other)
  unfolding either
  either_right second other = refl

  row_goes : Goes (row p) []
  row_goes = record {
    more = at (word right) ∷ [];
    value = [];
    reads = λ other. row_at (at (word right) ∷ other) ∙ either_right (further p (row p)) other;
  }

  row_nothing : row p [] ≡ Err []
  row_nothing = row_at [] ∙ either_nothing right (pure []) (further p (row p))

  took_none : (items rest : List Item) (a : List A) → length items ≤ 0 → row p items ≡ Ok (a, rest) → Took (row p) items rest a
  took_none [] rest a le e = absurd (let h = row_nothing in cc)
  took_none (item ∷ items) rest a le e = absurd (omega arith)

  stopped_none : (items rest : List Item) → length items ≤ 0 → row p items ≡ Err rest → Stopped (row p) items rest
  stopped_none [] rest le e =
      let is : [] ≡ rest = let h = row_nothing in cc in
      record { front = []; cut = is; goes = row_goes; same = λ u after other eq. absurd cc }
  stopped_none (item ∷ items) rest le e = absurd (omega arith)

  pub good_row : (k : ℕ) → Good k (row p)
  good_row zero = record { some = row_goes; took = took_none; stopped = stopped_none }
  good_row (suc k) = same_good (suc k) (row p) (either right (pure []) (further p (row p))) row_at (good_starts k (either right (pure []) (further p (row p))) (starts_row_by k (good_row k)))

  -- one value at least
  pub starts_further : (k : ℕ) → Starts k (further p (row p))
  starts_further k =
      starts_then k p (λ a rest. and_then (row p rest) (λ more last. Ok (a ∷ more, last)))
      (λ a. good_then k (row p) (λ more last. Ok (a ∷ more, last)) (λ more. good_pure k (a ∷ more)) (good_row k)) (starting k)
