-- What is read is spelled so, and what is spelled so is read.
use Rattle.std.proofs.Common.{map, ◌≡◌, ℕ, zero, suc, ◌≤◌, ◌<◌, Bool, true, false, cond, List, [], ◌∷◌, ◌++◌, length, Some, None, refl, sym, ap, subst, ◌∙◌, arith, append_assoc}
use Rattle.std.specs.List.{All}
use Rattle.std.proofs.lemmas.List.{append-nil}
use Rattle.std.proofs.lemmas.List.Elements.{All-nil, All-cons, All-head, All-tail}
use Rattle.np_lex.specs.Tokens.{Lexeme, left, right}
use Rattle.np_lex.specs.declared.token.Kind.{Kind}
use Rattle.np_lex.specs.declared.token.Kind.TheVariants.{Number}
use Rattle.np_read.specs.Pieces.{Piece, word, bad}
use Rattle.np_read.specs.Printers.{Printed, all}
use Rattle.np_read.specs.Same.{same_lexeme}
use Rattle.np_read.proofs.Same.{same_lexeme_is, same_lexeme-refl}
use Rattle.np_read.specs.Readers.{Outcome, Reader, and_then, expect, open_with, after, before, both, made, closed_or, turns, row}

-- what holds of a value and the pieces after it, where there is one
abbrev pub Gets : {A : Type 0} → (A → List Piece → Type 0) → Outcome A → Type 0
Gets Q None = Unit {0}
Gets Q (Some x) = Q x.0 x.1

-- the value was read, and is spelled before what is left
pub record Took {A : Type 0} (P : A → Type 0) (print : A → Printed) (pieces : List Piece) (a : A) (rest : List Piece) : Type 0 where
  pub good : P a
  pub spelled : (ls : List Lexeme) → rest ≡ map word ls → pieces ≡ map word (print a ls)
  pub shorter : length rest < length pieces

-- what is read is spelled so, and what is spelled so is read
pub record Reads {A : Type 0} (P : A → Type 0) (print : A → Printed) (reader : Reader A) : Type 0 where
  pub sound : (pieces : List Piece) → Gets (Took P print pieces) (reader pieces)
  pub back : (a : A) (ls : List Lexeme) → P a → reader (map word (print a ls)) ≡ Some (a, map word ls)

-- each value is good
abbrev pub IsAny : Unit {0} → Type 0
IsAny _ = Unit {0}

-- step by step
pub then_at : {A B : Type 0} (P : A → List Piece → Type 0) (Q : B → List Piece → Type 0) (k : A → Reader B) (x : Outcome A) → Gets P x → ((a : A) (rest : List Piece) → P a rest → Gets Q (k a rest)) → Gets Q (and_then x k)
then_at P Q k None h go = tt
then_at P Q k (Some x) h go = go x.0 x.1 h

-- the fact of what is there
pub gets : {A : Type 0} (Q : A → List Piece → Type 0) (x : Outcome A) (a : A) (rest : List Piece) → Gets Q x → x ≡ Some (a, rest) → Q a rest
gets Q x a rest h e = subst (Gets Q) e h

weaker : {A : Type 0} (P Q : A → List Piece → Type 0) (x : Outcome A) → ((a : A) (rest : List Piece) → P a rest → Q a rest) → Gets P x → Gets Q x
weaker P Q None go h = tt
weaker P Q (Some x) go h = go x.0 x.1 h

-- ---- one lexeme

abbrev only : Lexeme → Unit {0} → Printed
only lexeme _ ls = lexeme ∷ ls

wanted_sound : (lexeme found : Lexeme) (pieces : List Piece) (b : Bool) → same_lexeme found lexeme ≡ b → Gets (Took IsAny (only lexeme) (word found ∷ pieces)) (cond b (Some (tt, pieces)) None)
wanted_sound lexeme found pieces true e = record {
  good = tt;
  spelled = λ ls is. ap (λ (l : Lexeme). word l ∷ pieces) (same_lexeme_is found lexeme e) ∙ ap (λ (ps : List Piece). word lexeme ∷ ps) is;
  shorter = omega arith;
}
wanted_sound lexeme found pieces false e = tt

expect_sound : (lexeme : Lexeme) (pieces : List Piece) → Gets (Took IsAny (only lexeme) pieces) (expect lexeme pieces)
unfolding expect
expect_sound lexeme [] = tt
expect_sound lexeme (bad ∷ pieces) = tt
expect_sound lexeme (word found ∷ pieces) = wanted_sound lexeme found pieces (same_lexeme found lexeme) refl

pub expect_back : (lexeme : Lexeme) (pieces : List Piece) → expect lexeme (word lexeme ∷ pieces) ≡ Some (tt, pieces)
unfolding expect
expect_back lexeme pieces = ap (λ (b : Bool). cond b (Some (tt, pieces)) None) (same_lexeme-refl lexeme)

expect_nil : (lexeme : Lexeme) → expect lexeme [] ≡ None
unfolding expect
expect_nil lexeme = refl

pub reads_expect : (lexeme : Lexeme) → Reads IsAny (only lexeme) (expect lexeme)
reads_expect lexeme = record { sound = expect_sound lexeme; back = λ a ls h. expect_back lexeme (map word ls) }

-- ---- parts together

module _ {A B : Type 0} {P : A → Type 0} {Q : B → Type 0} {f : A → Printed} {g : B → Printed} {p : Reader A} {q : Reader B} where
  pub reads_both : Reads P f p → Reads Q g q → Reads (λ (x : A × B). P x.0 × Q x.1) (λ (x : A × B) (ls : List Lexeme). f x.0 (g x.1 ls)) (both p q)
  reads_both one two = record {
    sound = λ pieces.
        then_at (Took P f pieces) (Took (λ (x : A × B). P x.0 × Q x.1) (λ (x : A × B) (ls : List Lexeme). f x.0 (g x.1 ls)) pieces) (λ a rest. and_then (q rest) (λ b more. Some ((a, b), more))) (p pieces) (one.sound pieces)
        (λ a rest h. then_at (Took Q g rest) (Took (λ (x : A × B). P x.0 × Q x.1) (λ (x : A × B) (ls : List Lexeme). f x.0 (g x.1 ls)) pieces) (λ b more. Some ((a, b), more)) (q rest) (two.sound rest)
        (λ b more k. record { good = (h.good, k.good); spelled = λ ls e. h.spelled (g b ls) (k.spelled ls e); shorter = omega (arith, h.shorter, k.shorter) }));
    back = λ x ls h.
        ap (λ (o : Outcome A). and_then o (λ a rest. and_then (q rest) (λ b more. Some ((a, b), more)))) (one.back x.0 (g x.1 ls) h.0)
        ∙ ap (λ (o : Outcome B). and_then o (λ b more. Some ((x.0, b), more))) (two.back x.1 ls h.1);
  }

module _ {A B : Type 0} {P : A → Type 0} {f : A → Printed} {p : Reader A} where
  pub reads_made : (Q : B → Type 0) (make : A → B) (parts : B → A) → ((a : A) → parts (make a) ≡ a) → ((b : B) → Q b → make (parts b) ≡ b) → ((a : A) → P a → Q (make a)) → ((b : B) → Q b → P (parts b)) → Reads P f p → Reads Q (λ (b : B) (ls : List Lexeme). f (parts b) ls) (made make p)
  reads_made Q make parts there here good parts_good one = record {
    sound = λ pieces.
        then_at (Took P f pieces) (Took Q (λ (b : B) (ls : List Lexeme). f (parts b) ls) pieces) (λ a rest. Some (make a, rest)) (p pieces) (one.sound pieces)
        (λ a rest h. record { good = good a h.good; spelled = λ ls e. h.spelled ls e ∙ ap (λ (x : A). map word (f x ls)) (sym (there a)); shorter = h.shorter });
    back = λ b ls h.
        ap (λ (o : Outcome A). and_then o (λ a rest. Some (make a, rest))) (one.back (parts b) ls (parts_good b h)) ∙ ap (λ (x : B). Some (x, map word ls)) (here b h);
  }

module _ {A : Type 0} {P : A → Type 0} {f : A → Printed} {p : Reader A} where
  pub reads_after : {first : Reader (Unit {0})} {g : Unit {0} → Printed} → Reads IsAny g first → Reads P f p → Reads P (λ (a : A) (ls : List Lexeme). g tt (f a ls)) (after first p)
  reads_after {first = first} {g = g} one two = record {
    sound = λ pieces.
        then_at (Took IsAny g pieces) (Took P (λ (a : A) (ls : List Lexeme). g tt (f a ls)) pieces) (λ _. p) (first pieces) (one.sound pieces)
        (λ u rest h. weaker (Took P f rest) (Took P (λ (a : A) (ls : List Lexeme). g tt (f a ls)) pieces) (p rest)
        (λ a more k. record { good = k.good; spelled = λ ls e. h.spelled (f a ls) (k.spelled ls e); shorter = omega (arith, h.shorter, k.shorter) }) (two.sound rest));
    back = λ a ls h. ap (λ (o : Outcome (Unit {0})). and_then o (λ _. p)) (one.back tt (f a ls) tt) ∙ two.back a ls h;
  }

  pub reads_before : (lexeme : Lexeme) → Reads P f p → Reads P (λ (a : A) (ls : List Lexeme). f a (lexeme ∷ ls)) (before p lexeme)
  reads_before lexeme one = record {
    sound = λ pieces.
        then_at (Took P f pieces) (Took P (λ (a : A) (ls : List Lexeme). f a (lexeme ∷ ls)) pieces) (λ a rest. and_then (expect lexeme rest) (λ _ more. Some (a, more))) (p pieces) (one.sound pieces)
        (λ a rest h. then_at (Took IsAny (only lexeme) rest) (Took P (λ (a : A) (ls : List Lexeme). f a (lexeme ∷ ls)) pieces) (λ _ more. Some (a, more)) (expect lexeme rest) (expect_sound lexeme rest)
        (λ u more k. record { good = h.good; spelled = λ ls e. h.spelled (lexeme ∷ ls) (k.spelled ls e); shorter = omega (arith, h.shorter, k.shorter) }));
    back = λ a ls h.
        ap (λ (o : Outcome A). and_then o (λ b rest. and_then (expect lexeme rest) (λ _ more. Some (b, more)))) (one.back a (lexeme ∷ ls) h)
        ∙ ap (λ (o : Outcome (Unit {0})). and_then o (λ _ more. Some (a, more))) (expect_back lexeme (map word ls));
  }

-- ( and a word
pub reads_open : (lexeme : Lexeme) → Reads IsAny (λ (u : Unit {0}) (ls : List Lexeme). left ∷ lexeme ∷ ls) (open_with lexeme)
reads_open lexeme = reads_after (reads_expect left) (reads_expect lexeme)

-- ---- rows

agree_at : {A B : Type 0} (f g : A → Reader B) (x : Outcome A) → Gets (λ a rest. f a rest ≡ g a rest) x → and_then x f ≡ and_then x g
agree_at f g None h = refl
agree_at f g (Some x) h = h

none_by : {A : Type 0} (x : Outcome A) → Gets (λ (a : A) (rest : List Piece). ⊥) x → x ≡ None
none_by None h = refl
none_by (Some x) h = absurd h

module _ {A : Type 0} {P : A → Type 0} {f : A → Printed} {p : Reader A} (reads : Reads P f p) where
  -- a value, and then the others
  abbrev pub further : (List Piece → Outcome (List A)) → A → Reader (List A)
  further others a rest = and_then (others rest) (λ more others. Some (a ∷ more, others))

  reads_nothing : p [] ≡ None
  reads_nothing = none_by (p []) (weaker (Took P f []) (λ a rest. ⊥) (p []) (λ a rest h. absurd (omega (arith, h.shorter))) (reads.sound []))

  turns_nothing : (most : ℕ) → turns most p [] ≡ None
  turns_nothing zero = ap (λ (o : Outcome (Unit {0})). closed_or o None) (expect_nil right)
  turns_nothing (suc most) =
      ap (λ (o : Outcome (Unit {0})). closed_or o (and_then (p []) (further (turns most p)))) (expect_nil right) ∙ ap (λ (o : Outcome A). and_then o (further (turns most p))) reads_nothing

  turns_agree : (k j : ℕ) (pieces : List Piece) → length pieces ≤ k → length pieces ≤ j → turns k p pieces ≡ turns j p pieces
  turns_agree k j [] le lj = turns_nothing k ∙ sym (turns_nothing j)
  turns_agree zero j (piece ∷ pieces) le lj = absurd (omega arith)
  turns_agree (suc k) zero (piece ∷ pieces) le lj = absurd (omega arith)
  turns_agree (suc k) (suc j) (piece ∷ pieces) le lj =
      let all = piece ∷ pieces in
      ap (closed_or (expect right all)) (agree_at (further (turns k p)) (further (turns j p)) (p all)
      (weaker (Took P f all) (λ a rest. further (turns k p) a rest ≡ further (turns j p) a rest) (p all)
      (λ a rest h. ap (λ (o : Outcome (List A)). and_then o (λ more others. Some (a ∷ more, others)))
      (turns_agree k j rest (omega (arith, h.shorter)) (omega (arith, h.shorter)))) (reads.sound all)))

  -- what a row is at each place
  pub row_at : (pieces : List Piece) → row p pieces ≡ closed_or (expect right pieces) (and_then (p pieces) (further (row p)))
  unfolding row
  row_at [] = turns_nothing 0 ∙ sym (ap (λ (o : Outcome (Unit {0})). closed_or o (and_then (p []) (further (row p)))) (expect_nil right) ∙ ap (λ (o : Outcome A). and_then o (further (row p))) reads_nothing)
  row_at (piece ∷ pieces) =
      let all = piece ∷ pieces in
      ap (closed_or (expect right all)) (agree_at (further (turns (length pieces) p)) (further (row p)) (p all)
      (weaker (Took P f all) (λ a rest. further (turns (length pieces) p) a rest ≡ further (row p) a rest) (p all)
      (λ a rest h. ap (λ (o : Outcome (List A)). and_then o (λ more others. Some (a ∷ more, others)))
      (turns_agree (length pieces) (length rest) rest (omega (arith, h.shorter)) (omega arith))) (reads.sound all)))

  abbrev pub Row : List Piece → List A → List Piece → Type 0
  Row pieces = Took (All P) (λ (xs : List A) (ls : List Lexeme). all f xs (right ∷ ls)) pieces

  closed_at : (pieces : List Piece) (x : Outcome (Unit {0})) (other : Outcome (List A)) → Gets (Took IsAny (only right) pieces) x → Gets (Row pieces) other → Gets (Row pieces) (closed_or x other)
  closed_at pieces None other h k = k
  closed_at pieces (Some x) other h k = record { good = All-nil P; spelled = h.spelled; shorter = h.shorter }

  turns_sound : (most : ℕ) (pieces : List Piece) → Gets (Row pieces) (turns most p pieces)
  turns_sound zero pieces = closed_at pieces (expect right pieces) None (expect_sound right pieces) tt
  turns_sound (suc most) pieces =
      closed_at pieces (expect right pieces) (and_then (p pieces) (further (turns most p))) (expect_sound right pieces)
      (then_at (Took P f pieces) (Row pieces) (further (turns most p)) (p pieces) (reads.sound pieces)
      (λ a rest h. then_at (Row rest) (Row pieces) (λ more others. Some (a ∷ more, others)) (turns most p rest) (turns_sound most rest)
      (λ more others k. record {
        good = All-cons P a more h.good k.good;
        spelled = λ ls e. h.spelled (all f more (right ∷ ls)) (k.spelled ls e);
        shorter = omega (arith, h.shorter, k.shorter);
      })))

  -- no value begins with a closing bracket
  abbrev pub Opens : Type 0
  Opens = (a : A) (ls : List Lexeme) → expect right (map word (f a ls)) ≡ None

  row_back : Opens → (xs : List A) (ls : List Lexeme) → All P xs → row p (map word (all f xs (right ∷ ls))) ≡ Some (xs, map word ls)
  row_back opens [] ls h = row_at (word right ∷ map word ls) ∙ ap (λ (o : Outcome (Unit {0})). closed_or o (and_then (p (word right ∷ map word ls)) (further (row p)))) (expect_back right (map word ls))
  row_back opens (a ∷ xs) ls h =
      let others = all f xs (right ∷ ls) in
      let pieces = map word (f a others) in
      row_at pieces
      ∙ ap (λ (o : Outcome (Unit {0})). closed_or o (and_then (p pieces) (further (row p)))) (opens a others)
      ∙ ap (λ (o : Outcome A). and_then o (further (row p))) (reads.back a others (All-head P a xs h))
      ∙ ap (λ (o : Outcome (List A)). and_then o (λ more rest. Some (a ∷ more, rest))) (row_back opens xs ls (All-tail P a xs h))

  row_sound : (pieces : List Piece) → Gets (Row pieces) (row p pieces)
  unfolding row
  row_sound pieces = turns_sound (length pieces) pieces

  pub reads_row : Opens → Reads (All P) (λ (xs : List A) (ls : List Lexeme). all f xs (right ∷ ls)) (row p)
  reads_row opens = record { sound = row_sound; back = row_back opens }

-- the first lexeme is an opening bracket
abbrev pub IsOpened : List Lexeme → Type 0
IsOpened [] = ⊥
IsOpened (lexeme ∷ ls) = lexeme ≡ left

left_not_right : (ls : List Lexeme) → expect right (map word (left ∷ ls)) ≡ None
unfolding expect
left_not_right ls = refl

-- what begins with an opening bracket doesn't begin with a closing one
pub not_right : (ls : List Lexeme) → IsOpened ls → expect right (map word ls) ≡ None
not_right [] h = absurd h
not_right (lexeme ∷ ls) h = ap (λ (l : Lexeme). expect right (map word (l ∷ ls))) h ∙ left_not_right ls

-- the first lexeme is a number
abbrev pub IsNumber : List Lexeme → Type 0
IsNumber [] = ⊥
IsNumber (lexeme ∷ ls) = lexeme.kind ≡ Number

number_not_right : (text : List ℕ) (ls : List Lexeme) → expect right (map word ((record { kind = Number; text = text }) ∷ ls)) ≡ None
unfolding expect
number_not_right text ls = refl

-- a number is no closing bracket
pub not_right_number : (ls : List Lexeme) → IsNumber ls → expect right (map word ls) ≡ None
not_right_number [] h = absurd h
not_right_number (lexeme ∷ ls) h = ap (λ (k : Kind). expect right (map word ((record { kind = k; text = lexeme.text }) ∷ ls))) h ∙ number_not_right lexeme.text ls

-- ---- a loop that reads a row: what it has so far, before what is still read

abbrev pub with_front : {A : Type 0} → List A → Outcome (List A) → Outcome (List A)
with_front front x = and_then x (λ more rest. Some (front ++ more, rest))

front_more : {A : Type 0} (front : List A) (a : A) (x : Outcome (List A)) → with_front front (and_then x (λ more rest. Some (a ∷ more, rest))) ≡ with_front (front ++ a ∷ []) x
front_more front a None = refl
front_more {A = A} front a (Some x) = ap (λ (xs : List A). Some (xs, x.1)) (sym (append_assoc front (a ∷ []) x.0))

module _ {A : Type 0} {P : A → Type 0} {f : A → Printed} {p : Reader A} (reads : Reads P f p) where
  -- where no bracket closes it
  row_open : (pieces : List Piece) → expect right pieces ≡ None → row p pieces ≡ and_then (p pieces) (further reads (row p))
  row_open pieces open_ = row_at reads pieces ∙ ap (λ (o : Outcome (Unit {0})). closed_or o (and_then (p pieces) (further reads (row p)))) open_

  pub loop_goes_on : (front : List A) (pieces : List Piece) (a : A) (rest : List Piece) (total : Outcome (List A)) → expect right pieces ≡ None → p pieces ≡ Some (a, rest) → with_front front (row p pieces) ≡ total → with_front (front ++ a ∷ []) (row p rest) ≡ total
  loop_goes_on front pieces a rest total open_ e so_far =
      sym (front_more front a (row p rest)) ∙ sym (ap (with_front front) (row_open pieces open_ ∙ ap (λ (o : Outcome A). and_then o (further reads (row p))) e)) ∙ so_far

  pub loop_done : (front : List A) (pieces rest : List Piece) (total : Outcome (List A)) → expect right pieces ≡ Some (tt, rest) → with_front front (row p pieces) ≡ total → total ≡ Some (front, rest)
  loop_done front pieces rest total closed so_far =
      sym so_far ∙ ap (with_front front) (row_at reads pieces ∙ ap (λ (o : Outcome (Unit {0})). closed_or o (and_then (p pieces) (further reads (row p)))) closed)
      ∙ ap (λ (xs : List A). Some (xs, rest)) (append-nil front)

  pub loop_nothing : (front : List A) (pieces : List Piece) (total : Outcome (List A)) → expect right pieces ≡ None → p pieces ≡ None → with_front front (row p pieces) ≡ total → total ≡ None
  loop_nothing front pieces total open_ e so_far = sym so_far ∙ ap (with_front front) (row_open pieces open_ ∙ ap (λ (o : Outcome A). and_then o (further reads (row p))) e)

  pub is_shorter : (pieces : List Piece) (a : A) (rest : List Piece) → p pieces ≡ Some (a, rest) → length rest < length pieces
  is_shorter pieces a rest e = (gets (Took P f pieces) (p pieces) a rest (reads.sound pieces) e).shorter
