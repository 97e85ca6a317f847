-- What is read is spelled so, and what is spelled so is read.
use Rattle.std.proofs.Common.{◌≡◌, ◌⊎◌, inl, inr, ℕ, zero, suc, Bool, true, false, cond, List, [], ◌∷◌, length, Option, None, Some, Ok, Err, refl, sym, ap, subst, ◌∙◌}
use Rattle.std.specs.List.{All}
use Rattle.std.proofs.lemmas.List.Elements.{All-nil, All-cons, All-head, All-tail}
use Rattle.np_lex.specs.Tokens.{Lexeme, Piece, word, bad, end, Item, left, right, numeral}
use Rattle.np_lex.specs.declared.token.Kind.{Kind}
use Rattle.np_lex.specs.declared.token.Kind.TheVariants.{Number}
use Rattle.np_read.specs.Same.{same_kind}
use Rattle.np_read.specs.Faults.{pieces_in, onto}
use Rattle.np_read.specs.Printers.{Printed, all}
use Rattle.np_read.specs.ItemReaders.{Outcome, Reader, and_then, pure, refuse, chosen, says, of_number, expect, number_by, either, after, open_with, before, both, made, further, turns, row}
use Rattle.np_read.proofs.Same.{same_kind_true}
use Rattle.np_read.proofs.Good.{Starting}
use Rattle.np_read.proofs.GoodParts.{either_nothing, row_at}
use Rattle.np_read.proofs.ItemChoices.{is_wanted, expect_taken, expect_refused, expect_nothing, either_taken, either_other}

-- what holds of a value and the items after it, where one is read
abbrev pub Gets : {A : Type 0} → (A → List Item → Type 0) → Outcome A → Type 0
Gets Q (Ok x) = Q x.0 x.1
Gets Q (Err rest) = Unit {0}

-- a value is read, and this holds of it and the items after it
abbrev pub Finds : {A : Type 0} → (A → List Item → Type 0) → Outcome A → Type 0
Finds Q (Ok x) = Q x.0 x.1
Finds Q (Err rest) = ⊥

-- the value is good, and is spelled before what is left
pub record Spelled {A : Type 0} (P : A → Type 0) (print : A → Printed) (items : List Item) (a : A) (rest : List Item) : Type 0 where
  pub good : P a
  pub spelled : (ls : List Lexeme) (others : List Piece) → pieces_in rest ≡ onto ls others → pieces_in items ≡ onto (print a ls) others

-- the value is the same, but for its places, and these pieces are left
pub record Back {A : Type 0} (Same : A → A → Type 0) (a : A) (left : List Piece) (b : A) (rest : List Item) : Type 0 where
  pub same : Same b a
  pub left_are : pieces_in rest ≡ left

-- what is read is spelled so, and what is spelled so is read
pub record Reads {A : Type 0} (P : A → Type 0) (print : A → Printed) (Same : A → A → Type 0) (p : Reader A) : Type 0 where
  pub sound : (items : List Item) → Gets (Spelled P print items) (p items)
  pub back : (items : List Item) (a : A) (ls : List Lexeme) (others : List Piece) → P a → pieces_in items ≡ onto (print a ls) others → Finds (Back Same a (onto ls others)) (p items)

-- ---- step by step

pub then_at : {A B : Type 0} (P : A → List Item → Type 0) (Q : B → List Item → Type 0) (k : A → Reader B) (x : Outcome A) → Gets P x → ((a : A) (rest : List Item) → P a rest → Gets Q (k a rest)) → Gets Q (and_then x k)
then_at P Q k (Ok x) h go = go x.0 x.1 h
then_at P Q k (Err rest) h go = tt

pub then_find : {A B : Type 0} (P : A → List Item → Type 0) (Q : B → List Item → Type 0) (k : A → Reader B) (x : Outcome A) → Finds P x → ((a : A) (rest : List Item) → P a rest → Finds Q (k a rest)) → Finds Q (and_then x k)
then_find P Q k (Ok x) h go = go x.0 x.1 h
then_find P Q k (Err rest) h go = absurd h

pub weaker : {A : Type 0} (P Q : A → List Item → Type 0) (x : Outcome A) → ((a : A) (rest : List Item) → P a rest → Q a rest) → Gets P x → Gets Q x
weaker P Q (Ok x) go h = go x.0 x.1 h
weaker P Q (Err rest) go h = tt

pub weaker_find : {A : Type 0} (P Q : A → List Item → Type 0) (x : Outcome A) → ((a : A) (rest : List Item) → P a rest → Q a rest) → Finds P x → Finds Q x
weaker_find P Q (Ok x) go h = go x.0 x.1 h
weaker_find P Q (Err rest) go h = absurd h

pub gets : {A : Type 0} (Q : A → List Item → Type 0) (x : Outcome A) (a : A) (rest : List Item) → Gets Q x → x ≡ Ok (a, rest) → Q a rest
gets Q x a rest h e = subst (Gets Q) e h

-- ---- pieces

abbrev head_or : Piece → List Piece → Piece
head_or other [] = other
head_or other (piece ∷ pieces) = piece

abbrev tail_of : List Piece → List Piece
tail_of [] = []
tail_of (piece ∷ pieces) = pieces

pub head_is : (a b : Piece) (x y : List Piece) → a ∷ x ≡ b ∷ y → a ≡ b
head_is a b x y e = ap (head_or a) e

pub tail_is : (a b : Piece) (x y : List Piece) → a ∷ x ≡ b ∷ y → x ≡ y
tail_is a b x y e = ap tail_of e

-- ---- nothing is read, for one value

module _ {A : Type 0} (a : A) where
  pub reads_pure : Reads (λ (b : A). b ≡ a) (λ b ls. ls) ◌≡◌ (pure a)
  reads_pure = record {
    sound = λ items. record { good = refl; spelled = λ ls others e. e };
    back = λ items b ls others h e. record { same = sym h; left_are = e };
  }

-- ---- one lexeme

abbrev pub IsAny : Unit {0} → Type 0
IsAny _ = Unit {0}

abbrev pub only : Lexeme → Unit {0} → Printed
only lexeme _ ls = lexeme ∷ ls

abbrev pub SameUnit : Unit {0} → Unit {0} → Type 0
SameUnit _ _ = Unit {0}

module _ (lexeme : Lexeme) where
  expect_by : (item : Item) (items : List Item) → (item.piece ≡ word lexeme) ⊎ (item.piece ≡ word lexeme → ⊥) → Gets (Spelled IsAny (only lexeme) (item ∷ items)) (expect lexeme (item ∷ items))
  expect_by item items (inl is) =
      subst (Gets (Spelled IsAny (only lexeme) (item ∷ items))) (sym (expect_taken lexeme item items is))
      (record { good = tt; spelled = λ ls others e. ap (λ (p : Piece). p ∷ pieces_in items) is ∙ ap (λ (ps : List Piece). word lexeme ∷ ps) e })
  expect_by item items (inr never) = subst (Gets (Spelled IsAny (only lexeme) (item ∷ items))) (sym (expect_refused lexeme item items never)) tt

  expect_sound : (items : List Item) → Gets (Spelled IsAny (only lexeme) items) (expect lexeme items)
  expect_sound [] = subst (Gets (Spelled IsAny (only lexeme) [])) (sym (expect_nothing lexeme)) tt
  expect_sound (item ∷ items) = expect_by item items (is_wanted lexeme item.piece)

  expect_back : (items : List Item) (u : Unit {0}) (ls : List Lexeme) (others : List Piece) → IsAny u → pieces_in items ≡ onto (lexeme ∷ ls) others → Finds (Back SameUnit u (onto ls others)) (expect lexeme items)
  expect_back [] u ls others h e = absurd cc
  expect_back (item ∷ items) u ls others h e =
      subst (Finds (Back SameUnit u (onto ls others))) (sym (expect_taken lexeme item items (head_is item.piece (word lexeme) (pieces_in items) (onto ls others) e)))
      (record { same = tt; left_are = tail_is item.piece (word lexeme) (pieces_in items) (onto ls others) e })

  pub reads_expect : Reads IsAny (only lexeme) SameUnit (expect lexeme)
  reads_expect = record { sound = expect_sound; back = expect_back }

-- ---- a number by its value

module _ {A : Type 0} (value : List ℕ → Option A) (P : A → Type 0) (text_of : A → List ℕ) where
  abbrev pub numbered : A → Printed
  numbered a ls = numeral (text_of a) ∷ ls

  -- what the text says is good, and has this text
  abbrev pub Says : List ℕ → A → Type 0
  Says text a = P a × (text ≡ text_of a)

  abbrev IfSaid : (A → Type 0) → Option A → Type 0
  IfSaid Q None = Unit {0}
  IfSaid Q (Some a) = Q a

  module _ (says_value : (text : List ℕ) (a : A) → value text ≡ Some a → Says text a) (value_is : (a : A) → P a → value (text_of a) ≡ Some a) where
    numeral_is : (found : Lexeme) (same : Bool) → same_kind found.kind Number ≡ same → (a : A) → cond same (value found.text) None ≡ Some a → P a × (found ≡ numeral (text_of a))
    numeral_is found true is a e =
        let said = says_value found.text a e in
        (said.0, ap (λ (k : Kind). record { kind = k; text = found.text }) (same_kind_true found.kind Number is) ∙ ap (λ (t : List ℕ). numeral t) said.1)
    numeral_is found false is a e = absurd cc

    said_is : (piece : Piece) (a : A) → says (of_number value) piece ≡ Some a → P a × (piece ≡ word (numeral (text_of a)))
    said_is (word found) a e = let h = numeral_is found (same_kind found.kind Number) refl a e in (h.0, ap (λ (l : Lexeme). word l) h.1)
    said_is bad a e = absurd cc
    said_is end a e = absurd cc

    number_at : (item : Item) (items : List Item) (o : Option A) → says (of_number value) item.piece ≡ o → Gets (Spelled P numbered (item ∷ items)) (chosen o pure (refuse (item ∷ items)) items)
    number_at item items None e = tt
    number_at item items (Some a) e =
        let h = said_is item.piece a e in
        record { good = h.0; spelled = λ ls others is. ap (λ (p : Piece). p ∷ pieces_in items) h.1 ∙ ap (λ (ps : List Piece). word (numeral (text_of a)) ∷ ps) is }

    number_sound : (items : List Item) → Gets (Spelled P numbered items) (number_by value items)
    unfolding number_by
    number_sound [] = tt
    number_sound (item ∷ items) = number_at item items (says (of_number value) item.piece) refl

    number_back : (items : List Item) (a : A) (ls : List Lexeme) (others : List Piece) → P a → pieces_in items ≡ onto (numbered a ls) others → Finds (Back ◌≡◌ a (onto ls others)) (number_by value items)
    unfolding number_by
    number_back [] a ls others h e = absurd cc
    number_back (item ∷ items) a ls others h e =
        let is : says (of_number value) item.piece ≡ Some a = ap (says (of_number value)) (head_is item.piece (word (numeral (text_of a))) (pieces_in items) (onto ls others) e) ∙ value_is a h in
        subst (λ (o : Option A). Finds (Back ◌≡◌ a (onto ls others)) (chosen o pure (refuse (item ∷ items)) items)) (sym is)
        (record { same = refl; left_are = tail_is item.piece (word (numeral (text_of a))) (pieces_in items) (onto ls others) e })

    pub reads_number : Reads P numbered ◌≡◌ (number_by value)
    reads_number = record { sound = number_sound; back = number_back }

-- ---- a choice

-- the reader refuses items that begin with this lexeme
abbrev pub Avoids : {A : Type 0} → Lexeme → Reader A → Type 0
Avoids lexeme p = (item : Item) (items : List Item) → item.piece ≡ word lexeme → p (item ∷ items) ≡ Err (item ∷ items)

module _ {A : Type 0} {P Q : A → Type 0} {print after_first : A → Printed} {Same : A → A → Type 0} {first second : Reader A} where
  module _ (lexeme : Lexeme) (one : Reads P after_first Same first) (two : Reads Q print Same second) (begins : (a : A) (ls : List Lexeme) → P a → print a ls ≡ lexeme ∷ after_first a ls) (nothing : second [] ≡ Err []) (avoids : Avoids lexeme second) where
    abbrev Either : A → Type 0
    Either a = P a ⊎ Q a

    either_by : (item : Item) (items : List Item) → (item.piece ≡ word lexeme) ⊎ (item.piece ≡ word lexeme → ⊥) → Gets (Spelled Either print (item ∷ items)) (either lexeme first second (item ∷ items))
    either_by item items (inl is) =
        subst (Gets (Spelled Either print (item ∷ items))) (sym (either_taken lexeme first second item items is))
        (weaker (Spelled P after_first items) (Spelled Either print (item ∷ items)) (first items)
        (λ a rest h. record {
          good = inl h.good;
          spelled = λ ls others e. ap (λ (p : Piece). p ∷ pieces_in items) is ∙ ap (λ (ps : List Piece). word lexeme ∷ ps) (h.spelled ls others e) ∙ ap (λ (all_of : List Lexeme). onto all_of others) (sym (begins a ls h.good));
        }) (one.sound items))
    either_by item items (inr never) =
        subst (Gets (Spelled Either print (item ∷ items))) (sym (either_other lexeme first second item items never))
        (weaker (Spelled Q print (item ∷ items)) (Spelled Either print (item ∷ items)) (second (item ∷ items)) (λ a rest h. record { good = inr h.good; spelled = h.spelled }) (two.sound (item ∷ items)))

    either_sound : (items : List Item) → Gets (Spelled Either print items) (either lexeme first second items)
    either_sound [] = subst (Gets (Spelled Either print [])) (sym (either_nothing lexeme first second)) tt
    either_sound (item ∷ items) = either_by item items (is_wanted lexeme item.piece)

    second_back : (item : Item) (items : List Item) (Q : A → List Item → Type 0) → Finds Q (second (item ∷ items)) → Finds Q (either lexeme first second (item ∷ items))
    second_back item items Q finds =
        let never : item.piece ≡ word lexeme → ⊥ = λ is. subst (Finds Q) (avoids item items is) finds in
        subst (Finds Q) (sym (either_other lexeme first second item items never)) finds

    either_back : (items : List Item) (a : A) (ls : List Lexeme) (others : List Piece) → Either a → pieces_in items ≡ onto (print a ls) others → Finds (Back Same a (onto ls others)) (either lexeme first second items)
    either_back [] a ls others (inl h) e =
        absurd (let begins_so : [] ≡ word lexeme ∷ onto (after_first a ls) others = e ∙ ap (λ (all_of : List Lexeme). onto all_of others) (begins a ls h) in cc)
    either_back (item ∷ items) a ls others (inl h) e =
        let begins_so : pieces_in (item ∷ items) ≡ word lexeme ∷ onto (after_first a ls) others = e ∙ ap (λ (all_of : List Lexeme). onto all_of others) (begins a ls h) in
        let is = head_is item.piece (word lexeme) (pieces_in items) (onto (after_first a ls) others) begins_so in
        subst (Finds (Back Same a (onto ls others))) (sym (either_taken lexeme first second item items is))
        (one.back items a ls others h (tail_is item.piece (word lexeme) (pieces_in items) (onto (after_first a ls) others) begins_so))
    either_back [] a ls others (inr h) e = absurd (subst (Finds (Back Same a (onto ls others))) nothing (two.back [] a ls others h e))
    either_back (item ∷ items) a ls others (inr h) e = second_back item items (Back Same a (onto ls others)) (two.back (item ∷ items) a ls others h e)

    pub reads_either : Reads Either print Same (either lexeme first second)
    reads_either = record { sound = either_sound; back = either_back }

-- the same of values that are named otherwise
pub reads_same : {A : Type 0} {P : A → Type 0} {print : A → Printed} {Same : A → A → Type 0} {p : Reader A} (Q : A → Type 0) → ((a : A) → P a → Q a) → ((a : A) → Q a → P a) → Reads P print Same p → Reads Q print Same p
reads_same {P = P} {print = print} {p = p} Q to from one = record {
  sound = λ items. weaker (Spelled P print items) (Spelled Q print items) (p items) (λ a rest h. record { good = to a h.good; spelled = h.spelled }) (one.sound items);
  back = λ items a ls others h e. one.back items a ls others (from a h) e;
}

-- ---- parts together

abbrev pub GoodPair : {A B : Type 0} → (A → Type 0) → (B → Type 0) → A × B → Type 0
GoodPair P Q x = P x.0 × Q x.1

abbrev pub print_pair : {A B : Type 0} → (A → Printed) → (B → Printed) → A × B → Printed
print_pair f g x ls = f x.0 (g x.1 ls)

abbrev pub SamePair : {A B : Type 0} → (A → A → Type 0) → (B → B → Type 0) → A × B → A × B → Type 0
SamePair S T x y = S x.0 y.0 × T x.1 y.1

-- a value that is made of a good one
abbrev pub Made : {A B : Type 0} → (A → B) → (A → Type 0) → B → Type 0
Made {A = A} make P b = (a : A) × (make a ≡ b) × P a

module _ {A B : Type 0} {P : A → Type 0} {Q : B → Type 0} {f : A → Printed} {g : B → Printed} {S : A → A → Type 0} {T : B → B → Type 0} {p : Reader A} {q : Reader B} where
  pub reads_both : Reads P f S p → Reads Q g T q → Reads (GoodPair P Q) (print_pair f g) (SamePair S T) (both p q)
  reads_both one two = record {
    sound = λ items.
        then_at (Spelled P f items) (Spelled (GoodPair P Q) (print_pair f g) items) (λ a rest. and_then (q rest) (λ b more. Ok ((a, b), more))) (p items) (one.sound items)
        (λ a rest h. then_at (Spelled Q g rest) (Spelled (GoodPair P Q) (print_pair f g) items) (λ b more. Ok ((a, b), more)) (q rest) (two.sound rest)
        (λ b more k. record { good = (h.good, k.good); spelled = λ ls others e. h.spelled (g b ls) others (k.spelled ls others e) }));
    back = λ items x ls others h e.
        then_find (Back S x.0 (onto (g x.1 ls) others)) (Back (SamePair S T) x (onto ls others)) (λ a rest. and_then (q rest) (λ b more. Ok ((a, b), more))) (p items) (one.back items x.0 (g x.1 ls) others h.0 e)
        (λ a rest m. then_find (Back T x.1 (onto ls others)) (Back (SamePair S T) x (onto ls others)) (λ b more. Ok ((a, b), more)) (q rest) (two.back rest x.1 ls others h.1 m.left_are)
        (λ b more n. record { same = (m.same, n.same); left_are = n.left_are }));
  }

module _ {A B : Type 0} {P : A → Type 0} {f : A → Printed} {S : A → A → Type 0} {p : Reader A} (make : A → B) (print : B → Printed) (T : B → B → Type 0) where
  pub reads_made : ((a : A) (ls : List Lexeme) → print (make a) ls ≡ f a ls) → ((a b : A) → S a b → T (make a) (make b)) → Reads P f S p → Reads (Made make P) print T (made make p)
  reads_made prints same one = record {
    sound = λ items.
        then_at (Spelled P f items) (Spelled (Made make P) print items) (λ a rest. Ok (make a, rest)) (p items) (one.sound items)
        (λ a rest h. record { good = (a, refl, h.good); spelled = λ ls others e. h.spelled ls others e ∙ ap (λ (all_of : List Lexeme). onto all_of others) (sym (prints a ls)) });
    back = λ items b ls others h e.
        then_find (Back S h.0 (onto ls others)) (Back T b (onto ls others)) (λ a rest. Ok (make a, rest)) (p items)
        (one.back items h.0 ls others h.2 (e ∙ ap (λ (c : B). onto (print c ls) others) (sym h.1) ∙ ap (λ (all_of : List Lexeme). onto all_of others) (prints h.0 ls)))
        (λ a rest m. record { same = subst (T (make a)) h.1 (same a h.0 m.same); left_are = m.left_are });
  }

module _ {A : Type 0} {P : A → Type 0} {f : A → Printed} {S : A → A → Type 0} {p : Reader A} {w : Reader (Unit {0})} {g : Unit {0} → Printed} where
  pub reads_after : Reads IsAny g SameUnit w → Reads P f S p → Reads P (λ (a : A) (ls : List Lexeme). g tt (f a ls)) S (after w p)
  reads_after one two = record {
    sound = λ items.
        then_at (Spelled IsAny g items) (Spelled P (λ (a : A) (ls : List Lexeme). g tt (f a ls)) items) (λ _. p) (w items) (one.sound items)
        (λ u rest h. weaker (Spelled P f rest) (Spelled P (λ (a : A) (ls : List Lexeme). g tt (f a ls)) items) (p rest)
        (λ a more k. record { good = k.good; spelled = λ ls others e. h.spelled (f a ls) others (k.spelled ls others e) }) (two.sound rest));
    back = λ items a ls others h e.
        then_find (Back SameUnit tt (onto (f a ls) others)) (Back S a (onto ls others)) (λ _. p) (w items) (one.back items tt (f a ls) others tt e)
        (λ u rest m. two.back rest a ls others h m.left_are);
  }

  pub reads_before : Reads P f S p → Reads IsAny g SameUnit w → Reads P (λ (a : A) (ls : List Lexeme). f a (g tt ls)) S (before p w)
  reads_before one two = record {
    sound = λ items.
        then_at (Spelled P f items) (Spelled P (λ (a : A) (ls : List Lexeme). f a (g tt ls)) items) (λ a rest. and_then (w rest) (λ _ more. Ok (a, more))) (p items) (one.sound items)
        (λ a rest h. then_at (Spelled IsAny g rest) (Spelled P (λ (a : A) (ls : List Lexeme). f a (g tt ls)) items) (λ _ more. Ok (a, more)) (w rest) (two.sound rest)
        (λ u more k. record { good = h.good; spelled = λ ls others e. h.spelled (g tt ls) others (k.spelled ls others e) }));
    back = λ items a ls others h e.
        then_find (Back S a (onto (g tt ls) others)) (Back S a (onto ls others)) (λ b rest. and_then (w rest) (λ _ more. Ok (b, more))) (p items) (one.back items a (g tt ls) others h e)
        (λ b rest m. then_find (Back SameUnit tt (onto ls others)) (Back S a (onto ls others)) (λ _ more. Ok (b, more)) (w rest) (two.back rest tt ls others tt m.left_are)
        (λ u more n. record { same = m.same; left_are = n.left_are }));
  }

pub reads_open : (lexeme : Lexeme) → Reads IsAny (λ (u : Unit {0}) (ls : List Lexeme). left ∷ lexeme ∷ ls) SameUnit (open_with lexeme)
reads_open lexeme = reads_after (reads_expect left) (reads_expect lexeme)

-- ---- rows

-- a list has a value
abbrev pub HasOne : {A : Type 0} → List A → Type 0
HasOne [] = ⊥
HasOne (x ∷ xs) = Unit {0}

-- two lists are the same, value by value
abbrev pub AllSame : {A : Type 0} → (A → A → Type 0) → List A → List A → Type 0
AllSame S [] [] = Unit {0}
AllSame S [] (b ∷ bs) = ⊥
AllSame S (a ∷ as_) [] = ⊥
AllSame S (a ∷ as_) (b ∷ bs) = S a b × AllSame S as_ bs

pub all_same : {A : Type 0} (xs ys : List A) → AllSame ◌≡◌ xs ys → xs ≡ ys
all_same [] [] h = refl
all_same [] (y ∷ ys) h = absurd h
all_same (x ∷ xs) [] h = absurd h
all_same {A = A} (x ∷ xs) (y ∷ ys) h = ap (λ (z : A). z ∷ xs) h.0 ∙ ap (λ (zs : List A). y ∷ zs) (all_same xs ys h.1)

module _ {A : Type 0} {P : A → Type 0} {f : A → Printed} {S : A → A → Type 0} {p : Reader A} (starting : Starting p) (reads : Reads P f S p) where
  abbrev row_print : List A → Printed
  row_print xs ls = all f xs (right ∷ ls)

  -- a row ends here, or else goes on
  closes_by : (second : Reader (List A)) (item : Item) (items : List Item) → (item.piece ≡ word right) ⊎ (item.piece ≡ word right → ⊥) → Gets (Spelled (All P) row_print (item ∷ items)) (second (item ∷ items)) → Gets (Spelled (All P) row_print (item ∷ items)) (either right (pure []) second (item ∷ items))
  closes_by second item items (inl is) h =
      subst (Gets (Spelled (All P) row_print (item ∷ items))) (sym (either_taken right (pure []) second item items is))
      (record { good = All-nil P; spelled = λ ls others e. ap (λ (piece : Piece). piece ∷ pieces_in items) is ∙ ap (λ (ps : List Piece). word right ∷ ps) e })
  closes_by second item items (inr never) h = subst (Gets (Spelled (All P) row_print (item ∷ items))) (sym (either_other right (pure []) second item items never)) h

  closes : (second : Reader (List A)) (items : List Item) → Gets (Spelled (All P) row_print items) (second items) → Gets (Spelled (All P) row_print items) (either right (pure []) second items)
  closes second [] h = subst (Gets (Spelled (All P) row_print [])) (sym (either_nothing right (pure []) second)) tt
  closes second (item ∷ items) h = closes_by second item items (is_wanted right item.piece) h

  further_sound : (others_read : Reader (List A)) → ((items : List Item) → Gets (Spelled (All P) row_print items) (others_read items)) → (items : List Item) → Gets (Spelled (All P) row_print items) (further p others_read items)
  further_sound others_read sound items =
      then_at (Spelled P f items) (Spelled (All P) row_print items) (λ a rest. and_then (others_read rest) (λ more last. Ok (a ∷ more, last))) (p items) (reads.sound items)
      (λ a rest h. then_at (Spelled (All P) row_print rest) (Spelled (All P) row_print items) (λ more last. Ok (a ∷ more, last)) (others_read rest) (sound rest)
      (λ more last k. record { good = All-cons P a more h.good k.good; spelled = λ ls others e. h.spelled (row_print more ls) others (k.spelled ls others e) }))

  turns_sound : (most : ℕ) (items : List Item) → Gets (Spelled (All P) row_print items) (turns most p items)
  turns_sound zero items = closes refuse items tt
  turns_sound (suc most) items = closes (further p (turns most p)) items (further_sound (turns most p) (turns_sound most) items)

  row_sound : (items : List Item) → Gets (Spelled (All P) row_print items) (row p items)
  unfolding row
  row_sound items = turns_sound (length items) items

  module _ (avoids : Avoids right p) where
    further_avoids : (others_read : Reader (List A)) → Avoids right (further p others_read)
    further_avoids others_read item items is = ap (λ (x : Outcome A). and_then x (λ a rest. and_then (others_read rest) (λ more last. Ok (a ∷ more, last)))) (avoids item items is)

    closed_back : (items : List Item) (ls : List Lexeme) (others : List Piece) → pieces_in items ≡ onto (right ∷ ls) others → Finds (Back (AllSame S) [] (onto ls others)) (row p items)
    closed_back [] ls others e = absurd cc
    closed_back (item ∷ items) ls others e =
        let is = head_is item.piece (word right) (pieces_in items) (onto ls others) e in
        subst (Finds (Back (AllSame S) [] (onto ls others))) (sym (row_at p starting (item ∷ items) ∙ either_taken right (pure []) (further p (row p)) item items is))
        (record { same = tt; left_are = tail_is item.piece (word right) (pieces_in items) (onto ls others) e })

    -- where a value is read, the row goes on
    open_by : (items : List Item) (Q : List A → List Item → Type 0) → Finds Q (further p (row p) items) → Finds Q (row p items)
    open_by [] Q finds = absurd (subst (Finds Q) (ap (λ (x : Outcome A). and_then x (λ a rest. and_then (row p rest) (λ more last. Ok (a ∷ more, last)))) (starting 0).tries.nothing) finds)
    open_by (item ∷ items) Q finds =
        let never : item.piece ≡ word right → ⊥ = λ is. subst (Finds Q) (further_avoids (row p) item items is) finds in
        subst (Finds Q) (sym (row_at p starting (item ∷ items) ∙ either_other right (pure []) (further p (row p)) item items never)) finds

    further_back : (a : A) (xs : List A) (items : List Item) (ls : List Lexeme) (others : List Piece) → ((rest : List Item) → pieces_in rest ≡ onto (row_print xs ls) others → Finds (Back (AllSame S) xs (onto ls others)) (row p rest))
        → P a → pieces_in items ≡ onto (row_print (a ∷ xs) ls) others → Finds (Back (AllSame S) (a ∷ xs) (onto ls others)) (further p (row p) items)
    further_back a xs items ls others more_back h e =
        then_find (Back S a (onto (row_print xs ls) others)) (Back (AllSame S) (a ∷ xs) (onto ls others)) (λ b rest. and_then (row p rest) (λ more last. Ok (b ∷ more, last))) (p items)
        (reads.back items a (row_print xs ls) others h e)
        (λ b rest m. then_find (Back (AllSame S) xs (onto ls others)) (Back (AllSame S) (a ∷ xs) (onto ls others)) (λ more last. Ok (b ∷ more, last)) (row p rest) (more_back rest m.left_are)
        (λ more last n. record { same = (m.same, n.same); left_are = n.left_are }))

    row_back : (xs : List A) (items : List Item) (ls : List Lexeme) (others : List Piece) → All P xs → pieces_in items ≡ onto (row_print xs ls) others → Finds (Back (AllSame S) xs (onto ls others)) (row p items)
    row_back [] items ls others h e = closed_back items ls others e
    row_back (a ∷ xs) items ls others h e =
        open_by items (Back (AllSame S) (a ∷ xs) (onto ls others)) (further_back a xs items ls others (λ rest is. row_back xs rest ls others (All-tail P a xs h) is) (All-head P a xs h) e)

    pub reads_row : Reads (All P) row_print (AllSame S) (row p)
    reads_row = record { sound = row_sound; back = λ items xs ls others h e. row_back xs items ls others h e }

    -- one value at least
    abbrev IsSomeAll : List A → Type 0
    IsSomeAll xs = HasOne xs × All P xs

    some_sound : (items : List Item) → Gets (Spelled IsSomeAll row_print items) (further p (row p) items)
    some_sound items =
        then_at (Spelled P f items) (Spelled IsSomeAll row_print items) (λ a rest. and_then (row p rest) (λ more last. Ok (a ∷ more, last))) (p items) (reads.sound items)
        (λ a rest h. then_at (Spelled (All P) row_print rest) (Spelled IsSomeAll row_print items) (λ more last. Ok (a ∷ more, last)) (row p rest) (row_sound rest)
        (λ more last k. record { good = (tt, All-cons P a more h.good k.good); spelled = λ ls others e. h.spelled (row_print more ls) others (k.spelled ls others e) }))

    some_back : (items : List Item) (xs : List A) (ls : List Lexeme) (others : List Piece) → IsSomeAll xs → pieces_in items ≡ onto (row_print xs ls) others → Finds (Back (AllSame S) xs (onto ls others)) (further p (row p) items)
    some_back items [] ls others h e = absurd h.0
    some_back items (a ∷ xs) ls others h e =
        further_back a xs items ls others (λ rest is. row_back xs rest ls others (All-tail P a xs h.1) is) (All-head P a xs h.1) e

    pub reads_some : Reads (λ (xs : List A). HasOne xs × All P xs) row_print (AllSame S) (further p (row p))
    reads_some = record { sound = some_sound; back = some_back }
