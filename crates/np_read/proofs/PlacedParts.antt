-- The laws of readers by places: they are good, what they read is spelled so and back, and it stands at the places that it keeps.
use Rattle.std.proofs.Common.{◌≡◌, ◌⊎◌, inl, inr, ℕ, Bool, true, false, cond, List, [], ◌∷◌, Option, None, Some, Ok, Err, refl, sym, ap, subst, ◌∙◌, true≢false}
use Rattle.np_lex.specs.declared.token.Place.{Place}
use Rattle.np_lex.specs.Tokens.{Lexeme, Piece, word, bad, end, Item}
use Rattle.np_read.specs.Same.{same_lexeme}
use Rattle.np_read.specs.Faults.{pieces_in, onto}
use Rattle.np_read.specs.Marks.{Mark, Marking, IsMarked, Fits}
use Rattle.np_read.specs.Printers.{Printed}
use Rattle.np_read.specs.PlacedReaders.{token_by, place_if, placed, either_by}
use Rattle.np_read.specs.ItemReaders.{Outcome, Reader, and_then, pure, refuse, chosen, says, wanted, expect, either, after, before, both, made, further}
use Rattle.np_read.proofs.Same.{same_lexeme_is, same_lexeme-refl}
use Rattle.np_read.proofs.Good.{Good, Tries, Starts, good_pure, starts_next, tries_refuse}
use Rattle.np_read.proofs.GoodParts.{wanted_itself}
use Rattle.np_read.proofs.ItemChoices.{expect_refused, either_other}
use Rattle.np_read.proofs.PlacedLexing.{place_yes}
use Rattle.np_read.proofs.Spelled.{Gets, Finds, Spelled, Back, Reads, then_at, then_find, weaker, gets, head_is, tail_is, Avoids, IsAny, SameUnit}
use Rattle.np_read.proofs.Marked.{Marked, Placed, plain, marked_at}

-- a lexeme at a place
abbrev pub placed_item : Place → Lexeme → Item
placed_item place lexeme = record { piece = word lexeme; place = place }

-- ---- good

-- some lexeme says something at some place
pub starts_token : {A : Type 0} (k : ℕ) (value : Place → Lexeme → Option A) (place : Place) (lexeme : Lexeme) (a : A) → value place lexeme ≡ Some a → Starts k (token_by value)
unfolding token_by
starts_token k value place lexeme a is =
    starts_next k (λ item. says (value item.place) item.piece) pure (good_pure k) refuse (tries_refuse k) (placed_item place lexeme) a is

pub starts_placed : (k : ℕ) (lexeme : Lexeme) → Starts k (placed lexeme)
starts_placed k lexeme = let place : Place = record { offset = 0; line = 0; column = 0 } in starts_token k (place_if lexeme) place lexeme place (place_yes lexeme place)

pub starts_either_by : {A B : Type 0} (k : ℕ) (value : Place → Lexeme → Option B) (follow : B → Reader A) (other : Reader A) → ((b : B) → Good k (follow b)) → Tries k other
    → (place : Place) (lexeme : Lexeme) (b : B) → value place lexeme ≡ Some b → Starts k (either_by value follow other)
unfolding either_by
starts_either_by k value follow other goods tries place lexeme b is =
    starts_next k (λ item. says (value item.place) item.piece) follow goods other tries (placed_item place lexeme) b is

-- ---- where a reader refuses at an item

-- the reader refuses these items
abbrev pub Refuses : {A : Type 0} → Reader A → List Item → Type 0
Refuses p items = p items ≡ Err items

pub silent : {A : Type 0} (value : Place → Lexeme → Option A) (item : Item) (lexeme : Lexeme) → item.piece ≡ word lexeme → value item.place lexeme ≡ None → says (value item.place) item.piece ≡ None
silent value item lexeme is none = ap (says (value item.place)) is ∙ none

pub token_refuses : {A : Type 0} (value : Place → Lexeme → Option A) (item : Item) (items : List Item) → says (value item.place) item.piece ≡ None → Refuses (token_by value) (item ∷ items)
unfolding token_by
token_refuses {A = A} value item items none = ap (λ (o : Option A). chosen o pure (refuse (item ∷ items)) items) none

pub token_nothing : {A : Type 0} (value : Place → Lexeme → Option A) → Refuses (token_by value) []
unfolding token_by
token_nothing value = refl

pub either_by_other : {A B : Type 0} (value : Place → Lexeme → Option B) (follow : B → Reader A) (other : Reader A) (item : Item) (items : List Item) → says (value item.place) item.piece ≡ None → either_by value follow other (item ∷ items) ≡ other (item ∷ items)
unfolding either_by
either_by_other {B = B} value follow other item items none = ap (λ (o : Option B). chosen o follow (other (item ∷ items)) items) none

pub either_by_taken : {A B : Type 0} (value : Place → Lexeme → Option B) (follow : B → Reader A) (other : Reader A) (item : Item) (items : List Item) (b : B) → says (value item.place) item.piece ≡ Some b → either_by value follow other (item ∷ items) ≡ follow b items
unfolding either_by
either_by_taken {B = B} value follow other item items b is = ap (λ (o : Option B). chosen o follow (other (item ∷ items)) items) is

pub either_by_nothing : {A B : Type 0} (value : Place → Lexeme → Option B) (follow : B → Reader A) (other : Reader A) → Refuses (either_by value follow other) []
unfolding either_by
either_by_nothing value follow other = refl

pub either_by_refuses : {A B : Type 0} (value : Place → Lexeme → Option B) (follow : B → Reader A) (other : Reader A) (item : Item) (items : List Item) → says (value item.place) item.piece ≡ None → Refuses other (item ∷ items) → Refuses (either_by value follow other) (item ∷ items)
either_by_refuses value follow other item items none refuses = either_by_other value follow other item items none ∙ refuses

pub either_refuses : {A : Type 0} (lexeme : Lexeme) (first second : Reader A) (item : Item) (items : List Item) → (item.piece ≡ word lexeme → ⊥) → Refuses second (item ∷ items) → Refuses (either lexeme first second) (item ∷ items)
either_refuses lexeme first second item items never refuses = either_other lexeme first second item items never ∙ refuses

pub then_refuses : {A B : Type 0} (p : Reader A) (follow : A → Reader B) (items : List Item) → Refuses p items → and_then (p items) follow ≡ Err items
then_refuses {A = A} p follow items refuses = ap (λ (x : Outcome A). and_then x follow) refuses

pub after_refuses : {A : Type 0} (first : Reader (Unit {0})) (p : Reader A) (items : List Item) → Refuses first items → Refuses (after first p) items
after_refuses first p items refuses = then_refuses first (λ _. p) items refuses

pub before_refuses : {A : Type 0} (p : Reader A) (last : Reader (Unit {0})) (items : List Item) → Refuses p items → Refuses (before p last) items
before_refuses p last items refuses = then_refuses p (λ a rest. and_then (last rest) (λ _ more. Ok (a, more))) items refuses

pub both_refuses : {A B : Type 0} (p : Reader A) (q : Reader B) (items : List Item) → Refuses p items → Refuses (both p q) items
both_refuses p q items refuses = then_refuses p (λ a rest. and_then (q rest) (λ b more. Ok ((a, b), more))) items refuses

pub made_refuses : {A B : Type 0} (make : A → B) (p : Reader A) (items : List Item) → Refuses p items → Refuses (made make p) items
made_refuses make p items refuses = then_refuses p (λ a rest. Ok (make a, rest)) items refuses

pub further_refuses : {A : Type 0} (p : Reader A) (others : Reader (List A)) (items : List Item) → Refuses p items → Refuses (further p others) items
further_refuses p others items refuses = then_refuses p (λ a rest. and_then (others rest) (λ more last. Ok (a ∷ more, last))) items refuses

-- ---- one lexeme

-- what a piece says, a lexeme says
pub said_by : {A : Type 0} (value : Lexeme → Option A) (piece : Piece) (a : A) → says value piece ≡ Some a → (lexeme : Lexeme) × (piece ≡ word lexeme) × (value lexeme ≡ Some a)
said_by value (word lexeme) a e = (lexeme, refl, e)
said_by value bad a e = absurd cc
said_by value end a e = absurd cc

module _ {A : Type 0} (value : Place → Lexeme → Option A) (P : A → Type 0) where
  module _ (lexeme_of : A → Lexeme) (Same : A → A → Type 0) where
    -- what a lexeme says is good and has this lexeme
    abbrev pub SaysSpelled : Type 0
    SaysSpelled = (place : Place) (lexeme : Lexeme) (a : A) → value place lexeme ≡ Some a → P a × (lexeme ≡ lexeme_of a)

    -- at every place the lexeme of a good value says the same value
    abbrev pub SaysBack : Type 0
    SaysBack = (place : Place) (a : A) → P a → (b : A) × (value place (lexeme_of a) ≡ Some b) × Same b a

    abbrev pub one_lexeme : A → Printed
    one_lexeme a ls = lexeme_of a ∷ ls

    module _ (says_spelled : SaysSpelled) (says_back : SaysBack) where
      token_at : (item : Item) (items : List Item) (o : Option A) → says (value item.place) item.piece ≡ o → Gets (Spelled P one_lexeme (item ∷ items)) (chosen o pure (refuse (item ∷ items)) items)
      token_at item items None e = tt
      token_at item items (Some a) e =
          let said = said_by (value item.place) item.piece a e in
          let good = says_spelled item.place said.0 a said.2 in
          let is : item.piece ≡ word (lexeme_of a) = said.1 ∙ ap (λ (l : Lexeme). word l) good.1 in
          record { good = good.0; spelled = λ ls others left. ap (λ (p : Piece). p ∷ pieces_in items) is ∙ ap (λ (ps : List Piece). word (lexeme_of a) ∷ ps) left }

      token_sound : (items : List Item) → Gets (Spelled P one_lexeme items) (token_by value items)
      unfolding token_by
      token_sound [] = tt
      token_sound (item ∷ items) = token_at item items (says (value item.place) item.piece) refl

      token_back : (items : List Item) (a : A) (ls : List Lexeme) (others : List Piece) → P a → pieces_in items ≡ onto (one_lexeme a ls) others → Finds (Back Same a (onto ls others)) (token_by value items)
      unfolding token_by
      token_back [] a ls others h e = absurd cc
      token_back (item ∷ items) a ls others h e =
          let back = says_back item.place a h in
          let is : says (value item.place) item.piece ≡ Some back.0 = ap (says (value item.place)) (head_is item.piece (word (lexeme_of a)) (pieces_in items) (onto ls others) e) ∙ back.1 in
          subst (λ (o : Option A). Finds (Back Same a (onto ls others)) (chosen o pure (refuse (item ∷ items)) items)) (sym is)
          (record { same = back.2; left_are = tail_is item.piece (word (lexeme_of a)) (pieces_in items) (onto ls others) e })

      pub reads_token : Reads P one_lexeme Same (token_by value)
      reads_token = record { sound = token_sound; back = token_back }

  module _ (mark_of : A → Mark) where
    -- what a lexeme says is good, and is marked by this lexeme at no other place
    abbrev pub SaysMarked : Type 0
    SaysMarked = (place : Place) (lexeme : Lexeme) (a : A) → value place lexeme ≡ Some a → P a × IsMarked (placed_item place lexeme) (mark_of a)

    abbrev pub one_mark : A → Marking
    one_mark a ms = mark_of a ∷ ms

    said_marked : SaysMarked → (item : Item) (a : A) → says (value item.place) item.piece ≡ Some a → P a × IsMarked item (mark_of a)
    said_marked says_marked item a e =
        let said = said_by (value item.place) item.piece a e in
        let h = says_marked item.place said.0 a said.2 in
        (h.0, record { piece = said.1 ∙ h.1.piece; places = h.1.places })

    module _ (says_marked : SaysMarked) where
      marked_by : (item : Item) (items : List Item) (o : Option A) → says (value item.place) item.piece ≡ o → Gets (Marked P one_mark (item ∷ items)) (chosen o pure (refuse (item ∷ items)) items)
      marked_by item items None e = tt
      marked_by item items (Some a) e = let h = said_marked says_marked item a e in record { good = h.0; fits = λ ms others f. (h.1, f) }

      token_marked : (items : List Item) → Gets (Marked P one_mark items) (token_by value items)
      unfolding token_by
      token_marked [] = tt
      token_marked (item ∷ items) = marked_by item items (says (value item.place) item.piece) refl

      pub placed_token : Placed P one_mark (token_by value)
      placed_token = record { placed = token_marked }

-- ---- what a lexeme says, by what its reader reads

word_is : (a b : Lexeme) → word a ≡ word b → a ≡ b
word_is a b e = cc

module _ {A : Type 0} (value : Place → Lexeme → Option A) where
  token_of : (place : Place) (lexeme : Lexeme) (a : A) → value place lexeme ≡ Some a → token_by value (placed_item place lexeme ∷ []) ≡ Ok (a, [])
  unfolding token_by
  token_of place lexeme a e = ap (λ (o : Option A). chosen o pure (refuse (placed_item place lexeme ∷ [])) []) e

  found_back : (Q : A → List Item → Type 0) (place : Place) (lexeme : Lexeme) (o : Option A) → value place lexeme ≡ o → Finds Q (chosen o pure (refuse (placed_item place lexeme ∷ [])) []) → (b : A) × (value place lexeme ≡ Some b) × Q b []
  found_back Q place lexeme None e h = absurd h
  found_back Q place lexeme (Some b) e h = (b, e, h)

  module _ {P : A → Type 0} (lexeme_of : A → Lexeme) (Same : A → A → Type 0) (reads : Reads P (λ (a : A) (ls : List Lexeme). lexeme_of a ∷ ls) Same (token_by value)) where
    pub says_spelled : SaysSpelled value P lexeme_of Same
    says_spelled place lexeme a e =
        let h = gets (Spelled P (λ (b : A) (ls : List Lexeme). lexeme_of b ∷ ls) (placed_item place lexeme ∷ [])) (token_by value (placed_item place lexeme ∷ [])) a [] (reads.sound (placed_item place lexeme ∷ [])) (token_of place lexeme a e) in
        (h.good, word_is lexeme (lexeme_of a) (head_is (word lexeme) (word (lexeme_of a)) [] [] (h.spelled [] [] refl)))

    pub says_back : SaysBack value P lexeme_of Same
    unfolding token_by
    says_back place a h =
        let found = found_back (Back Same a []) place (lexeme_of a) (value place (lexeme_of a)) refl (reads.back (placed_item place (lexeme_of a) ∷ []) a [] [] h refl) in
        (found.0, found.1, found.2.same)

  module _ {P : A → Type 0} (mark_of : A → Mark) (placed_by : Placed P (λ (a : A) (ms : List Mark). mark_of a ∷ ms) (token_by value)) where
    pub says_marked : SaysMarked value P mark_of
    says_marked place lexeme a e =
        let h = gets (Marked P (λ (b : A) (ms : List Mark). mark_of b ∷ ms) (placed_item place lexeme ∷ [])) (token_by value (placed_item place lexeme ∷ [])) a [] (placed_by.placed (placed_item place lexeme ∷ [])) (token_of place lexeme a e) in
        let fits = h.fits [] [] refl in
        (h.good, fits.0)

-- ---- a wanted lexeme, as its place

abbrev pub IsAnyPlace : Place → Type 0
IsAnyPlace _ = Unit {0}

abbrev pub SamePlace : Place → Place → Type 0
SamePlace _ _ = Unit {0}

module _ (lexeme : Lexeme) where
  abbrev place_lexeme : Place → Lexeme
  place_lexeme _ = lexeme

  abbrev pub place_mark : Place → Mark
  place_mark place = marked_at place lexeme

  place_is_by : (place : Place) (found : Lexeme) (same : Bool) → same_lexeme found lexeme ≡ same → (at_place : Place) → cond same (Some place) None ≡ Some at_place → (found ≡ lexeme) × (at_place ≡ place)
  place_is_by place found true e at_place is = (same_lexeme_is found lexeme e, (let same : at_place ≡ place = cc in same))
  place_is_by place found false e at_place is = absurd cc

  pub place_is : (place : Place) (found : Lexeme) (at_place : Place) → place_if lexeme place found ≡ Some at_place → (found ≡ lexeme) × (at_place ≡ place)
  place_is place found at_place is = place_is_by place found (same_lexeme found lexeme) refl at_place is

  pub reads_placed : Reads IsAnyPlace (λ (place : Place) (ls : List Lexeme). lexeme ∷ ls) SamePlace (placed lexeme)
  reads_placed =
      reads_token (place_if lexeme) IsAnyPlace place_lexeme SamePlace (λ place found at_place is. (tt, (place_is place found at_place is).0))
      (λ place at_place _. (place, place_yes lexeme place, tt))

  pub placed_placed : Placed IsAnyPlace (λ (place : Place) (ms : List Mark). marked_at place lexeme ∷ ms) (placed lexeme)
  placed_placed =
      placed_token (place_if lexeme) IsAnyPlace place_mark
      (λ place found at_place is. let h = place_is place found at_place is in (tt, record { piece = ap (λ (l : Lexeme). word l) h.0; places = (h.1, tt) }))

-- ---- a choice

-- a value that is made of what the first lexeme says and of what follows it
abbrev pub MadeOf : {A B C : Type 0} → (B → C → A) → (B → Type 0) → (C → Type 0) → A → Type 0
MadeOf {B = B} {C = C} make P Q a = (b : B) × (c : C) × (make b c ≡ a) × P b × Q c

module _ {A B C : Type 0} (value : Place → Lexeme → Option B) (P : B → Type 0) (make : B → C → A) where
  -- the second reader refuses where the first lexeme says something
  abbrev pub AvoidsSaid : Reader A → Type 0
  AvoidsSaid second = (item : Item) (items : List Item) (b : B) → says (value item.place) item.piece ≡ Some b → Refuses second (item ∷ items)

  module _ {Q : C → Type 0} {R : A → Type 0} {print : A → Printed} {follow_print : C → Printed} {Same : A → A → Type 0} {SameNext : C → C → Type 0} {next : Reader C} {second : Reader A} where
    module _ (lexeme_of : B → Lexeme) (SameFirst : B → B → Type 0) (says_spelled : SaysSpelled value P lexeme_of SameFirst) (says_back : SaysBack value P lexeme_of SameFirst)
        (prints : (b : B) (c : C) (ls : List Lexeme) → print (make b c) ls ≡ lexeme_of b ∷ follow_print c ls)
        (same : (b d : B) (c e : C) → SameFirst b d → SameNext c e → Same (make b c) (make d e))
        (one : Reads Q follow_print SameNext next) (two : Reads R print Same second) (nothing : Refuses second []) (avoids : AvoidsSaid second) where
      abbrev Either : A → Type 0
      Either a = MadeOf make P Q a ⊎ R a

      abbrev follow : B → Reader A
      follow b = made (make b) next

      first_sound : (item : Item) (items : List Item) (b : B) → says (value item.place) item.piece ≡ Some b → Gets (Spelled Either print (item ∷ items)) (follow b items)
      first_sound item items b e =
          let said = said_by (value item.place) item.piece b e in
          let good = says_spelled item.place said.0 b said.2 in
          let is : item.piece ≡ word (lexeme_of b) = said.1 ∙ ap (λ (l : Lexeme). word l) good.1 in
          then_at (Spelled Q follow_print items) (Spelled Either print (item ∷ items)) (λ c rest. Ok (make b c, rest)) (next items) (one.sound items)
          (λ c rest h. record {
            good = inl (b, c, refl, good.0, h.good);
            spelled = λ ls others left.
                ap (λ (p : Piece). p ∷ pieces_in items) is ∙ ap (λ (ps : List Piece). word (lexeme_of b) ∷ ps) (h.spelled ls others left)
                ∙ ap (λ (all_of : List Lexeme). onto all_of others) (sym (prints b c ls));
          })

      sound_by : (item : Item) (items : List Item) (o : Option B) → says (value item.place) item.piece ≡ o → Gets (Spelled Either print (item ∷ items)) (either_by value follow second (item ∷ items))
      sound_by item items None e =
          subst (Gets (Spelled Either print (item ∷ items))) (sym (either_by_other value follow second item items e))
          (weaker (Spelled R print (item ∷ items)) (Spelled Either print (item ∷ items)) (second (item ∷ items)) (λ a rest h. record { good = inr h.good; spelled = h.spelled }) (two.sound (item ∷ items)))
      sound_by item items (Some b) e =
          subst (Gets (Spelled Either print (item ∷ items))) (sym (either_by_taken value follow second item items b e)) (first_sound item items b e)

      either_sound : (items : List Item) → Gets (Spelled Either print items) (either_by value follow second items)
      either_sound [] = subst (Gets (Spelled Either print [])) (sym (either_by_nothing value follow second)) tt
      either_sound (item ∷ items) = sound_by item items (says (value item.place) item.piece) refl

      first_back : (item : Item) (items : List Item) (b : B) (c : C) (ls : List Lexeme) (others : List Piece) → P b → Q c → item.piece ∷ pieces_in items ≡ word (lexeme_of b) ∷ onto (follow_print c ls) others
          → Finds (Back Same (make b c) (onto ls others)) (either_by value follow second (item ∷ items))
      first_back item items b c ls others h k e =
          let back = says_back item.place b h in
          let is : says (value item.place) item.piece ≡ Some back.0 = ap (says (value item.place)) (head_is item.piece (word (lexeme_of b)) (pieces_in items) (onto (follow_print c ls) others) e) ∙ back.1 in
          subst (Finds (Back Same (make b c) (onto ls others))) (sym (either_by_taken value follow second item items back.0 is))
          (then_find (Back SameNext c (onto ls others)) (Back Same (make b c) (onto ls others)) (λ d rest. Ok (make back.0 d, rest)) (next items)
          (one.back items c ls others k (tail_is item.piece (word (lexeme_of b)) (pieces_in items) (onto (follow_print c ls) others) e))
          (λ d rest m. record { same = same back.0 b d c back.2 m.same; left_are = m.left_are }))

      second_back_by : (item : Item) (items : List Item) (Q : A → List Item → Type 0) (o : Option B) → says (value item.place) item.piece ≡ o → Finds Q (second (item ∷ items)) → Finds Q (either_by value follow second (item ∷ items))
      second_back_by item items Q None e finds = subst (Finds Q) (sym (either_by_other value follow second item items e)) finds
      second_back_by item items Q (Some b) e finds = absurd (subst (Finds Q) (avoids item items b e) finds)

      either_back : (items : List Item) (a : A) (ls : List Lexeme) (others : List Piece) → Either a → pieces_in items ≡ onto (print a ls) others → Finds (Back Same a (onto ls others)) (either_by value follow second items)
      either_back [] a ls others (inl h) e =
          absurd (let begins : [] ≡ word (lexeme_of h.0) ∷ onto (follow_print h.1 ls) others = e ∙ ap (λ (b : A). onto (print b ls) others) (sym h.2) ∙ ap (λ (all_of : List Lexeme). onto all_of others) (prints h.0 h.1 ls) in cc)
      either_back (item ∷ items) a ls others (inl h) e =
          let begins : pieces_in (item ∷ items) ≡ word (lexeme_of h.0) ∷ onto (follow_print h.1 ls) others = e ∙ ap (λ (b : A). onto (print b ls) others) (sym h.2) ∙ ap (λ (all_of : List Lexeme). onto all_of others) (prints h.0 h.1 ls) in
          subst (λ (b : A). Finds (Back Same b (onto ls others)) (either_by value follow second (item ∷ items))) h.2 (first_back item items h.0 h.1 ls others h.3 h.4 begins)
      either_back [] a ls others (inr h) e = absurd (subst (Finds (Back Same a (onto ls others))) nothing (two.back [] a ls others h e))
      either_back (item ∷ items) a ls others (inr h) e =
          second_back_by item items (Back Same a (onto ls others)) (says (value item.place) item.piece) refl (two.back (item ∷ items) a ls others h e)

      pub reads_either_by : Reads (λ (a : A). MadeOf make P Q a ⊎ R a) print Same (either_by value (λ b. made (make b) next) second)
      reads_either_by = record { sound = either_sound; back = either_back }

  module _ {Q : C → Type 0} {R : A → Type 0} {marks : A → Marking} {follow_marks : C → Marking} {next : Reader C} {second : Reader A} where
    module _ (mark_of : B → Mark) (says_marked : SaysMarked value P mark_of) (prints : (b : B) (c : C) (ms : List Mark) → marks (make b c) ms ≡ mark_of b ∷ follow_marks c ms)
        (one : Placed Q follow_marks next) (two : Placed R marks second) where
      abbrev EitherMarked : A → Type 0
      EitherMarked a = MadeOf make P Q a ⊎ R a

      abbrev follow_on : B → Reader A
      follow_on b = made (make b) next

      first_placed : (item : Item) (items : List Item) (b : B) → says (value item.place) item.piece ≡ Some b → Gets (Marked EitherMarked marks (item ∷ items)) (follow_on b items)
      first_placed item items b e =
          let said = said_marked value P mark_of says_marked item b e in
          then_at (Marked Q follow_marks items) (Marked EitherMarked marks (item ∷ items)) (λ c rest. Ok (make b c, rest)) (next items) (one.placed items)
          (λ c rest h. record {
            good = inl (b, c, refl, said.0, h.good);
            fits = λ ms others f. subst (λ (all_of : List Mark). Fits (item ∷ items) all_of others) (sym (prints b c ms)) (said.1, h.fits ms others f);
          })

      placed_by : (item : Item) (items : List Item) (o : Option B) → says (value item.place) item.piece ≡ o → Gets (Marked EitherMarked marks (item ∷ items)) (either_by value follow_on second (item ∷ items))
      placed_by item items None e =
          subst (Gets (Marked EitherMarked marks (item ∷ items))) (sym (either_by_other value follow_on second item items e))
          (weaker (Marked R marks (item ∷ items)) (Marked EitherMarked marks (item ∷ items)) (second (item ∷ items)) (λ a rest h. record { good = inr h.good; fits = h.fits }) (two.placed (item ∷ items)))
      placed_by item items (Some b) e =
          subst (Gets (Marked EitherMarked marks (item ∷ items))) (sym (either_by_taken value follow_on second item items b e)) (first_placed item items b e)

      either_placed : (items : List Item) → Gets (Marked EitherMarked marks items) (either_by value follow_on second items)
      either_placed [] = subst (Gets (Marked EitherMarked marks [])) (sym (either_by_nothing value follow_on second)) tt
      either_placed (item ∷ items) = placed_by item items (says (value item.place) item.piece) refl

      pub placed_either_by : Placed (λ (a : A). MadeOf make P Q a ⊎ R a) marks (either_by value (λ b. made (make b) next) second)
      placed_either_by = record { placed = either_placed }

-- ---- a choice by a wanted lexeme, after which a value is made of what follows

abbrev wanted_of : Lexeme → Place → Lexeme → Option (Unit {0})
wanted_of lexeme place found = wanted lexeme found

wanted_is_by : (lexeme found : Lexeme) (same : Bool) → same_lexeme found lexeme ≡ same → (u : Unit {0}) → cond same (Some tt) None ≡ Some u → found ≡ lexeme
wanted_is_by lexeme found true e u is = same_lexeme_is found lexeme e
wanted_is_by lexeme found false e u is = absurd cc

-- a value that is made of a good one, or another good one
abbrev pub MadeOr : {A C : Type 0} → (C → A) → (C → Type 0) → (A → Type 0) → A → Type 0
MadeOr {C = C} make Q R a = ((u : Unit {0}) × (c : C) × (make c ≡ a) × Unit {0} × Q c) ⊎ R a

avoids_wanted : {A : Type 0} (lexeme : Lexeme) (second : Reader A) → Avoids lexeme second → (item : Item) (items : List Item) (u : Unit {0}) → says (wanted_of lexeme item.place) item.piece ≡ Some u → Refuses second (item ∷ items)
avoids_wanted lexeme second avoids item items u e =
    let said = said_by (wanted_of lexeme item.place) item.piece u e in
    avoids item items (said.1 ∙ ap (λ (l : Lexeme). word l) (wanted_is_by lexeme said.0 (same_lexeme said.0 lexeme) refl u said.2))

module _ {A C : Type 0} (lexeme : Lexeme) (make : C → A) {Q : C → Type 0} {R : A → Type 0} {next : Reader C} {second : Reader A} where
  pub reads_either_made : {print : A → Printed} {follow_print : C → Printed} {Same : A → A → Type 0} {SameNext : C → C → Type 0} → ((c : C) (ls : List Lexeme) → print (make c) ls ≡ lexeme ∷ follow_print c ls)
      → ((c e : C) → SameNext c e → Same (make c) (make e)) → Reads Q follow_print SameNext next → Reads R print Same second → Refuses second [] → Avoids lexeme second
      → Reads (MadeOr make Q R) print Same (either lexeme (made make next) second)
  unfolding either either_by
  reads_either_made prints same one two nothing avoids =
      reads_either_by (wanted_of lexeme) IsAny (λ u c. make c) (λ u. lexeme) SameUnit (λ place found u e. (tt, wanted_is_by lexeme found (same_lexeme found lexeme) refl u e))
      (λ place u h. (tt, wanted_itself lexeme, tt)) (λ u c ls. prints c ls) (λ u v c e h k. same c e k) one two nothing (avoids_wanted lexeme second avoids)

  pub placed_either_made : {marks : A → Marking} {follow_marks : C → Marking} → ((c : C) (ms : List Mark) → marks (make c) ms ≡ plain lexeme ∷ follow_marks c ms) → Placed Q follow_marks next → Placed R marks second
      → Placed (MadeOr make Q R) marks (either lexeme (made make next) second)
  unfolding either either_by
  placed_either_made prints one two =
      placed_either_by (wanted_of lexeme) IsAny (λ u c. make c) (λ u. plain lexeme)
      (λ place found u e. (tt, record { piece = ap (λ (l : Lexeme). word l) (wanted_is_by lexeme found (same_lexeme found lexeme) refl u e); places = tt })) (λ u c ms. prints c ms) one two

-- ---- readers that refuse a lexeme

-- two lexemes that test as different are different
pub other_words : (a b : Lexeme) (piece : Piece) → same_lexeme a b ≡ false → piece ≡ word a → piece ≡ word b → ⊥
other_words a b piece differ is also =
    true≢false (sym (same_lexeme-refl a) ∙ ap (same_lexeme a) (word_is a b (sym is ∙ also)) ∙ differ)

pub expect_avoids : (lexeme other : Lexeme) → same_lexeme lexeme other ≡ false → Avoids lexeme (expect other)
expect_avoids lexeme other differ item items is = expect_refused other item items (other_words lexeme other item.piece differ is)

pub either_avoids : {A : Type 0} (lexeme other : Lexeme) (first second : Reader A) → same_lexeme lexeme other ≡ false → Avoids lexeme second → Avoids lexeme (either other first second)
either_avoids lexeme other first second differ avoids item items is =
    either_refuses other first second item items (other_words lexeme other item.piece differ is) (avoids item items is)
