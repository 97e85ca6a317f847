-- What is said of a whole text, by what is read of it and by its first number of too many digits.
use Rattle.std.proofs.Common.{◌≡◌, inl, inr, ℕ, ◌<◌, ◌≤◌, List, [], ◌∷◌, ◌++◌, Some, Result, Ok, Err, IfOk, IsErrOf, refl, sym, ap, subst, ◌∙◌, append_assoc, arith, true≢false}
use Rattle.std.specs.List.{All}
use Rattle.std.proofs.lemmas.List.{map-append}
use Rattle.std.proofs.lemmas.List.Elements.{All-nil, All-cons, All-head, All-tail}
use Rattle.np_lex.specs.declared.token.Place.{Place}
use Rattle.np_lex.specs.Tokens.{Lexeme, Piece, word, end, Item, items_of, first_place}
use Rattle.np_read.specs.Lexemes.{lexemes}
use Rattle.np_read.specs.Faults.{pieces_in, onto, IsFirstFault}
use Rattle.np_read.specs.Marks.{Mark, Marking, Fits}
use Rattle.np_read.specs.Printers.{Printed}
use Rattle.np_read.specs.ItemReaders.{Outcome, Reader, and_then, at_end, whole}
use Rattle.np_read.proofs.Good.{Good}
use Rattle.np_read.proofs.Spelled.{Gets, Finds, Back, Reads, gets, then_at, head_is, tail_is}
use Rattle.np_read.proofs.Marked.{Marked, Placed}
use Rattle.np_read.proofs.FirstFaults.{first_fault, whole_sound, whole_back, lexemes_onto, closed_of, closed_onto}
use Rattle.np_words.specs.declared.fault.ReadFault.{ReadFault}
use Rattle.np_words.specs.declared.fault.ReadFault.TheVariants as fault_of
use Rattle.np_words.specs.Texts.{IsSpelled, KeepsPlaces, NoneWideBefore, IsFaultFrom, IsSettled}
use Rattle.np_words.specs.Wide.{is_wide_piece, IsShort, IsFirstWide, IsShortLexeme, IsSyntaxFault, IsWideFault}
use Rattle.np_words.proofs.Positions.{Rising, rising_of, Cuts, before, here, later, cuts}

-- ---- what a text spells

module _ {A : Type 0} {P : A → Type 0} {f : A → Printed} {S : A → A → Type 0} {p : Reader A} (reads : Reads P f S p) (text : List ℕ) where
  pub read_sound : (a : A) (rest : List Item) → whole p (items_of text) ≡ Ok (a, rest) → P a × (lexemes text ≡ Some (f a []))
  read_sound a rest e =
      let h = gets (λ b more. P b × (pieces_in (items_of text) ≡ onto (f b []) (end ∷ pieces_in more))) (whole p (items_of text)) a rest (whole_sound reads (items_of text)) e in
      (h.0, lexemes_onto (items_of text) (f a []) (pieces_in rest) h.1)

  found : (a : A) (x : Outcome A) → Finds (Back S a []) x → Finds (λ b rest. S b a) x
  found a (Ok x) h = h.same
  found a (Err rest) h = h

  read_back : (a : A) → P a → lexemes text ≡ Some (f a []) → Finds (λ b rest. S b a) (whole p (items_of text))
  read_back a h e = found a (whole p (items_of text)) (whole_back reads (items_of text) a [] h (closed_onto (items_of text) (closed_of text) (f a []) e))

  pub read_only : (a b : A) (rest : List Item) → whole p (items_of text) ≡ Ok (a, rest) → P b → lexemes text ≡ Some (f b []) → S a b
  read_only a b rest e h g = subst (Finds (λ c more. S c b)) e (read_back b h g)

  pub read_refused : (rest : List Item) → whole p (items_of text) ≡ Err rest → (a : A) → P a → lexemes text ≡ Some (f a []) → ⊥
  read_refused rest e a h g = subst (Finds (λ b more. S b a)) e (read_back a h g)

-- ---- where it stands

module _ {A : Type 0} {P : A → Type 0} {marks : A → Marking} {p : Reader A} (placed : Placed P marks p) where
  abbrev pub Stands : List Item → A → Type 0
  Stands items a = (rest : List Item) × Fits items (marks a []) rest

  whole_placed : (items : List Item) → Gets (λ a rest. Stands items a) (whole p items)
  whole_placed items =
      then_at (Marked P marks items) (λ a rest. Stands items a) (λ a rest. and_then (at_end rest) (λ _ more. Ok (a, more))) (p items) (placed.placed items)
      (λ a rest h. then_at (λ u more. Unit {0}) (λ b more. Stands items b) (λ _ more. Ok (a, more)) (at_end rest) (any_end rest (at_end rest))
      (λ u more k. (rest, h.fits [] rest refl)))
    where
      any_end : (rest : List Item) (x : Outcome (Unit {0})) → Gets (λ u more. Unit {0}) x
      any_end rest (Ok x) = tt
      any_end rest (Err more) = tt

  pub read_stands : (items : List Item) (a : A) (rest : List Item) → whole p items ≡ Ok (a, rest) → Stands items a
  read_stands items a rest e = gets (λ b more. Stands items b) (whole p items) a rest (whole_placed items) e

-- ---- numbers of too many digits

short_lexemes : (items : List Item) (ls : List Lexeme) (others : List Piece) → pieces_in items ≡ onto ls others → All IsShort items → All IsShortLexeme ls
short_lexemes items [] others e h = All-nil IsShortLexeme
short_lexemes [] (l ∷ ls) others e h = absurd cc
short_lexemes (item ∷ items) (l ∷ ls) others e h =
    let is = head_is item.piece (word l) (pieces_in items) (onto ls others) e in
    All-cons IsShortLexeme l ls (sym (ap is_wide_piece is) ∙ All-head IsShort item items h) (short_lexemes items ls others (tail_is item.piece (word l) (pieces_in items) (onto ls others) e) (All-tail IsShort item items h))

-- where no item is too long, no lexeme is
pub short_spelled : (text : List ℕ) (ls : List Lexeme) → lexemes text ≡ Some ls → All IsShort (items_of text) → All IsShortLexeme ls
short_spelled text ls e h = short_lexemes (items_of text) ls (end ∷ []) (closed_onto (items_of text) (closed_of text) ls e) h

ends_short : (items : List Item) → pieces_in items ≡ end ∷ [] → All IsShort items
ends_short [] e = absurd cc
ends_short (item ∷ []) e = All-cons IsShort item [] (ap is_wide_piece (head_is item.piece end [] [] e)) (All-nil IsShort)
ends_short (item ∷ other ∷ items) e = absurd (let more = tail_is item.piece end (other.piece ∷ pieces_in items) [] e in cc)

short_items : (items : List Item) (ls : List Lexeme) → pieces_in items ≡ onto ls (end ∷ []) → All IsShortLexeme ls → All IsShort items
short_items items [] e h = ends_short items e
short_items [] (l ∷ ls) e h = absurd cc
short_items (item ∷ items) (l ∷ ls) e h =
    let is = head_is item.piece (word l) (pieces_in items) (onto ls (end ∷ [])) e in
    All-cons IsShort item items (ap is_wide_piece is ∙ All-head IsShortLexeme l ls h) (short_items items ls (tail_is item.piece (word l) (pieces_in items) (onto ls (end ∷ [])) e) (All-tail IsShortLexeme l ls h))

at_cut : (front : List Item) (item : Item) (after : List Item) → All IsShort (front ++ item ∷ after) → IsShort item
at_cut [] item after h = All-head IsShort item after h
at_cut (x ∷ front) item after h = at_cut front item after (All-tail IsShort x (front ++ item ∷ after) h)

-- where an item is too long, no short lexemes are those of the text
pub wide_unspelled : (text : List ℕ) (ls : List Lexeme) (place : Place) → IsFirstWide (items_of text) place → lexemes text ≡ Some ls → All IsShortLexeme ls → ⊥
wide_unspelled text ls place first e h =
    let short = short_items (items_of text) ls (closed_onto (items_of text) (closed_of text) ls e) h in
    true≢false (sym first.wide ∙ at_cut first.front first.number first.after (subst (All IsShort) first.items_are short))

-- ---- faults

front_of : (front : List Item) (item : Item) (middle : List Item) → All IsShort (front ++ item ∷ middle) → All IsShort front
front_of [] item middle h = All-nil IsShort
front_of (x ∷ front) item middle h = All-cons IsShort x front (All-head IsShort x (front ++ item ∷ middle) h) (front_of front item middle (All-tail IsShort x (front ++ item ∷ middle) h))

pieces_append : (xs ys : List Item) → pieces_in (xs ++ ys) ≡ pieces_in xs ++ pieces_in ys
pieces_append xs ys = map-append (λ (item : Item). item.piece) xs ys

module _ {A : Type 0} {P : A → Type 0} {spelling : A → List Lexeme} (text : List ℕ) (stop : Place) where
  -- nothing is too long
  pub short_fault : IsFirstFault P spelling (items_of text) stop → All IsShort (items_of text) → IsSyntaxFault P spelling (items_of text) stop
  short_fault fault short = record { fault = fault; short = front_of fault.front fault.fault fault.after (subst (All IsShort) fault.items_are short) }

  module _ (place : Place) (fault : IsFirstFault P spelling (items_of text) stop) (first : IsFirstWide (items_of text) place) where
    both_cuts : Cuts first.front first.number fault.front fault.fault
    both_cuts =
        cuts 0 first.front first.number first.after fault.front fault.fault fault.after (subst (Rising 0) first.items_are (rising_of text)) (sym first.items_are ∙ fault.items_are)

    -- a number of too many digits is before the fault
    wide_by : Cuts first.front first.number fault.front fault.fault → place.offset < stop.offset → IsWideFault P spelling (items_of text) place
    wide_by (before middle is less) lt = record {
      first = first;
      goes_on = record {
        value = fault.goes_on.value;
        is_value = fault.goes_on.is_value;
        more = pieces_in middle ++ fault.goes_on.more;
        begins =
            fault.goes_on.begins ∙ ap (λ (front : List Item). pieces_in front ++ fault.goes_on.more) (is ∙ sym (append_assoc first.front (first.number ∷ []) middle))
            ∙ ap (λ (ps : List Piece). ps ++ fault.goes_on.more) (pieces_append (first.front ++ first.number ∷ []) middle) ∙ append_assoc (pieces_in (first.front ++ first.number ∷ [])) (pieces_in middle) fault.goes_on.more;
      };
    }
    wide_by (here fronts is) lt = absurd (omega (arith, ap (λ (item : Item). item.place.offset) is, ap (λ (p : Place). p.offset) first.place_is, ap (λ (p : Place). p.offset) fault.place_is))
    wide_by (later middle is less) lt = absurd (omega (arith, less, ap (λ (p : Place). p.offset) first.place_is, ap (λ (p : Place). p.offset) fault.place_is))

    pub wide_fault : place.offset < stop.offset → IsWideFault P spelling (items_of text) place
    wide_fault lt = wide_by both_cuts lt

    -- the first number of too many digits isn't before the fault
    later_by : Cuts first.front first.number fault.front fault.fault → stop.offset ≤ place.offset → IsSyntaxFault P spelling (items_of text) stop
    later_by (before middle is less) le = absurd (omega (arith, less, ap (λ (p : Place). p.offset) first.place_is, ap (λ (p : Place). p.offset) fault.place_is))
    later_by (here fronts is) le = record { fault = fault; short = subst (All IsShort) fronts first.short }
    later_by (later middle is less) le = record { fault = fault; short = front_of fault.front fault.fault middle (subst (All IsShort) is first.short) }

    pub later_fault : stop.offset ≤ place.offset → IsSyntaxFault P spelling (items_of text) stop
    later_fault le = later_by both_cuts le

-- a text that is read begins that of a value up to each of its items but the last
module _ {A : Type 0} {P : A → Type 0} {spelling : A → List Lexeme} (text : List ℕ) (a : A) where
  pub spelled_wide : P a → lexemes text ≡ Some (spelling a) → (place : Place) → IsFirstWide (items_of text) place → IsWideFault P spelling (items_of text) place
  spelled_wide h e place first = record {
    first = first;
    goes_on = record {
      value = a;
      is_value = h;
      more = pieces_in first.after;
      begins =
          sym (closed_onto (items_of text) (closed_of text) (spelling a) e) ∙ ap pieces_in (first.items_are ∙ sym (append_assoc first.front (first.number ∷ []) first.after))
          ∙ pieces_append (first.front ++ first.number ∷ []) first.after;
    };
  }

-- ---- what is answered, by how values are read

abbrev failed : (A : Type 0) → ReadFault → Result A ReadFault
failed A fault = Err fault

same_fault : (A : Type 0) (x y : ReadFault) → failed A x ≡ failed A y → x ≡ y
same_fault A x y e = cc

-- no number of too many digits is before the fault
syntax_fault : {A : Type 0} {P : A → Type 0} {spelling : A → List Lexeme} (text : List ℕ) (stop : Place) → IsFirstFault P spelling (items_of text) stop → NoneWideBefore (items_of text) stop → IsSyntaxFault P spelling (items_of text) stop
syntax_fault text stop fault (inl short) = short_fault text stop fault short
syntax_fault text stop fault (inr h) = later_fault text stop h.0 fault h.1 h.2

module _ {A B : Type 0} {P : A → Type 0} {f : A → Printed} {marks : A → Marking} {p : Reader A} (bare : A → B) (good : (k : ℕ) → Good k p) (reads : Reads P f (λ a b. bare a ≡ bare b) p) (placed : Placed P marks p) (text : List ℕ) where
  abbrev spelling : A → List Lexeme
  spelling a = f a []

  abbrev marks_of : A → List Mark
  marks_of a = marks a []

  abbrev Spells : A → Type 0
  Spells = IsSpelled P spelling text

  abbrev Syntax : Place → Type 0
  Syntax = IsSyntaxFault P spelling (items_of text)

  abbrev WideAt : Place → Type 0
  WideAt = IsWideFault P spelling (items_of text)

  -- where the whole text is a value
  module _ (a : A) (rest : List Item) (read : whole p (items_of text) ≡ Ok (a, rest)) where
    pub value_spelled : (r : Result A ReadFault) → IsSettled (items_of text) a r → IfOk r Spells
    value_spelled (Ok b) h =
        let sound = read_sound reads text a rest read in
        subst Spells (sym h.0) (record { is_value = sound.0; lexemes_are = sound.1; short = short_spelled text (spelling a) sound.1 h.1 })
    value_spelled (Err e) h = tt

    pub value_placed : (r : Result A ReadFault) → IsSettled (items_of text) a r → IfOk r (KeepsPlaces marks_of text)
    value_placed (Ok b) h =
        let stands = read_stands placed (items_of text) a rest read in
        subst (KeepsPlaces marks_of text) (sym h.0) (record { rest = stands.0; fits = stands.1 })
    value_placed (Err e) h = tt

    pub value_only : (r : Result A ReadFault) → IsSettled (items_of text) a r → IfOk r (λ b. (other : A) → Spells other → bare other ≡ bare b)
    value_only (Ok b) h = λ other spells. sym (read_only reads text a other rest read spells.is_value spells.lexemes_are) ∙ ap bare (sym h.0)
    value_only (Err e) h = tt

    pub value_fault : (r : Result A ReadFault) → IsSettled (items_of text) a r → (place : Place) → IsErrOf r (fault_of.At place) → Syntax place
    value_fault r h place e = absurd (subst (IsSettled (items_of text) a) e h)

    pub value_wide : (r : Result A ReadFault) → IsSettled (items_of text) a r → (place : Place) → IsErrOf r (fault_of.NumberWide place) → WideAt place
    value_wide r h place e =
        let sound = read_sound reads text a rest read in
        spelled_wide text a sound.0 sound.1 place (subst (IsSettled (items_of text) a) e h)

    refused_by : (fault : ReadFault) → IsSettled (items_of text) a (Err fault) → (b : A) → Spells b → ⊥
    refused_by (fault_of.At place) h b spells = h
    refused_by (fault_of.NumberWide place) h b spells = wide_unspelled text (spelling b) place h spells.lexemes_are spells.short
    refused_by fault_of.Memory h b spells = h

    pub value_refused : (r : Result A ReadFault) → IsSettled (items_of text) a r → (fault : ReadFault) → IsErrOf r fault → (b : A) → Spells b → ⊥
    value_refused r h fault e b spells = refused_by fault (subst (IsSettled (items_of text) a) e h) b spells

  -- where reading stops
  module _ (rest : List Item) (stop : Place) (read : whole p (items_of text) ≡ Err rest) (at_place : first_place rest ≡ Some stop) where
    fault_there : IsFirstFault P spelling (items_of text) stop
    fault_there = first_fault good reads (items_of text) rest stop read at_place

    pub stop_fault : (fault : ReadFault) → IsFaultFrom (items_of text) stop fault → (place : Place) → IsErrOf (failed A fault) (fault_of.At place) → Syntax place
    stop_fault fault h place e =
        let from = subst (IsFaultFrom (items_of text) stop) (same_fault A fault (fault_of.At place) e) h in
        subst Syntax (sym from.0) (syntax_fault text stop fault_there from.1)

    pub stop_wide : (fault : ReadFault) → IsFaultFrom (items_of text) stop fault → (place : Place) → IsErrOf (failed A fault) (fault_of.NumberWide place) → WideAt place
    stop_wide fault h place e =
        let from = subst (IsFaultFrom (items_of text) stop) (same_fault A fault (fault_of.NumberWide place) e) h in
        wide_fault text stop place fault_there from.0 from.1

    pub stop_refused : (b : A) → Spells b → ⊥
    stop_refused b spells = read_refused reads text rest read b spells.is_value spells.lexemes_are
