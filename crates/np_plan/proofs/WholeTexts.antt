-- What a reader of a whole text, the end included, says of the text: what it spells, and its first fault.
use Rattle.std.proofs.Common.{map, ◌≡◌, ℕ, List, [], ◌∷◌, ◌++◌, length, Some, Ok, Err, refl, sym, ap, subst, ◌∙◌, append_assoc, arith}
use Rattle.std.proofs.lemmas.List.{append-nil, map-append}
use Rattle.np_lex.specs.declared.token.Place.{Place}
use Rattle.np_lex.specs.Tokens.{Lexeme, Piece, end, Item, items_of, first_place}
use Rattle.np_read.specs.Lexemes.{lexemes}
use Rattle.np_read.specs.Faults.{pieces_in, onto, BeginsSpelling, IsFirstFault}
use Rattle.np_read.specs.ItemReaders.{Outcome, Reader}
use Rattle.np_read.proofs.Good.{Goes, Stopped, Good}
use Rattle.np_read.proofs.GoodParts.{at}
use Rattle.np_read.proofs.FirstFaults.{lexemes_onto, closed_of, closed_onto}
use Rattle.np_read.proofs.Spelled.{Finds, Back, gets}
use Rattle.np_plan.proofs.ToEnd.{SpelledToEnd, ReadsToEnd}

module _ {A : Type 0} {P : A → Type 0} {spelling : A → List Lexeme} {S : A → A → Type 0} {p : Reader A} (reads : ReadsToEnd P spelling S p) (text : List ℕ) where
  -- what is read of a text is spelled by it
  pub text_spells : (a : A) (rest : List Item) → p (items_of text) ≡ Ok (a, rest) → P a × (lexemes text ≡ Some (spelling a))
  text_spells a rest e =
      let h = gets (SpelledToEnd P spelling (items_of text)) (p (items_of text)) a rest (reads.sound (items_of text)) e in
      (h.good, lexemes_onto (items_of text) (spelling a) (pieces_in rest) h.spelled)

  found : (a : A) (x : Outcome A) → Finds (Back S a []) x → Finds (λ b rest. S b a) x
  found a (Ok x) h = h.same
  found a (Err rest) h = h

  text_back : (a : A) → P a → lexemes text ≡ Some (spelling a) → Finds (λ b rest. S b a) (p (items_of text))
  text_back a h e = found a (p (items_of text)) (reads.back (items_of text) a [] h (closed_onto (items_of text) (closed_of text) (spelling a) e))

  -- it spells nothing else
  pub text_alone : (a b : A) (rest : List Item) → p (items_of text) ≡ Ok (a, rest) → P b → lexemes text ≡ Some (spelling b) → S a b
  text_alone a b rest e h g = subst (Finds (λ c more. S c b)) e (text_back b h g)

  -- where reading stops, nothing is spelled
  pub text_unspelled : (rest : List Item) → p (items_of text) ≡ Err rest → (a : A) → P a → lexemes text ≡ Some (spelling a) → ⊥
  text_unspelled rest e a h g = subst (Finds (λ b more. S b a)) e (text_back a h g)

-- ---- the first fault

bare : List Piece → List Item
bare ps = map at ps

pieces_bare : (ps : List Piece) → pieces_in (bare ps) ≡ ps
unfolding bare
pieces_bare [] = refl
pieces_bare (p ∷ ps) = ap (λ (qs : List Piece). p ∷ qs) (pieces_bare ps)

pieces_append : (xs ys : List Item) → pieces_in (xs ++ ys) ≡ pieces_in xs ++ pieces_in ys
pieces_append xs ys = map-append (λ (item : Item). item.piece) xs ys

module _ {A : Type 0} {P : A → Type 0} {spelling : A → List Lexeme} {S : A → A → Type 0} {p : Reader A} (good : (k : ℕ) → Good k p) (reads : ReadsToEnd P spelling S p) where
  goes_on : (front : List Item) → Goes p front → BeginsSpelling P spelling (pieces_in front)
  goes_on front goes =
      let h = gets (SpelledToEnd P spelling ((front ++ goes.more) ++ [])) (p ((front ++ goes.more) ++ [])) goes.value [] (reads.sound ((front ++ goes.more) ++ [])) (goes.reads []) in
      record {
        value = goes.value;
        is_value = h.good;
        more = pieces_in goes.more;
        begins = sym h.spelled ∙ ap pieces_in (append-nil (front ++ goes.more)) ∙ pieces_append front goes.more;
      }

  stops : (front : List Item) (fault : Item) → ((other : List Item) → p (front ++ fault ∷ other) ≡ Err (fault ∷ other)) → BeginsSpelling P spelling (pieces_in (front ++ fault ∷ [])) → ⊥
  stops front fault stopped begins =
      let items : List Item = front ++ fault ∷ bare begins.more in
      let cut : (front ++ fault ∷ []) ++ bare begins.more ≡ items = append_assoc front (fault ∷ []) (bare begins.more) in
      let pieces_are : pieces_in items ≡ onto (spelling begins.value) (end ∷ []) =
      ap pieces_in (sym cut) ∙ pieces_append (front ++ fault ∷ []) (bare begins.more)
      ∙ ap (λ (ps : List Piece). pieces_in (front ++ fault ∷ []) ++ ps) (pieces_bare begins.more) ∙ sym begins.begins in
      subst (Finds (Back S begins.value [])) (stopped (bare begins.more)) (reads.back items begins.value [] begins.is_value pieces_are)

  fault_by : (items : List Item) (place : Place) (rest : List Item) → Stopped p items rest → first_place rest ≡ Some place → IsFirstFault P spelling items place
  fault_by items place [] stopped at_place = absurd cc
  fault_by items place (fault ∷ after) stopped at_place = record {
    front = stopped.front;
    fault = fault;
    after = after;
    items_are = stopped.cut;
    place_is = (let same : fault.place ≡ place = cc in same);
    goes_on = goes_on stopped.front stopped.goes;
    stops = stops stopped.front fault (λ other. stopped.same fault after other refl);
  }

  -- where reading stops, the first fault is
  pub first_fault : (items rest : List Item) (place : Place) → p items ≡ Err rest → first_place rest ≡ Some place → IsFirstFault P spelling items place
  first_fault items rest place e at_place = fault_by items place rest ((good (length items)).stopped items rest (omega arith) e) at_place
