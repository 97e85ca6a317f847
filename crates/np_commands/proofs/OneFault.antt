-- A text has one first fault, or one first number of too many digits before any fault, or spells a value.
use Rattle.std.proofs.Common.{◌≡◌, ℕ, List, [], ◌∷◌, ◌++◌, Some, sym, ap, subst, ◌∙◌, append_assoc, true≢false}
use Rattle.std.specs.List.{All}
use Rattle.std.proofs.lemmas.List.{map-append}
use Rattle.std.proofs.lemmas.List.Elements.{All-head, All-tail}
use Rattle.np_lex.specs.declared.token.Place.{Place}
use Rattle.np_lex.specs.Tokens.{Lexeme, Piece, Item, items_of}
use Rattle.np_read.specs.Lexemes.{lexemes}
use Rattle.np_read.specs.Faults.{pieces_in, BeginsSpelling, IsFirstFault}
use Rattle.np_read.proofs.FirstFaults.{closed_of, closed_onto}
use Rattle.np_words.specs.Wide.{IsShort, IsFirstWide, IsSyntaxFault, IsWideFault}
use Rattle.np_commands.proofs.Cuts.{Cuts, before, here, later, cuts}

short_at : (front : List Item) (item : Item) (after : List Item) → All IsShort (front ++ item ∷ after) → IsShort item
short_at [] item after h = All-head IsShort item after h
short_at (x ∷ front) item after h = short_at front item after (All-tail IsShort x (front ++ item ∷ after) h)

pieces_append : (xs ys : List Item) → pieces_in (xs ++ ys) ≡ pieces_in xs ++ pieces_in ys
pieces_append xs ys = map-append (λ (item : Item). item.piece) xs ys

-- there is one first number of too many digits
pub one_wide : (items : List Item) (p q : Place) → IsFirstWide items p → IsFirstWide items q → p ≡ q
one_wide items p q f g = by (cuts f.front f.number f.after g.front g.number g.after (sym f.items_are ∙ g.items_are))
  where
    by : Cuts f.front f.number g.front g.number → p ≡ q
    by (before middle is) = absurd (true≢false (sym f.wide ∙ short_at f.front f.number middle (subst (All IsShort) is g.short)))
    by (here fronts is) = sym f.place_is ∙ ap (λ (item : Item). item.place) is ∙ g.place_is
    by (later middle is) = absurd (true≢false (sym g.wide ∙ short_at g.front g.number middle (subst (All IsShort) is f.short)))

module _ {A : Type 0} (IsValue : A → Type 0) (spelling : A → List Lexeme) where
  abbrev Begins : List Item → Type 0
  Begins items = BeginsSpelling IsValue spelling (pieces_in items)

  -- what is at the front of what begins a text begins it too
  begins_less : (front more : List Item) → Begins (front ++ more) → Begins front
  begins_less front more b = record {
    value = b.value;
    is_value = b.is_value;
    more = pieces_in more ++ b.more;
    begins = b.begins ∙ ap (λ (ps : List Piece). ps ++ b.more) (pieces_append front more) ∙ append_assoc (pieces_in front) (pieces_in more) b.more;
  }

  begins_to : (front : List Item) (item : Item) (middle : List Item) → Begins (front ++ item ∷ middle) → Begins (front ++ item ∷ [])
  begins_to front item middle b = begins_less (front ++ item ∷ []) middle (subst Begins (sym (append_assoc front (item ∷ []) middle)) b)

  -- there is one first fault
  pub one_first : (items : List Item) (p q : Place) → IsFirstFault IsValue spelling items p → IsFirstFault IsValue spelling items q → p ≡ q
  one_first items p q f g = by (cuts f.front f.fault f.after g.front g.fault g.after (sym f.items_are ∙ g.items_are))
    where
      by : Cuts f.front f.fault g.front g.fault → p ≡ q
      by (before middle is) = absurd (f.stops (begins_to f.front f.fault middle (subst Begins is g.goes_on)))
      by (here fronts is) = sym f.place_is ∙ ap (λ (item : Item). item.place) is ∙ g.place_is
      by (later middle is) = absurd (g.stops (begins_to g.front g.fault middle (subst Begins is f.goes_on)))

  -- which isn't beside a number of too many digits that is before any
  pub not_wide : (items : List Item) (p q : Place) → IsSyntaxFault IsValue spelling items p → IsWideFault IsValue spelling items q → ⊥
  not_wide items p q s w =
      by (cuts s.fault.front s.fault.fault s.fault.after w.first.front w.first.number w.first.after (sym s.fault.items_are ∙ w.first.items_are))
    where
      by : Cuts s.fault.front s.fault.fault w.first.front w.first.number → ⊥
      by (before middle is) = s.fault.stops (begins_to s.fault.front s.fault.fault middle (subst Begins is (begins_less w.first.front (w.first.number ∷ []) w.goes_on)))
      by (here fronts is) = s.fault.stops (subst Begins (sym (λ i. fronts i ++ is i ∷ [])) w.goes_on)
      by (later middle is) = true≢false (sym w.first.wide ∙ short_at w.first.front w.first.number middle (subst (All IsShort) is s.short))

  -- nor in a text that spells a value
  pub not_spelled : (text : List ℕ) (a : A) → IsValue a → lexemes text ≡ Some (spelling a) → (p : Place) → IsFirstFault IsValue spelling (items_of text) p → ⊥
  not_spelled text a is_value e p f = f.stops (record {
    value = a;
    is_value = is_value;
    more = pieces_in f.after;
    begins =
        sym (closed_onto (items_of text) (closed_of text) (spelling a) e) ∙ ap pieces_in (f.items_are ∙ sym (append_assoc f.front (f.fault ∷ []) f.after))
        ∙ pieces_append (f.front ++ f.fault ∷ []) f.after;
  })
