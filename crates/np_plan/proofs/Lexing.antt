-- What a lexer takes is read as the lines of a plan.
use Rattle.std.proofs.Common.{◌≡◌, Bool, true, false, cond, List, [], ◌∷◌, ◌++◌, Option, None, Some, Ok, Err, refl, sym, ap, ◌∙◌, append_assoc}
use Rattle.std.specs.Prelude.{is_some, option_and_then}
use Rattle.std.proofs.lemmas.List.{append-nil}
use Rattle.np_lex.specs.declared.reading.Lexer.{Lexer}
use Rattle.np_lex.specs.Lexers.{items_left, Takes, Leaves}
use Rattle.np_lex.specs.Tokens.{Lexeme, Piece, word, bad, end, Item, left}
use Rattle.np_read.specs.declared.fault.ReadFault.{ReadFault}
use Rattle.np_read.specs.declared.fault.ReadFault.TheVariants.{Next, Memory}
use Rattle.np_read.specs.ItemAnswers.{Stops}
use Rattle.np_read.specs.ItemReaders.{Outcome, Reader, and_then, pure, refuse, chosen, says, wanted, ended, at_end, further}
use Rattle.np_read.specs.PlacedReaders.{token_by}
use Rattle.np_read.specs.Same.{same_lexeme}
use Rattle.np_read.proofs.Same.{same_lexeme_is}
use Rattle.np_read.proofs.Good.{Starting}
use Rattle.np_read.proofs.ItemLexing.{NotFirst, not_first, with_front}
use Rattle.np_read.proofs.PlacedLexing.{refused_whole}
use Rattle.np_words.specs.declared.word.Decimal.{Decimal}
use Rattle.np_words.specs.ReadingForm.{number_of, number}
use Rattle.np_plan.specs.PlanForm.{to_end, if_unsigned, unsigned_of, unsigned, begins_with_left}
use Rattle.np_plan.proofs.ToEnd.{to_end_at, end_taken, end_other, end_nothing}

-- ---- a number without a sign

says_unsigned : (item : Item) (piece : Piece) → says (unsigned_of item.place) piece ≡ option_and_then if_unsigned (says (number_of item.place) piece)
says_unsigned item (word lexeme) = refl
says_unsigned item bad = refl
says_unsigned item end = refl

found_in : (o : Option Decimal) (item : Item) (items rest : List Item) (d : Decimal) → chosen o pure (refuse (item ∷ items)) items ≡ Ok (d, rest) → (o ≡ Some d) × (items ≡ rest)
found_in None item items rest d e = absurd cc
found_in (Some c) item items rest d e =
    let pair : (c, items) ≡ (d, rest) = cc in (ap (λ (x : Decimal × List Item). Some x.0) pair, ap (λ (x : Decimal × List Item). x.1) pair)

missed_in : (o : Option Decimal) (item : Item) (items rest : List Item) → chosen o pure (refuse (item ∷ items)) items ≡ Err rest → o ≡ None
missed_in None item items rest e = refl
missed_in (Some c) item items rest e = absurd cc

abbrev pick : Item → List Item → Option Decimal → Outcome Decimal
pick item items o = chosen o pure (refuse (item ∷ items)) items

unsigned_as : (item : Item) (items : List Item) (o : Option Decimal) → says (number_of item.place) item.piece ≡ o → unsigned (item ∷ items) ≡ pick item items (option_and_then if_unsigned o)
unfolding unsigned token_by
unsigned_as item items o e = ap (pick item items) (says_unsigned item item.piece ∙ ap (option_and_then if_unsigned) e)

pub unsigned_read : (items rest : List Item) (d : Decimal) → number items ≡ Ok (d, rest) → d.negative ≡ false → unsigned items ≡ Ok (d, rest)
unfolding number token_by
unsigned_read [] rest d e is = absurd cc
unsigned_read (item ∷ items) rest d e is =
    let h = found_in (says (number_of item.place) item.piece) item items rest d e in
    unsigned_as item items (Some d) h.0 ∙ ap (λ (negative : Bool). pick item items (cond negative None (Some d))) is ∙ ap (λ (more : List Item). Ok (d, more)) h.1

pub signed_refused : (items rest : List Item) (d : Decimal) → number items ≡ Ok (d, rest) → d.negative ≡ true → unsigned items ≡ Err items
unfolding number token_by
signed_refused [] rest d e is = absurd cc
signed_refused (item ∷ items) rest d e is =
    let h = found_in (says (number_of item.place) item.piece) item items rest d e in
    unsigned_as item items (Some d) h.0 ∙ ap (λ (negative : Bool). pick item items (cond negative None (Some d))) is

unsigned_nothing : unsigned [] ≡ Err []
unfolding unsigned token_by
unsigned_nothing = refl

missing : (items rest : List Item) → number items ≡ Err rest → unsigned items ≡ Err items
unfolding number token_by
missing [] rest e = unsigned_nothing
missing (item ∷ items) rest e = unsigned_as item items None (missed_in (says (number_of item.place) item.piece) item items rest e)

whole_refused : (items rest : List Item) → number items ≡ Err rest → items ≡ rest
unfolding number
whole_refused items rest e = refused_whole number_of items rest e

pub unsigned_stops : (fault : ReadFault) (items rest : List Item) → Stops rest fault (number items) → Stops rest fault (unsigned items)
unsigned_stops Next items rest e = missing items rest e ∙ ap (λ (more : List Item). Err more) (whole_refused items rest e)
unsigned_stops Memory items rest e = tt

-- ---- an opening bracket

left_taken : (old new : Lexer) → Takes old new left → begins_with_left (items_left old) ≡ true
left_taken old new takes = ap begins_with_left takes.items

lexeme_no : (found : Lexeme) (same : Bool) → same_lexeme found left ≡ same → (found ≡ left → ⊥) → is_some (cond {A = Option (Unit {0})} same (Some tt) None) ≡ false
lexeme_no found true e never = absurd (never (same_lexeme_is found left e))
lexeme_no found false e never = refl

piece_no : (piece : Piece) → (piece ≡ word left → ⊥) → is_some (says (wanted left) piece) ≡ false
piece_no (word found) never = lexeme_no found (same_lexeme found left) refl (λ e. never (ap (λ (l : Lexeme). word l) e))
piece_no bad never = refl
piece_no end never = refl

no_left : (items : List Item) → NotFirst (λ found. found ≡ left) items → begins_with_left items ≡ false
no_left [] never = refl
no_left (item ∷ items) never = piece_no item.piece (λ is. never item items left refl is refl)

left_missing : (old new : Lexer) → Leaves old new (λ found. found ≡ left) → begins_with_left (items_left old) ≡ false
left_missing old new leaves = no_left (items_left old) (not_first old new (λ found. found ≡ left) leaves)

pub left_decided : (old new : Lexer) (found : Bool) → (found ≡ true → Takes old new left) → (found ≡ false → Leaves old new (λ lexeme. lexeme ≡ left)) → found ≡ begins_with_left (items_left old)
left_decided old new true takes leaves = sym (left_taken old new (takes refl))
left_decided old new false takes leaves = sym (left_missing old new (leaves refl))

-- ---- a loop that reads up to the end: what it has so far, before what is still read

front_more : {A : Type 0} (front : List A) (a : A) (x : Outcome (List A)) → with_front front (and_then x (λ more rest. Ok (a ∷ more, rest))) ≡ with_front (front ++ a ∷ []) x
front_more {A = A} front a (Ok x) = ap (λ (xs : List A). Ok (xs, x.1)) (sym (append_assoc front (a ∷ []) x.0))
front_more front a (Err r) = refl

end_found : (piece : Piece) (item : Item) (items : List Item) → chosen (ended piece) pure (refuse (item ∷ items)) items ≡ Ok (tt, []) → (piece ≡ end) × (items ≡ [])
end_found (word lexeme) item items e = absurd cc
end_found bad item items e = absurd cc
end_found end item items e = let pair : (tt, items) ≡ (tt, []) = cc in (refl, ap (λ (x : Unit {0} × List Item). x.1) pair)

end_missed : (piece : Piece) (item : Item) (items : List Item) → chosen (ended piece) pure (refuse (item ∷ items)) items ≡ Err (item ∷ items) → piece ≡ end → ⊥
end_missed (word lexeme) item items e is = cc
end_missed bad item items e is = cc
end_missed end item items e is = cc

module _ {A : Type 0} (p : Reader A) (starting : Starting p) where
  seen : (items : List Item) → at_end items ≡ Ok (tt, []) → to_end p items ≡ Ok ([], [])
  unfolding at_end
  seen [] e = absurd cc
  seen (item ∷ items) e =
      let h = end_found item.piece item items e in
      to_end_at p starting (item ∷ items) ∙ end_taken (further p (to_end p)) item items h.0 ∙ ap (λ (more : List Item). Ok ([], more)) h.1

  further_nothing : further p (to_end p) [] ≡ Err []
  further_nothing = ap (λ (x : Outcome A). and_then x (λ a rest. and_then (to_end p rest) (λ more last. Ok (a ∷ more, last)))) (starting 0).tries.nothing

  unseen : (items : List Item) → at_end items ≡ Err items → to_end p items ≡ further p (to_end p) items
  unfolding at_end
  unseen [] e = to_end_at p starting [] ∙ end_nothing (further p (to_end p)) ∙ sym further_nothing
  unseen (item ∷ items) e = to_end_at p starting (item ∷ items) ∙ end_other (further p (to_end p)) item items (end_missed item.piece item items e)

  abbrev others_of : A → Reader (List A)
  others_of a rest = and_then (to_end p rest) (λ more last. Ok (a ∷ more, last))

  pub goes_on : (front : List A) (items rest : List Item) (a : A) (total : Outcome (List A)) → at_end items ≡ Err items → p items ≡ Ok (a, rest) → with_front front (to_end p items) ≡ total → with_front (front ++ a ∷ []) (to_end p rest) ≡ total
  goes_on front items rest a total more e so_far =
      sym (front_more front a (to_end p rest)) ∙ ap (with_front front) (sym (unseen items more ∙ ap (λ (x : Outcome A). and_then x others_of) e)) ∙ so_far

  pub stops : (fault : ReadFault) (front : List A) (items rest : List Item) (total : Outcome (List A)) → at_end items ≡ Err items → Stops rest fault (p items) → with_front front (to_end p items) ≡ total → Stops rest fault total
  stops Next front items rest total more e so_far =
      sym so_far ∙ ap (with_front front) (unseen items more ∙ ap (λ (x : Outcome A). and_then x others_of) e)
  stops Memory front items rest total more e so_far = tt

  pub done : (front : List A) (items : List Item) (total : Outcome (List A)) → at_end items ≡ Ok (tt, []) → with_front front (to_end p items) ≡ total → total ≡ Ok (front, [])
  done front items total ended so_far = sym so_far ∙ ap (with_front front) (seen items ended) ∙ ap (λ (xs : List A). Ok (xs, [])) (append-nil front)
