-- Whole texts: what is read of a text's pieces is spelled by its lexemes, and the other way round.
use Rattle.std.proofs.Common.{◌≡◌, ℕ, List, [], ◌∷◌, Some, None, refl, ap, ◌∙◌}
use Rattle.np_read.specs.Lexemes.{lexemes}
use Rattle.np_read.specs.Pieces.{Piece, pieces}
use Rattle.np_read.specs.Printers.{Printed}
use Rattle.np_read.specs.Readers.{Outcome, Reader, alone, whole_text}
use Rattle.np_read.proofs.Pieces.{lexemes-pieces}
use Rattle.np_read.proofs.ReaderLaws.{Took, Reads, gets}

alone_is : {A : Type 0} (a : A) (rest : List Piece) (v : A) → alone a rest ≡ Some v → ◌≡◌ {A = Outcome A} (Some (a, rest)) (Some (v, []))
alone_is {A = A} a [] v e = (let is : a ≡ v = cc in ap (λ (x : A). Some (x, [])) is)
alone_is a (piece ∷ rest) v e = absurd cc

whole_is : {A : Type 0} (x : Outcome A) (v : A) → whole_text x ≡ Some v → x ≡ Some (v, [])
whole_is None v e = absurd cc
whole_is (Some x) v e = alone_is x.0 x.1 v e

module _ {A : Type 0} {P : A → Type 0} {print : A → Printed} {reader : Reader A} (reads : Reads P print reader) (text : List ℕ) where
  -- what is read of a whole text is good, and the text spells it
  pub whole_sound : (v : A) → whole_text (reader (pieces text)) ≡ Some v → P v × (lexemes text ≡ Some (print v []))
  whole_sound v e =
      let took = gets (Took P print (pieces text)) (reader (pieces text)) v [] (reads.sound (pieces text)) (whole_is (reader (pieces text)) v e) in
      (took.good, (lexemes-pieces text (print v [])).1 (took.spelled [] refl))

  -- what a whole text spells is read
  pub whole_back : (v : A) → P v → lexemes text ≡ Some (print v []) → whole_text (reader (pieces text)) ≡ Some v
  whole_back v good e =
      ap (λ (ps : List Piece). whole_text (reader ps)) ((lexemes-pieces text (print v [])).0 e) ∙ ap (λ (o : Outcome A). whole_text o) (reads.back v [] good)

  -- no text spells two values
  pub whole_only : (v w : A) → P v → lexemes text ≡ Some (print v []) → P w → lexemes text ≡ Some (print w []) → v ≡ w
  whole_only v w good e other f = let one = whole_back v good e in let two = whole_back w other f in cc
