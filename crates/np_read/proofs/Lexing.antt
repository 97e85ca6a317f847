-- What a lexer takes, and what it leaves, is what a reader of pieces expects.
use Rattle.std.proofs.Common.{◌≡◌, ℕ, ◌<◌, Bool, true, false, cond, List, [], ◌∷◌, ◌++◌, length, Option, None, Some, refl, sym, ap, subst, ◌∙◌}
use Rattle.std.specs.Option.{option_map}
use Rattle.np_lex.specs.declared.reading.Lexer.{Lexer}
use Rattle.np_lex.specs.declared.token.Kind.TheVariants.{Number}
use Rattle.np_lex.specs.Tokens.{Lexeme, right, numeral}
use Rattle.np_lex.specs.Lexers.{Takes, Leaves}
use Rattle.np_read.specs.Answers.{Refuses}
use Rattle.np_read.specs.Pieces.{Piece, word, bad, pieces_left}
use Rattle.np_read.specs.Printers.{Printed}
use Rattle.np_read.specs.Readers.{Outcome, Reader, and_then, next, expect, in_front, number_by, row}
use Rattle.np_read.specs.Same.{same_kind, same_lexeme}
use Rattle.np_read.proofs.Same.{same_lexeme_is, same_kind_true}
use Rattle.np_read.proofs.Answers.{loop_refuses}
use Rattle.np_read.proofs.Pieces.{takes_piece, leaves_piece}
use Rattle.np_read.proofs.ReaderLaws.{Reads, expect_back, with_front, loop_goes_on, loop_done, is_shorter}

-- what is taken was expected
pub is_taken : (old new : Lexer) (lexeme : Lexeme) → Takes old new lexeme → expect lexeme (pieces_left old) ≡ Some (tt, pieces_left new)
is_taken old new lexeme takes = ap (expect lexeme) (takes_piece old new lexeme takes) ∙ expect_back lexeme (pieces_left new)

-- the first lexeme
first_is : (a b : Lexeme) (ps qs : List Piece) → word a ∷ ps ≡ word b ∷ qs → a ≡ b
first_is a b ps qs e = cc

-- the lexeme isn't the first
other_by : (lexeme found : Lexeme) (pieces : List Piece) (same : Bool) → same_lexeme found lexeme ≡ same → (found ≡ lexeme → ⊥) → cond {A = Outcome (Unit {0})} same (Some (tt, pieces)) None ≡ None
other_by lexeme found pieces true e never = absurd (never (same_lexeme_is found lexeme e))
other_by lexeme found pieces false e never = refl

not_front : (lexeme : Lexeme) (pieces : List Piece) → ((found : Lexeme) (others : List Piece) → pieces ≡ word found ∷ others → found ≡ lexeme → ⊥) → expect lexeme pieces ≡ None
unfolding expect
not_front lexeme [] never = refl
not_front lexeme (bad ∷ pieces) never = refl
not_front lexeme (word found ∷ pieces) never = other_by lexeme found pieces (same_lexeme found lexeme) refl (never found pieces refl)

-- what is left out was not expected
pub is_left : (old new : Lexer) (lexeme : Lexeme) → Leaves old new (λ found. found ≡ lexeme) → expect lexeme (pieces_left old) ≡ None
is_left old new lexeme leaves = not_front lexeme (pieces_left old) (leaves_piece old new (λ found. found ≡ lexeme) leaves)

-- no number where none is left
other_kind : {A : Type 0} (value : List ℕ → Option A) (found : Lexeme) (pieces : List Piece) (same : Bool) → same_kind found.kind Number ≡ same → (found.kind ≡ Number → ⊥) → cond same (in_front (value found.text) pieces) None ≡ None
other_kind value found pieces true e never = absurd (never (same_kind_true found.kind Number e))
other_kind value found pieces false e never = refl

not_number : {A : Type 0} (value : List ℕ → Option A) (pieces : List Piece) → ((found : Lexeme) (others : List Piece) → pieces ≡ word found ∷ others → found.kind ≡ Number → ⊥) → and_then (next pieces) (number_by value) ≡ None
not_number value [] never = refl
not_number value (bad ∷ pieces) never = refl
not_number value (word found ∷ pieces) never = other_kind value found pieces (same_kind found.kind Number) refl (never found pieces refl)

pub no_number : {A : Type 0} (value : List ℕ → Option A) (old new : Lexer) → Leaves old new (λ found. found.kind ≡ Number) → and_then (next (pieces_left old)) (number_by value) ≡ None
no_number value old new leaves = not_number value (pieces_left old) (leaves_piece old new (λ found. found.kind ≡ Number) leaves)

pub no_numeral : (old new : Lexer) (text : List ℕ) → Leaves old new (λ found. found.kind ≡ Number) → expect (numeral text) (pieces_left old) ≡ None
no_numeral old new text leaves = not_front (numeral text) (pieces_left old) (λ lexeme others e same. leaves_piece old new (λ found. found.kind ≡ Number) leaves lexeme others e (ap (λ (l : Lexeme). l.kind) same))

-- another text than the one that was taken was not expected
pub other_text : (old new : Lexer) (found text : List ℕ) → Takes old new (numeral found) → (found ≡ text → ⊥) → expect (numeral text) (pieces_left old) ≡ None
other_text old new found text takes other =
    not_front (numeral text) (pieces_left old)
    (λ lexeme others e same. other (ap (λ (l : Lexeme). l.text) (first_is (numeral found) lexeme (pieces_left new) others (sym (takes_piece old new (numeral found) takes) ∙ e) ∙ same)))

-- ---- a number by its value

in_front_is : {A : Type 0} (found : Option A) (rest : List Piece) → in_front found rest ≡ option_map (λ a. (a, rest)) found
in_front_is None rest = refl
in_front_is (Some a) rest = refl

-- a number that is taken is read as what its text says
pub number_taken : {A : Type 0} (value : List ℕ → Option A) (old new : Lexer) (text : List ℕ) (result : Option A) → Takes old new (numeral text) → value text ≡ result → and_then (next (pieces_left old)) (number_by value) ≡ option_map (λ a. (a, pieces_left new)) result
number_taken value old new text result takes is =
    ap (λ (pieces : List Piece). and_then (next pieces) (number_by value)) (takes_piece old new (numeral text) takes)
    ∙ in_front_is (value text) (pieces_left new) ∙ ap (option_map (λ a. (a, pieces_left new))) is

-- ---- rows, one turn after the other

module _ {A : Type 0} {P : A → Type 0} {f : A → Printed} {p : Reader A} (reads : Reads P f p) where
  -- the value that is read where no bracket closes the row
  read_after : (old tried : Lexer) (x : Outcome A) → Leaves old tried (λ found. found ≡ right) → p (pieces_left tried) ≡ x → p (pieces_left old) ≡ x
  read_after old tried x leaves e = ap (λ (l : Lexer). p (pieces_left l)) (sym leaves.stays) ∙ e

  pub row_goes_on : (front : List A) (old tried next : Lexer) (a : A) (total : Outcome (List A)) → Leaves old tried (λ found. found ≡ right) → p (pieces_left tried) ≡ Some (a, pieces_left next) → with_front front (row p (pieces_left old)) ≡ total → with_front (front ++ a ∷ []) (row p (pieces_left next)) ≡ total
  row_goes_on front old tried next a total leaves e so_far =
      loop_goes_on reads front (pieces_left old) a (pieces_left next) total (is_left old tried right leaves) (read_after old tried (Some (a, pieces_left next)) leaves e) so_far

  pub row_refuses : {F : Type 0} (is_memory : F → Bool) (fault : F) (front : List A) (old tried : Lexer) (total : Outcome (List A)) → Leaves old tried (λ found. found ≡ right) → Refuses is_memory fault (p (pieces_left tried)) → with_front front (row p (pieces_left old)) ≡ total → Refuses is_memory fault total
  row_refuses is_memory fault front old tried total leaves refuses so_far =
      loop_refuses is_memory reads fault front (pieces_left old) total (is_left old tried right leaves) (subst (λ (l : Lexer). Refuses is_memory fault (p (pieces_left l))) leaves.stays refuses) so_far

  pub row_done : (front : List A) (old new : Lexer) (total : Outcome (List A)) → Takes old new right → with_front front (row p (pieces_left old)) ≡ total → total ≡ Some (front, pieces_left new)
  row_done front old new total takes so_far = loop_done reads front (pieces_left old) (pieces_left new) total (is_taken old new right takes) so_far

  pub row_shorter : (old tried next : Lexer) (a : A) → Leaves old tried (λ found. found ≡ right) → p (pieces_left tried) ≡ Some (a, pieces_left next) → length (pieces_left next) < length (pieces_left old)
  row_shorter old tried next a leaves e = is_shorter reads (pieces_left old) a (pieces_left next) (read_after old tried (Some (a, pieces_left next)) leaves e)
