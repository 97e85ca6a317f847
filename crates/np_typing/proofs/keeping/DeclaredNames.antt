-- A name of a text is a name of a task.
use Rattle.std.proofs.Common.{◌≡◌, ℕ, Bool, true, false, refl, sym, ◌∙◌, ap, ap₂, arith, List, [], ◌∷◌}
use Rattle.std.specs.Prelude.{◌&&◌, not, bytes_eq, nat_eq, IsTrue}
use Rattle.std.specs.Char.{to_ascii_lowercase}
use Rattle.std.specs.List.{list_all}
use Rattle.std.proofs.lemmas.Bool.Decides.{nat_tests}
use Rattle.np_lex.specs.FirstToken as lex
use Rattle.np_lex.specs.Tokens.{lower}
use Rattle.np_model.specs.Names.{is_reserved, is_letter, is_name_byte, is_name}
use Rattle.np_words.specs.Written.{is_small_name, is_free_name}

-- the letters of either case that lower case leaves as they are are those of lower case
letter_same : (b : ℕ) → (lex.is_letter b && nat_eq (to_ascii_lowercase b) b) ≡ is_letter b
letter_same b = grind (arith, nat_tests)

byte_same : (b : ℕ) → (lex.is_name_byte b && nat_eq (to_ascii_lowercase b) b) ≡ is_name_byte b
byte_same b = grind (arith, nat_tests)

swapped : (a b c d : Bool) → ((a && b) && (c && d)) ≡ ((a && c) && (b && d))
swapped true true c d = refl
swapped true false true d = refl
swapped true false false d = refl
swapped false b c d = refl

bytes_same : (bs : List ℕ) → (list_all lex.is_name_byte bs && bytes_eq (lower bs) bs) ≡ list_all is_name_byte bs
bytes_same [] = refl
bytes_same (b ∷ bs) =
    swapped (lex.is_name_byte b) (list_all lex.is_name_byte bs) (nat_eq (to_ascii_lowercase b) b) (bytes_eq (lower bs) bs)
    ∙ ap₂ (λ x y. x && y) (byte_same b) (bytes_same bs)

three : (a b c : Bool) → ((a && b) && c) ≡ (a && b && c)
three true b c = refl
three false b c = refl

-- the names of a text are those of a task
pub same_names : (text : List ℕ) → is_free_name text ≡ is_name text
unfolding is_free_name is_small_name
same_names [] = refl
same_names (b ∷ bs) =
    ap (λ x. x && not (is_reserved (b ∷ bs)))
    (swapped (lex.is_letter b) (list_all lex.is_name_byte bs) (nat_eq (to_ascii_lowercase b) b) (bytes_eq (lower bs) bs)
    ∙ ap₂ (λ x y. x && y) (letter_same b) (bytes_same bs))
    ∙ three (is_letter b) (list_all is_name_byte bs) (not (is_reserved (b ∷ bs)))

pub name_kept : (text : List ℕ) → IsTrue (is_free_name text) → IsTrue (is_name text)
name_kept text h = sym (same_names text) ∙ h
