-- Numbers that are read digit by digit.
use Rattle.std.proofs.Common.{◌≡◌, ℕ, suc, ◌+◌, ◌-◌, ◌*◌, ◌^◌, ◌<◌, Bool, true, false, cond, List, [], ◌∷◌, Option, Some, None, length, drop, get_or, refl, ap, sym, ◌∙◌, arith, drop-cons}
use Rattle.std.specs.Prelude.{nat_le}
use Rattle.std.specs.Char.{is_ascii_digit}
use Rattle.std.proofs.lemmas.Bool.{cond-true}
use Rattle.std.proofs.lemmas.Grind.{common_steps}
use Rattle.np_answers.specs.Words.{number_from, at_most_all, nodes_of}

too_large : (n : ℕ) → 2 ^ 24 < n → at_most_all (Some n) ≡ None
too_large n past = grind (arith, common_steps)

-- past the limit a number stays past it, whatever bytes follow
pub number_past : (n : ℕ) (bytes : List ℕ) → 2 ^ 24 < n → at_most_all (number_from n bytes) ≡ None
number_past n [] past = too_large n past
number_past n (byte ∷ bytes) past =
    elim (is_ascii_digit byte) as (λ b. at_most_all (cond b (number_from (n * 10 + (byte - 48)) bytes) None) ≡ None) [
      | true ↦ number_past (n * 10 + (byte - 48)) bytes (omega arith)
      | false ↦ refl
    ]

either_none : (b : Bool) (x : Option ℕ) → x ≡ None → cond b None x ≡ None
either_none true x e = refl
either_none false x e = e

none_first : (word : List ℕ) → at_most_all (number_from 0 word) ≡ None → nodes_of word ≡ None
none_first [] e = refl
none_first (first ∷ bytes) e = either_none (nat_le first 48) (at_most_all (number_from 0 (first ∷ bytes))) e

-- one more digit that leads past the limit refuses the word
pub nodes_past : (word : List ℕ) (i n : ℕ) → i < length word → is_ascii_digit (get_or word i 0) ≡ true → number_from 0 word ≡ number_from n (drop i word) → 2 ^ 24 < n * 10 + (get_or word i 0 - 48) → None ≡ nodes_of word
nodes_past word i n inside digit so_far past =
    let byte : ℕ = get_or word i 0 in
    let one : number_from n (drop i word) ≡ number_from (n * 10 + (byte - 48)) (drop (suc i) word) =
    ap (number_from n) (drop-cons word i 0 inside) ∙ cond-true (is_ascii_digit byte) (number_from (n * 10 + (byte - 48)) (drop (suc i) word)) None digit in
    sym (none_first word (ap at_most_all (so_far ∙ one) ∙ number_past (n * 10 + (byte - 48)) (drop (suc i) word) past))
