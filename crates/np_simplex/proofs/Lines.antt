-- A line that is changed number by number.
use Rattle.std.proofs.Common.{◌≡◌, ℕ, suc, ◌+◌, ◌<◌, ◌≤◌, List, [], ◌∷◌, length, map, set, get_or, refl, sym, ap, ◌∙◌, arith, ⊎_elim}
use Rattle.std.proofs.lemmas.List.{length-map, length-set, map-set, get_or-set_same, get_or-set_other, get_or-map, same_lists, get_or_default}
use Rattle.std.proofs.lemmas.Bool.{cases_eq}
use Rattle.np_frac.specs.Fractions.{Fraction, minus, times}
use Rattle.np_simplex.specs.Tableau.{nought, at, less}
use Rattle.np_simplex.proofs.Sums.{at-less}

-- the first numbers are those of the difference, the others are still the old ones
pub record IsPartly {N : Type 0} (value : N
    → Fraction) (c : ℕ) (xs : List Fraction) (k : Fraction) (ys : List Fraction) (numbers : List N) : Type 0 where
  pub count : length numbers ≡ length xs
  pub done : (j : ℕ) → j < c → at (map value numbers) j ≡ at (less xs k ys) j
  pub rest : (j : ℕ) → c ≤ j → at (map value numbers) j ≡ at xs j

-- at the beginning
pub partly_none : {N : Type 0} (value : N → Fraction) (k : Fraction) (ys : List Fraction) (numbers : List N)
    → IsPartly value 0 (map value numbers) k ys numbers
partly_none value k ys numbers = record {
  count = sym (length-map numbers value);
  done = λ j l. absurd (omega arith);
  rest = λ j l. refl;
}

-- one more number
pub partly_more : {N : Type 0} (value : N → Fraction) (c : ℕ) (xs : List Fraction) (k : Fraction) (ys : List Fraction) (numbers : List N) (d z : N)
    → IsPartly value c xs k ys numbers → c < length numbers → value z ≡ minus (value (get_or numbers c d)) (times k (at ys c))
    → IsPartly value (c + 1) xs k ys (set numbers c z)
partly_more value c xs k ys numbers d z h l e = record {
  count = length-set numbers c z ∙ h.count;
  done = λ j b. ap (λ zs. at zs j) (map-set value numbers c z) ∙ ⊎_elim
      (λ s. ap (λ i. at (set (map value numbers) c (value z)) i) s
      ∙ get_or-set_same (map value numbers) c (value z) nought (omega (arith, length-map numbers value))
      ∙ e ∙ ap (λ a. minus a (times k (at ys c))) (sym (get_or-map value numbers c d nought l) ∙ h.rest c (omega arith))
      ∙ sym (at-less xs k ys c) ∙ ap (λ i. at (less xs k ys) i) (sym s))
      (λ n. get_or-set_other (map value numbers) c j (value z) nought n ∙ h.done j (omega arith))
      (cases_eq j c);
  rest = λ j b. ap (λ zs. at zs j) (map-set value numbers c z) ∙ get_or-set_other (map value numbers) c j (value z) nought (λ s. omega arith)
      ∙ h.rest j (omega arith);
}

-- the length of a difference
pub length-less : (xs : List Fraction) (k : Fraction) (ys : List Fraction) → length xs ≡ length ys → length (less xs k ys) ≡ length xs
length-less [] k [] e = refl
length-less [] k (y ∷ ys) e = absurd (omega arith)
length-less (x ∷ xs) k [] e = absurd (omega arith)
length-less (x ∷ xs) k (y ∷ ys) e = ap suc (length-less xs k ys (omega arith))

-- at the end
pub partly_all : {N : Type 0} (value : N → Fraction) (c : ℕ) (xs : List Fraction) (k : Fraction) (ys : List Fraction) (numbers : List N)
    → IsPartly value c xs k ys numbers → length numbers ≤ c → length xs ≡ length ys → map value numbers ≡ less xs k ys
partly_all value c xs k ys numbers h l e =
    same_lists (map value numbers) (less xs k ys) (length-map numbers value ∙ h.count ∙ sym (length-less xs k ys e))
    (λ j d b. get_or_default (map value numbers) j d nought b ∙ h.done j (omega (arith, length-map numbers value))
    ∙ get_or_default (less xs k ys) j nought d (omega (arith, length-map numbers value, h.count, length-less xs k ys e)))
