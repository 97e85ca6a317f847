-- The line in which a column is basic.
use Rattle.std.proofs.Common.{◌≡◌, ℕ, ◌<◌, true, false, List, [], ◌∷◌, Some, None, length, map, get_or, refl, sym, ap, ◌∙◌, arith}
use Rattle.std.specs.Prelude.{◌==◌}
use Rattle.std.specs.List.{position}
use Rattle.std.proofs.lemmas.List.{length-map, get_or-map}
use Rattle.std.proofs.lemmas.List.Quantifiers.{position-Some}
use Rattle.std.proofs.lemmas.Bool.Decides.{nat_tests}
use Rattle.np_frac.specs.Fractions.{Fraction}
use Rattle.np_simplex.specs.Tableau.{nought, Line, blank, line_at, basic_amount}
use Rattle.np_simplex.specs.Views.{line}
use Rattle.np_simplex.specs.declared.pivot.Row.{Row}
use Rattle.np_simplex.proofs.Basics.{basic_found, not_basic, none_passes}

-- it is basic there
pub place_some : {N : Type 0} (value : N → Fraction) (amount : Line → Fraction) (rows : List (Row N)) (k i : ℕ) (row : Row N)
    → position (λ (x : Row N). x.basic == k) rows ≡ Some i → row ≡ get_or rows i row
    → basic_amount amount (map (line value) rows) k ≡ amount (line value row)
place_some value amount rows k i row h e =
    basic_found amount (map (line value) rows) k i (omega (arith, p.0, length-map rows (line value)))
    (λ j b. ap (λ x. x.basic == k) (get_or-map (line value) rows j row blank (omega (arith, p.0))) ∙ p.2 j b)
    (ap (λ x. x.basic == k) (get_or-map (line value) rows i row blank p.0) ∙ p.1)
    ∙ ap amount (get_or-map (line value) rows i row blank p.0 ∙ ap (line value) (sym e))
  where
    p : (i < length rows) × ((get_or rows i row).basic == k ≡ true) × ((j : ℕ) → j < i → (get_or rows j row).basic == k ≡ false)
    p = position-Some (λ (x : Row _). x.basic == k) rows i row h

-- it is basic in no line
pub place_none : {N : Type 0} (value : N → Fraction) (amount : Line → Fraction) (rows : List (Row N)) (k : ℕ)
    → position (λ (x : Row N). x.basic == k) rows ≡ None → basic_amount amount (map (line value) rows) k ≡ nought
place_none value amount [] k h = refl
place_none value amount (d ∷ rest) k h = not_basic amount (map (line value) (d ∷ rest)) k
    (λ s l e. apart s (omega (arith, l, length-map (d ∷ rest) (line value))) e)
  where
    apart : (s : ℕ) → s < length (d ∷ rest) → (line_at (map (line value) (d ∷ rest)) s).basic ≡ k → ⊥
    apart s l e =
        let f : ((get_or (d ∷ rest) s d).basic == k) ≡ false = none_passes (λ (x : Row _). x.basic == k) (d ∷ rest) s d h l in
        let g : (get_or (d ∷ rest) s d).basic ≡ k = sym (ap (λ x. x.basic) (get_or-map (line value) (d ∷ rest) s d blank l)) ∙ e in
        grind (arith, nat_tests)

-- the place is there
pub place_within : {N : Type 0} (rows : List (Row N)) (k i : ℕ) (d : Row N) → position (λ (x : Row N). x.basic == k) rows ≡ Some i → i < length rows
place_within rows k i d h = (position-Some (λ (x : Row _). x.basic == k) rows i d h).0
