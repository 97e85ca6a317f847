-- The entering column and the leaving line.
use Rattle.std.proofs.Common.{◌≡◌, ℕ, zero, suc, ◌<◌, Bool, true, false, ◌&&◌, List, Option, Some, None, refl, sym, ap, subst, ◌∙◌, arith, ◌⊎◌, inl}
use Rattle.std.proofs.Common.{inr, ⊎_elim}
use Rattle.std.specs.Prelude.{if◌then◌else◌, nat_lt}
use Rattle.std.specs.Ordering.{is_lt, is_eq}
use Rattle.np_frac.specs.Fractions.{fraction_cmp}
use Rattle.np_simplex.specs.Answers.{AtMost}
use Rattle.np_simplex.specs.Tableau.{Line, at, line_at, is_above, quotient, is_before, better, leaving}
use Rattle.std.proofs.lemmas.Bool.{cases_lt}
use Rattle.np_simplex.proofs.Amounts.{most_self, most_trans, less_most, tied_most, tied_most_back, rest_most}

-- the line may leave, and no line of the first so many that may leave has a lesser quotient
pub record IsLeast (last e : ℕ) (lines : List Line) (n r : ℕ) : Type 0 where
  pub within : r < n
  pub above : is_above (at (line_at lines r).numbers e) ≡ true
  pub least : (i : ℕ) → i < n → is_above (at (line_at lines i).numbers e) ≡ true
      → AtMost (quotient last e (line_at lines r)) (quotient last e (line_at lines i))

-- what is known of the leaving line among the first so many
abbrev pub LeavingIs : ℕ → ℕ → List Line → ℕ → Option ℕ → Type 0
LeavingIs last e lines n None = (i : ℕ) → i < n → is_above (at (line_at lines i).numbers e) ≡ false
LeavingIs last e lines n (Some r) = IsLeast last e lines n r

-- a line that is before another has no greater quotient
before_most : (last e : ℕ) (a b : Line) → is_before last e a b ≡ true → AtMost (quotient last e a) (quotient last e b)
before_most last e a b h = split (is_eq (fraction_cmp (quotient last e a) (quotient last e b)))
    (is_lt (fraction_cmp (quotient last e a) (quotient last e b))) (nat_lt a.basic b.basic) refl refl h
  where
    split : (p q s : Bool) → is_eq (fraction_cmp (quotient last e a) (quotient last e b)) ≡ p
        → is_lt (fraction_cmp (quotient last e a) (quotient last e b)) ≡ q → (if p then s else q) ≡ true
        → AtMost (quotient last e a) (quotient last e b)
    split true q s f g k = tied_most (quotient last e a) (quotient last e b) f
    split false true s f g k = less_most (quotient last e a) (quotient last e b) g
    split false false s f g k = cc

-- one that isn't has no lesser one
after_most : (last e : ℕ) (a b : Line) → is_before last e a b ≡ false → AtMost (quotient last e b) (quotient last e a)
after_most last e a b h = split (is_eq (fraction_cmp (quotient last e a) (quotient last e b)))
    (is_lt (fraction_cmp (quotient last e a) (quotient last e b))) (nat_lt a.basic b.basic) refl refl h
  where
    split : (p q s : Bool) → is_eq (fraction_cmp (quotient last e a) (quotient last e b)) ≡ p
        → is_lt (fraction_cmp (quotient last e a) (quotient last e b)) ≡ q → (if p then s else q) ≡ false
        → AtMost (quotient last e b) (quotient last e a)
    split true q s f g k = tied_most_back (quotient last e a) (quotient last e b) f
    split false true s f g k = cc
    split false false s f g k = rest_most (quotient last e a) (quotient last e b) f g

-- below the end or at it
below_or : (n i : ℕ) → i < suc n → (i < n) ⊎ (i ≡ n)
below_or n i k = ⊎_elim (λ l. inl l) (λ g. let e : i ≡ n = omega arith in inr e) (cases_lt i n)

-- one more line
better_is : (last e : ℕ) (lines : List Line) (n : ℕ) (o : Option ℕ) → LeavingIs last e lines n o
    → LeavingIs last e lines (suc n) (better last e lines o n)
better_is last e lines n None h = split (is_above (at (line_at lines n).numbers e)) refl
  where
    split : (b : Bool) → is_above (at (line_at lines n).numbers e) ≡ b → LeavingIs last e lines (suc n) (if b then Some n else None)
    split true f = record {
      within = omega arith;
      above = f;
      least = λ i k a. ⊎_elim
          (λ l. absurd (let g : is_above (at (line_at lines i).numbers e) ≡ false = h i l in cc))
          (λ d. subst (λ j. AtMost (quotient last e (line_at lines n)) (quotient last e (line_at lines j))) (sym d)
          (most_self (quotient last e (line_at lines n))))
          (below_or n i k);
    }
    split false f = λ i k. ⊎_elim (λ l. h i l) (λ d. ap (λ j. is_above (at (line_at lines j).numbers e)) d ∙ f) (below_or n i k)
better_is last e lines n (Some r) h = split (is_above (at (line_at lines n).numbers e))
    (is_before last e (line_at lines n) (line_at lines r)) refl refl
  where
    split : (b c : Bool) → is_above (at (line_at lines n).numbers e) ≡ b → is_before last e (line_at lines n) (line_at lines r) ≡ c
        → LeavingIs last e lines (suc n) (if b && c then Some n else Some r)
    split true true f g = record {
      within = omega arith;
      above = f;
      least = λ i k a. ⊎_elim
          (λ l. most_trans (before_most last e (line_at lines n) (line_at lines r) g) (h.least i l a))
          (λ d. subst (λ j. AtMost (quotient last e (line_at lines n)) (quotient last e (line_at lines j))) (sym d)
          (most_self (quotient last e (line_at lines n))))
          (below_or n i k);
    }
    split true false f g = record {
      within = omega (arith, h.within);
      above = h.above;
      least = λ i k a. ⊎_elim
          (λ l. h.least i l a)
          (λ d. subst (λ j. AtMost (quotient last e (line_at lines r)) (quotient last e (line_at lines j))) (sym d)
          (after_most last e (line_at lines n) (line_at lines r) g))
          (below_or n i k);
    }
    split false c f g = record {
      within = omega (arith, h.within);
      above = h.above;
      least = λ i k a. ⊎_elim
          (λ l. h.least i l a)
          (λ d. absurd (let q : is_above (at (line_at lines i).numbers e) ≡ false = ap (λ j. is_above (at (line_at lines j).numbers e)) d ∙ f in cc))
          (below_or n i k);
    }

-- what is known of the leaving line
pub leaving_is : (last e : ℕ) (lines : List Line) (n : ℕ) → LeavingIs last e lines n (leaving last e lines n)
leaving_is last e lines zero = λ i k. absurd (omega arith)
leaving_is last e lines (suc n) = better_is last e lines n (leaving last e lines n) (leaving_is last e lines n)
