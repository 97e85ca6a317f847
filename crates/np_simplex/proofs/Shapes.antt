-- The code's lines as those of the plain run.
use Rattle.std.proofs.Common.{◌≡◌, ℕ, ◌<◌, Bool, true, false, List, Option, Some, None, length, map, set, get_or, refl, sym, ap, subst, ◌∙◌, arith}
use Rattle.std.proofs.Common.{⊎_elim}
use Rattle.std.specs.Prelude.{nat_lt, cond, if◌then◌else◌, ◌&&◌, ◌||◌}
use Rattle.np_frac.specs.Sizes.{are_wide_or_zero}
use Rattle.np_simplex.specs.Widths.{is_wide_pair, IsWideQuotient}
use Rattle.std.specs.List.{position, position_or_len}
use Rattle.std.proofs.lemmas.List.{length-map, length-set, get_or-set_same, get_or-set_other, get_or-map}
use Rattle.std.proofs.Common.{Result, Ok, Err}
use Rattle.std.specs.Result.{OnErr, IfOk}
use Rattle.std.proofs.lemmas.List.Sums.{position_or_len_is}
use Rattle.std.proofs.lemmas.Bool.{cases_eq}
use Rattle.std.proofs.lemmas.Bool.Decides.{nat_tests}
use Rattle.np_frac.specs.Fractions.{Fraction}
use Rattle.np_simplex.specs.Tableau.{nought, at, is_above, is_before, better, Line, blank, line_at, leaving, IsShaped}
use Rattle.np_simplex.specs.Views.{line}
use Rattle.np_simplex.specs.declared.pivot.Row.{Row}
use Rattle.np_simplex.proofs.Least.{IsLeast, LeavingIs, leaving_is}

-- ---- the place of the first that passes

pub found_at : {X : Type 0} (p : X → Bool) (xs : List X) (k : ℕ) (d : X) → k < length xs → ((j : ℕ) → j < k → p (get_or xs j d) ≡ false)
    → p (get_or xs k d) ≡ true → Some k ≡ position p xs
found_at p xs k d l h e = let f : position_or_len p xs ≡ k = position_or_len_is p xs k d (omega arith) h (λ b. e) in
    split (nat_lt (position_or_len p xs) (length xs)) (grind (arith, nat_tests)) f
  where
    split : (b : Bool) → b ≡ true → position_or_len p xs ≡ k → Some k ≡ cond b (Some (position_or_len p xs)) None
    split true q f = ap (λ i. Some i) (sym f)
    split false q f = cc

pub found_none : {X : Type 0} (p : X → Bool) (xs : List X) (d : X) → ((j : ℕ) → j < length xs → p (get_or xs j d) ≡ false) → None ≡ position p xs
found_none p xs d h = let f : position_or_len p xs ≡ length xs = position_or_len_is p xs (length xs) d (omega arith) h (λ b. absurd (omega arith)) in
    split (nat_lt (position_or_len p xs) (length xs)) (grind (arith, nat_tests))
  where
    split : (b : Bool) → b ≡ false → None ≡ cond b (Some (position_or_len p xs)) None
    split true q = cc
    split false q = refl

-- ---- lines

-- the line that is read
pub line_read : {N : Type 0} (value : N → Fraction) (rows : List (Row N)) (k : ℕ) (row : Row N) → k < length rows → row ≡ get_or rows k row
    → line_at (map (line value) rows) k ≡ line value row
line_read value rows k row l e = get_or-map (line value) rows k row blank l ∙ ap (line value) (sym e)

-- its width
pub width_read : {N : Type 0} (value : N → Fraction) (rows : List (Row N)) (w k : ℕ) (row : Row N) → IsShaped w (map (line value) rows)
    → k < length rows → row ≡ get_or rows k row → length row.numbers.items ≡ w
width_read value rows w k row h l e =
    sym (length-map row.numbers.items value) ∙ ap (λ x. length x.numbers) (sym (line_read value rows k row l e))
    ∙ h.is k (omega (arith, length-map rows (line value)))

-- a line of the same width in its place
pub shaped_set : (w : ℕ) (lines : List Line) (k : ℕ) (new : Line) → IsShaped w lines → length new.numbers ≡ w → IsShaped w (set lines k new)
shaped_set w lines k new h e = record {
  is = λ j l. ⊎_elim
      (λ s. ap (λ i. length (line_at (set lines k new) i).numbers) s
      ∙ ap (λ x. length x.numbers) (get_or-set_same lines k new blank (omega (arith, length-set lines k new))) ∙ e)
      (λ d. ap (λ x. length x.numbers) (get_or-set_other lines k j new blank d) ∙ h.is j (omega (arith, length-set lines k new)))
      (cases_eq j k);
}

-- what is known of a leaving line
pub leaving_some : (last e : ℕ) (lines : List Line) (n r : ℕ) → leaving last e lines n ≡ Some r → IsLeast last e lines n r
leaving_some last e lines n r h = subst (λ o. LeavingIs last e lines n o) h (leaving_is last e lines n)

-- what holds anyway holds after an error
pub on_err : {X E P : Type 0} (r : Result X E) → P → OnErr r P
on_err (Ok x) p = tt
on_err (Err e) p = p

-- what follows from a fact holds after the same error
pub on_err_map : {X E P Q : Type 0} (r : Result X E) → OnErr r P → (P → Q) → OnErr r Q
on_err_map (Ok x) h f = tt
on_err_map (Err e) h f = f h

-- whether the number that is read is above 0
pub above_read : {N : Type 0} (value : N → Fraction) (rows : List (Row N)) (k e : ℕ) (row : Row N) (x : N) → k < length rows
    → e < length (get_or rows k row).numbers.items → x ≡ get_or (get_or rows k row).numbers.items e x
    → is_above (at (line_at (map (line value) rows) k).numbers e) ≡ is_above (value x)
above_read value rows k e row x l w h =
    ap (λ y. is_above (at y.numbers e)) (get_or-map (line value) rows k row blank l)
    ∙ ap is_above (get_or-map value (get_or rows k row).numbers.items e x nought w ∙ ap value (sym h))

-- the choice between a line and the one that may leave so far
pub better_then : (last e : ℕ) (lines : List Line) (best : Option ℕ) (b k : ℕ) → best ≡ Some b → is_above (at (line_at lines k).numbers e) ≡ true
    → is_before last e (line_at lines k) (line_at lines b) ≡ true → Some k ≡ better last e lines best k
better_then last e lines best b k h a f = sym (ap (λ o. better last e lines o k) h
    ∙ split (is_above (at (line_at lines k).numbers e)) (is_before last e (line_at lines k) (line_at lines b)) a f)
  where
    split : (p q : Bool) → p ≡ true → q ≡ true → (if p && q then Some k else Some b) ≡ Some k
    split true true p q = refl
    split true false p q = cc
    split false q p s = cc

pub better_else : (last e : ℕ) (lines : List Line) (best : Option ℕ) (b k : ℕ) → best ≡ Some b
    → is_before last e (line_at lines k) (line_at lines b) ≡ false → Some b ≡ better last e lines best k
better_else last e lines best b k h f = sym (ap (λ o. better last e lines o k) h
    ∙ split (is_above (at (line_at lines k).numbers e)) (is_before last e (line_at lines k) (line_at lines b)) f)
  where
    split : (p q : Bool) → q ≡ false → (if p && q then Some k else Some b) ≡ Some b
    split true true q = cc
    split true false q = refl
    split false q s = refl

-- a wide pair is a wide quotient
pub wide_pair : (last e : ℕ) (lines : List Line) (k b : ℕ) → k < length lines → b < length lines → is_above (at (line_at lines k).numbers e) ≡ true
    → is_above (at (line_at lines b).numbers e) ≡ true → is_wide_pair last e (line_at lines k) (line_at lines b) ≡ true → IsWideQuotient last e lines
unfolding is_wide_pair
wide_pair last e lines k b lk lb ak ab h = split (are_wide_or_zero (at (line_at lines k).numbers last) (at (line_at lines k).numbers e))
    (are_wide_or_zero (at (line_at lines b).numbers last) (at (line_at lines b).numbers e)) refl refl h
  where
    split : (p q : Bool) → are_wide_or_zero (at (line_at lines k).numbers last) (at (line_at lines k).numbers e) ≡ p
        → are_wide_or_zero (at (line_at lines b).numbers last) (at (line_at lines b).numbers e) ≡ q → (p || q) ≡ true → IsWideQuotient last e lines
    split true q f g s = record { place = k; within = lk; above = ak; wide = f }
    split false true f g s = record { place = b; within = lb; above = ab; wide = g }
    split false false f g s = cc

-- an answer's value is that of an equal term
pub ok_same : {X E : Type 0} (value : X → Fraction) (r : Result X E) (a b : Fraction) → IfOk r (λ x. value x ≡ a) → a ≡ b → IfOk r (λ x. value x ≡ b)
ok_same value (Ok x) a b h e = h ∙ e
ok_same value (Err y) a b h e = tt
