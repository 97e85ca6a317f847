-- What holds of each tableau that pivots reach.
use Rattle.std.proofs.Common.{◌≡◌, ◌≢◌, ℕ, zero, suc, ◌<◌, Bool, true, false, List, [], length, set, map, drop, refl, sym, ap, subst, ◌∙◌, arith}
use Rattle.std.proofs.Common.{⊎_elim}
use Rattle.std.proofs.lemmas.List.{length-set, length-map, get_or-set_same, get_or-set_other, get_or-map, drop-map}
use Rattle.std.proofs.lemmas.Bool.{cases_eq}
use Rattle.np_frac.specs.Fractions.{Fraction, plus, minus, times}
use Rattle.np_frac.specs.Checked.{reciprocal}
use Rattle.np_frac.specs.Field.{field, frac, sum, rest, times_assoc, times_comm, times-one, times_zero, plus_left_zero, minus_zero, minus_self}
use Rattle.np_simplex.specs.Answers.{AtMost}
use Rattle.np_simplex.specs.Tableau.{nought, at, is_above, Line, blank, line_at, Tableau, divided, less, cleared, leaver, pivot, quotient}
use Rattle.np_simplex.proofs.Sums.{total, single, total-less, total-divided, at-less, at-divided, drop-less, zero_times}
use Rattle.np_simplex.proofs.Amounts.{one, most_trans, most_same, most_times, most_product, most_minus, times_reciprocal, reciprocal_above}
use Rattle.np_simplex.proofs.Amounts.{above_most, not_above, quotient_times}
use Rattle.np_simplex.proofs.Least.{IsLeast}

-- each line's sum is 0
abbrev pub Solved : List Line → (ℕ → Fraction) → Type 0
Solved lines v = (r : ℕ) → r < length lines → total (line_at lines r).numbers v ≡ nought

-- the sums of the first lines, weighted by a line's numbers from some column on
abbrev pub mixed : ℕ → List Line → List Fraction → (ℕ → Fraction) → Fraction
mixed m begin xs v = total (drop m xs) (λ j. total (line_at begin j).numbers v)

-- a line is a base and the first lines, each times the line's number in its step's column
pub record Kept (m : ℕ) (begin : List Line) (base xs : List Fraction) : Type 0 where
  pub is : (v : ℕ → Fraction) → total xs v ≡ plus (total base v) (mixed m begin xs v)

-- what pivots keep: m rows, the column of the costs, the first tableau, the one that was reached
pub record IsReached (m last : ℕ) (begin t : Tableau) : Type 0 where
  pub count : length t.lines ≡ length begin.lines
  pub below : (s : ℕ) → s < length t.lines → (line_at t.lines s).basic < last
  pub units : (r : ℕ) → r < length t.lines → (s : ℕ) → s < length t.lines → at (line_at t.lines r).numbers (line_at t.lines s).basic ≡ single r one s
  pub top_units : (s : ℕ) → s < length t.lines → at t.top (line_at t.lines s).basic ≡ nought
  pub not_negative : (r : ℕ) → r < length t.lines → AtMost nought (at (line_at t.lines r).numbers last)
  pub solved : (v : ℕ → Fraction) → Solved t.lines v → Solved begin.lines v
  pub kept : (r : ℕ) → r < length t.lines → Kept m begin.lines [] (line_at t.lines r).numbers
  pub top_kept : Kept m begin.lines begin.top t.top

-- ---- the numbers of one column

pub single_same : (k : ℕ) (x : Fraction) → single k x k ≡ x
single_same zero x = refl
single_same (suc k) x = single_same k x

pub single_other : (k : ℕ) (x : Fraction) (j : ℕ) → k ≢ j → single k x j ≡ nought
single_other zero x zero h = absurd (h refl)
single_other zero x (suc j) h = refl
single_other (suc k) x zero h = refl
single_other (suc k) x (suc j) h = single_other k x j (λ e. h (ap suc e))

-- ---- the lines after a pivot

-- what holds of the leaving line and of each other one
pub after_pivot : (P : ℕ → Line → Type 0) (lines : List Line) (f : Line → Line) (r : ℕ) (new : Line) → r < length lines → P r new
    → ((i : ℕ) → i < length lines → i ≢ r → P i (f (line_at lines i))) → (i : ℕ) → i < length lines → P i (line_at (set (map f lines) r new) i)
after_pivot P lines f r new h p others i l = ⊎_elim
    (λ e. subst (λ j. P j (line_at (set (map f lines) r new) j)) (sym e)
    (subst (λ line. P r line) (sym (get_or-set_same (map f lines) r new blank (omega (arith, length-map lines f)))) p))
    (λ d. subst (λ line. P i line) (sym (get_or-set_other (map f lines) r i new blank d ∙ get_or-map f lines i blank blank l)) (others i l d))
    (cases_eq i r)

-- how many lines there are
pub lines_after : (lines : List Line) (f : Line → Line) (r : ℕ) (new : Line) → length (set (map f lines) r new) ≡ length lines
lines_after lines f r new = length-set (map f lines) r new ∙ length-map lines f

-- ---- kept lines

-- a base stands outside a difference
outside : (b p t : Fraction) → minus (plus b p) t ≡ plus b (minus p t)
outside b p t = field (rest (sum (frac b) (frac p)) (frac t)) (sum (frac b) (rest (frac p) (frac t))) (omega arith)

kept_less : (m : ℕ) (begin : List Line) (base xs : List Fraction) (k : Fraction) (ys : List Fraction) → Kept m begin base xs → Kept m begin [] ys
    → Kept m begin base (less xs k ys)
kept_less m begin base xs k ys h g = record {
  is = λ v. total-less xs k ys v ∙ ap (λ a. minus a (times k (total ys v))) (h.is v)
      ∙ ap (λ a. minus (plus (total base v) (mixed m begin xs v)) (times k a)) (g.is v ∙ plus_left_zero (mixed m begin ys v))
      ∙ outside (total base v) (mixed m begin xs v) (times k (mixed m begin ys v))
      ∙ ap (λ a. plus (total base v) a) (sym (ap (λ zs. total zs (λ j. total (line_at begin j).numbers v)) (drop-less m xs k ys)
      ∙ total-less (drop m xs) k (drop m ys) (λ j. total (line_at begin j).numbers v)));
}

kept_divided : (m : ℕ) (begin : List Line) (xs : List Fraction) (a : Fraction) → Kept m begin [] xs → Kept m begin [] (divided xs a)
kept_divided m begin xs a h = record {
  is = λ v. total-divided xs a v ∙ ap (λ b. times (reciprocal a) b) (h.is v ∙ plus_left_zero (mixed m begin xs v))
      ∙ sym (plus_left_zero (mixed m begin (divided xs a) v)
      ∙ ap (λ zs. total zs (λ j. total (line_at begin j).numbers v)) (drop-map (λ x. times x (reciprocal a)) m xs)
      ∙ total-divided (drop m xs) a (λ j. total (line_at begin j).numbers v));
}

-- ---- one pivot

-- a number less a multiple of 0
less_nothing : (x k r : Fraction) → minus x (times k (times nought r)) ≡ x
less_nothing x k r = ap (λ a. minus x (times k a)) (zero_times r) ∙ ap (λ a. minus x a) (times_zero k) ∙ minus_zero x

-- the last number of a line stays at least 0: the line's number in the entering column isn't above 0, or its quotient is not the lesser
stays : (x k q : Fraction) → AtMost nought x → AtMost nought q → is_above k ≡ false → AtMost nought (minus x (times k q))
stays x k q hx hq hk =
    most_minus x (times k q) (most_trans (most_times k nought q hq (not_above k hk))
    (most_trans (most_same (times nought q) nought (zero_times q)) hx))

stays_above : (x k q : Fraction) → AtMost q (times x (reciprocal k)) → is_above k ≡ true → AtMost nought (minus x (times k q))
stays_above x k q h hk =
    most_minus x (times k q) (most_trans (most_same (times k q) (times q k) (times_comm k q))
    (most_trans (most_times q (times x (reciprocal k)) k (above_most k nought hk) h)
    (most_same (times (times x (reciprocal k)) k) x (quotient_times x k hk))))

-- a number that a reciprocal makes 0 is 0
undivided : (a x : Fraction) → is_above a ≡ true → times (reciprocal a) x ≡ nought → x ≡ nought
undivided a x h e =
    sym (times_comm one x ∙ times-one x) ∙ ap (λ b. times b x) (sym (times_reciprocal a h)) ∙ times_assoc a (reciprocal a) x
    ∙ ap (λ b. times a b) e ∙ times_zero a

-- a pivot on the least quotient keeps it all
pub pivot_reached : (m last : ℕ) (begin t : Tableau) (e r : ℕ) → IsReached m last begin t → e < last → IsLeast last e t.lines (length t.lines) r
    → IsReached m last begin (pivot t e r)
pivot_reached m last begin t e r h he leaving = record {
  count = lines_after t.lines f r new ∙ h.count;
  below = λ s l. after_pivot (λ s line. line.basic < last) t.lines f r new leaving.within he (λ i k d. h.below i k) s (within s l);
  units = λ i l. units i (within i l);
  top_units = λ s l. after_pivot (λ s line. at (less t.top (at t.top e) p) line.basic ≡ nought) t.lines f r new leaving.within
      (at-less t.top (at t.top e) p e ∙ ap (λ a. minus (at t.top e) (times (at t.top e) a)) one_there
      ∙ ap (λ a. minus (at t.top e) a) (times-one (at t.top e)) ∙ minus_self (at t.top e))
      (λ s k d. at-less t.top (at t.top e) p (line_at t.lines s).basic
      ∙ ap (λ a. minus (at t.top (line_at t.lines s).basic) (times (at t.top e) a)) (leaver_at s k d)
      ∙ less_nothing (at t.top (line_at t.lines s).basic) (at t.top e) (reciprocal a) ∙ h.top_units s k) s (within s l);
  not_negative = λ i l. after_pivot (λ i line. AtMost nought (at line.numbers last)) t.lines f r new leaving.within leaver_last
      (λ i k d. others_last i k) i (within i l);
  solved = λ v g. h.solved v (back v g);
  kept = λ i l. after_pivot (λ i line. Kept m begin.lines [] line.numbers) t.lines f r new leaving.within leaver_kept
      (λ i k d. kept_less m begin.lines [] (line_at t.lines i).numbers (at (line_at t.lines i).numbers e) p (h.kept i k) leaver_kept) i (within i l);
  top_kept = kept_less m begin.lines begin.top t.top (at t.top e) p h.top_kept leaver_kept;
}
  where
    old : List Fraction
    old = (line_at t.lines r).numbers

    a : Fraction
    a = at old e

    p : List Fraction
    p = leaver t e r

    f : Line → Line
    f = cleared e p

    new : Line
    new = record { basic = e; numbers = p }

    within : (i : ℕ) → i < length (set (map f t.lines) r new) → i < length t.lines
    within i l = omega (arith, lines_after t.lines f r new)

    one_there : at p e ≡ one
    one_there = at-divided old a e ∙ times_reciprocal a leaving.above

    leaver_at : (s : ℕ) → s < length t.lines → s ≢ r → at p (line_at t.lines s).basic ≡ times nought (reciprocal a)
    leaver_at s k d =
        at-divided old a (line_at t.lines s).basic
        ∙ ap (λ x. times x (reciprocal a)) (h.units r leaving.within s k ∙ single_other r one s (λ x. d (sym x)))

    units_leaver : (s : ℕ) → s < length t.lines → at p (line_at (set (map f t.lines) r new) s).basic ≡ single r one s
    units_leaver = after_pivot (λ s line. at p line.basic ≡ single r one s) t.lines f r new leaving.within
        (one_there ∙ sym (single_same r one))
        (λ s k d. leaver_at s k d ∙ zero_times (reciprocal a) ∙ sym (single_other r one s (λ x. d (sym x))))

    units_other : (i : ℕ) → i < length t.lines → i ≢ r → (s : ℕ) → s < length t.lines
        → at (less (line_at t.lines i).numbers (at (line_at t.lines i).numbers e) p) (line_at (set (map f t.lines) r new) s).basic ≡ single i one s
    units_other i l d = let xs : List Fraction = (line_at t.lines i).numbers in
        after_pivot (λ s line. at (less xs (at xs e) p) line.basic ≡ single i one s) t.lines f r new leaving.within
        (at-less xs (at xs e) p e ∙ ap (λ b. minus (at xs e) (times (at xs e) b)) one_there ∙ ap (λ b. minus (at xs e) b) (times-one (at xs e))
        ∙ minus_self (at xs e) ∙ sym (single_other i one r d))
        (λ s k n. at-less xs (at xs e) p (line_at t.lines s).basic
        ∙ ap (λ b. minus (at xs (line_at t.lines s).basic) (times (at xs e) b)) (leaver_at s k n)
        ∙ less_nothing (at xs (line_at t.lines s).basic) (at xs e) (reciprocal a) ∙ h.units i l s k)

    units : (i : ℕ) → i < length t.lines → (s : ℕ) → s < length (set (map f t.lines) r new)
        → at (line_at (set (map f t.lines) r new) i).numbers (line_at (set (map f t.lines) r new) s).basic ≡ single i one s
    units = after_pivot (λ i line. (s : ℕ) → s < length (set (map f t.lines) r new)
        → at line.numbers (line_at (set (map f t.lines) r new) s).basic ≡ single i one s) t.lines f r new leaving.within
        (λ s k. units_leaver s (within s k)) (λ i l d s k. units_other i l d s (within s k))

    leaver_last : AtMost nought (at p last)
    leaver_last = most_trans (most_product (at old last) (reciprocal a) (h.not_negative r leaving.within)
        (above_most (reciprocal a) nought (reciprocal_above a leaving.above)))
        (most_same (times (at old last) (reciprocal a)) (at p last) (sym (at-divided old a last)))

    others_last : (i : ℕ) → i < length t.lines → AtMost nought (at (less (line_at t.lines i).numbers (at (line_at t.lines i).numbers e) p) last)
    others_last i k = let xs : List Fraction = (line_at t.lines i).numbers in
        most_trans (split (is_above (at xs e)) refl)
        (most_same (minus (at xs last) (times (at xs e) (at p last))) (at (less xs (at xs e) p) last) (sym (at-less xs (at xs e) p last)))
      where
        split : (b : Bool) → is_above (at (line_at t.lines i).numbers e) ≡ b
            → AtMost nought (minus (at (line_at t.lines i).numbers last) (times (at (line_at t.lines i).numbers e) (at p last)))
        split false g = stays (at (line_at t.lines i).numbers last) (at (line_at t.lines i).numbers e) (at p last) (h.not_negative i k) leaver_last g
        split true g = stays_above (at (line_at t.lines i).numbers last) (at (line_at t.lines i).numbers e) (at p last)
            (most_trans (most_same (at p last) (quotient last e (line_at t.lines r)) (at-divided old a last)) (leaving.least i k g)) g

    leaver_kept : Kept m begin.lines [] p
    leaver_kept = kept_divided m begin.lines old a (h.kept r leaving.within)

    back : (v : ℕ → Fraction) → ((i : ℕ) → i < length (set (map f t.lines) r new) → total (line_at (set (map f t.lines) r new) i).numbers v ≡ nought)
        → (i : ℕ) → i < length t.lines → total (line_at t.lines i).numbers v ≡ nought
    back v g i l =
        let gone : total p v ≡ nought = ap (λ line. total line.numbers v)
        (sym (get_or-set_same (map f t.lines) r new blank (omega (arith, length-map t.lines f, leaving.within))))
        ∙ g r (omega (arith, lines_after t.lines f r new, leaving.within)) in
        ⊎_elim
        (λ same. ap (λ j. total (line_at t.lines j).numbers v) same ∙ undivided a (total old v) leaving.above (sym (total-divided old a v) ∙ gone))
        (λ d. let xs : List Fraction = (line_at t.lines i).numbers in
        sym (total-less xs (at xs e) p v ∙ ap (λ b. minus (total xs v) (times (at xs e) b)) gone
        ∙ ap (λ b. minus (total xs v) b) (times_zero (at xs e)) ∙ minus_zero (total xs v))
        ∙ ap (λ line. total line.numbers v) (sym (get_or-set_other (map f t.lines) r i new blank d ∙ get_or-map f t.lines i blank blank l))
        ∙ g i (omega (arith, lines_after t.lines f r new)))
        (cases_eq i r)
