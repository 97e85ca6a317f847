-- Sums of a line's numbers, each times the amount of its column.
use Rattle.std.proofs.Common.{◌≡◌, ◌≢◌, ℕ, zero, suc, ◌+◌, List, [], ◌∷◌, ◌++◌, pos, length, refl, sym, ap, ◌∙◌, drop, arith}
use Rattle.np_frac.specs.Fractions.{Fraction, whole, plus, minus, times}
use Rattle.np_frac.specs.Checked.{reciprocal}
use Rattle.np_frac.specs.Field.{field, frac, sum, rest, times_assoc, times_minus, times-plus, times_comm, times-one, times_zero, plus_assoc}
use Rattle.np_frac.specs.Field.{plus-zero, plus_left_zero, minus_zero, whole_num}
use Rattle.np_simplex.specs.Tableau.{nought, at, divided, less}

-- the sum of the numbers, each times its column's amount
abbrev pub total : List Fraction → (ℕ → Fraction) → Fraction
total [] v = nought
total (x ∷ xs) v = plus (times x (v 0)) (total xs (λ k. v (suc k)))

-- an amount in one column, 0 in all others
abbrev pub single : ℕ → Fraction → ℕ → Fraction
single zero x zero = x
single zero x (suc j) = nought
single (suc k) x zero = nought
single (suc k) x (suc j) = single k x j

-- a difference times an amount
spread : (x k y v : Fraction) → times (minus x (times k y)) v ≡ minus (times x v) (times k (times y v))
spread x k y v =
    times_comm (minus x (times k y)) v ∙ times_minus v x (times k y)
    ∙ ap (λ a. minus a (times v (times k y))) (times_comm v x)
    ∙ ap (λ a. minus (times x v) a) (times_comm v (times k y) ∙ times_assoc k y v)

-- the sum of two differences
both : (p q t u : Fraction) → plus (minus p q) (minus t u) ≡ minus (plus p t) (plus q u)
both p q t u = field (sum (rest (frac p) (frac q)) (rest (frac t) (frac u))) (rest (sum (frac p) (frac t)) (sum (frac q) (frac u))) (omega arith)

-- the sum of two sums
pub exchanged : (p q t u : Fraction) → plus (plus p q) (plus t u) ≡ plus (plus p t) (plus q u)
exchanged p q t u = field (sum (sum (frac p) (frac q)) (sum (frac t) (frac u))) (sum (sum (frac p) (frac t)) (sum (frac q) (frac u))) (omega arith)

-- one column of a difference of lines
one_column : (x k y v t u : Fraction) → plus (times (minus x (times k y)) v) (minus t (times k u)) ≡ minus (plus (times x v) t)
    (times k (plus (times y v) u))
one_column x k y v t u =
    ap (λ a. plus a (minus t (times k u))) (spread x k y v)
    ∙ both (times x v) (times k (times y v)) t (times k u)
    ∙ ap (λ a. minus (plus (times x v) t) a) (sym (times-plus k (times y v) u))

-- nothing less a multiple of nothing
nothing_less : (k : Fraction) → nought ≡ minus nought (times k nought)
nothing_less k = sym (ap (λ a. minus nought a) (times_zero k) ∙ minus_zero nought)

-- 0 times an amount
pub zero_times : (v : Fraction) → times nought v ≡ nought
zero_times v = times_comm nought v ∙ times_zero v

-- the sum over a difference of lines
pub total-less : (xs : List Fraction) (k : Fraction) (ys : List Fraction) (v : ℕ → Fraction)
    → total (less xs k ys) v ≡ minus (total xs v) (times k (total ys v))
total-less [] k [] v = nothing_less k
total-less [] k (y ∷ ys) v =
    ap (λ a. plus (times (minus nought (times k y)) (v 0)) a) (total-less [] k ys (λ j. v (suc j)))
    ∙ one_column nought k y (v 0) nought (total ys (λ j. v (suc j)))
    ∙ ap (λ a. minus a (times k (total (y ∷ ys) v))) (ap (λ a. plus a nought) (zero_times (v 0)) ∙ plus-zero nought)
total-less (x ∷ xs) k [] v =
    ap (λ a. plus (times x (v 0)) a)
    (total-less xs k [] (λ j. v (suc j)) ∙ ap (λ a. minus (total xs (λ j. v (suc j))) a) (times_zero k) ∙ minus_zero (total xs (λ j. v (suc j))))
    ∙ sym (ap (λ a. minus (total (x ∷ xs) v) a) (times_zero k) ∙ minus_zero (total (x ∷ xs) v))
total-less (x ∷ xs) k (y ∷ ys) v =
    ap (λ a. plus (times (minus x (times k y)) (v 0)) a) (total-less xs k ys (λ j. v (suc j)))
    ∙ one_column x k y (v 0) (total xs (λ j. v (suc j))) (total ys (λ j. v (suc j)))

-- the sum over a divided line
pub total-divided : (xs : List Fraction) (a : Fraction) (v : ℕ → Fraction) → total (divided xs a) v ≡ times (reciprocal a) (total xs v)
total-divided [] a v = sym (times_zero (reciprocal a))
total-divided (x ∷ xs) a v =
    ap (λ t. plus (times (times x (reciprocal a)) (v 0)) t) (total-divided xs a (λ j. v (suc j)))
    ∙ ap (λ t. plus t (times (reciprocal a) (total xs (λ j. v (suc j))))) (ap (λ t. times t (v 0)) (times_comm x (reciprocal a))
    ∙ times_assoc (reciprocal a) x (v 0))
    ∙ sym (times-plus (reciprocal a) (times x (v 0)) (total xs (λ j. v (suc j))))

-- the sum of two amounts per column
pub total-plus : (xs : List Fraction) (v w : ℕ → Fraction) → total xs (λ k. plus (v k) (w k)) ≡ plus (total xs v) (total xs w)
total-plus [] v w = sym (plus-zero nought)
total-plus (x ∷ xs) v w =
    ap (λ a. plus (times x (plus (v 0) (w 0))) a) (total-plus xs (λ k. v (suc k)) (λ k. w (suc k)))
    ∙ ap (λ a. plus a (plus (total xs (λ k. v (suc k))) (total xs (λ k. w (suc k))))) (times-plus x (v 0) (w 0))
    ∙ exchanged (times x (v 0)) (times x (w 0)) (total xs (λ k. v (suc k))) (total xs (λ k. w (suc k)))

-- no amounts
pub total-none : (xs : List Fraction) (v : ℕ → Fraction) → ((k : ℕ) → v k ≡ nought) → total xs v ≡ nought
total-none [] v h = refl
total-none (x ∷ xs) v h =
    ap (λ a. plus (times x a) (total xs (λ k. v (suc k)))) (h 0)
    ∙ ap (λ a. plus a (total xs (λ k. v (suc k)))) (times_zero x)
    ∙ ap (λ a. plus nought a) (total-none xs (λ k. v (suc k)) (λ k. h (suc k))) ∙ plus-zero nought

-- equal amounts
pub total-same : (xs : List Fraction) (v w : ℕ → Fraction) → ((k : ℕ) → v k ≡ w k) → total xs v ≡ total xs w
total-same [] v w h = refl
total-same (x ∷ xs) v w h =
    ap (λ a. plus (times x a) (total xs (λ k. v (suc k)))) (h 0)
    ∙ ap (λ a. plus (times x (w 0)) a) (total-same xs (λ k. v (suc k)) (λ k. w (suc k)) (λ k. h (suc k)))

-- an amount in one column
pub total-single : (xs : List Fraction) (k : ℕ) (x : Fraction) → total xs (single k x) ≡ times (at xs k) x
total-single [] k x = sym (zero_times x)
total-single (y ∷ ys) zero x =
    ap (λ a. plus (times y x) a) (total-none ys (λ k. nought) (λ k. refl)) ∙ plus-zero (times y x)
total-single (y ∷ ys) (suc k) x =
    ap (λ a. plus a (total ys (single k x))) (times_zero y) ∙ plus_left_zero (total ys (single k x)) ∙ total-single ys k x

-- a column's number in a difference
pub at-less : (xs : List Fraction) (k : Fraction) (ys : List Fraction) (c : ℕ) → at (less xs k ys) c ≡ minus (at xs c) (times k (at ys c))
at-less [] k [] c = nothing_less k
at-less [] k (y ∷ ys) zero = refl
at-less [] k (y ∷ ys) (suc c) = at-less [] k ys c
at-less (x ∷ xs) k [] zero = sym (ap (λ a. minus x a) (times_zero k) ∙ minus_zero x)
at-less (x ∷ xs) k [] (suc c) = at-less xs k [] c
at-less (x ∷ xs) k (y ∷ ys) zero = refl
at-less (x ∷ xs) k (y ∷ ys) (suc c) = at-less xs k ys c

-- a column's number in a divided line
pub at-divided : (xs : List Fraction) (a : Fraction) (c : ℕ) → at (divided xs a) c ≡ times (at xs c) (reciprocal a)
at-divided [] a c = sym (zero_times (reciprocal a))
at-divided (x ∷ xs) a zero = refl
at-divided (x ∷ xs) a (suc c) = at-divided xs a c

-- an empty line has no column
drop_none : (m : ℕ) → drop {A = Fraction} m [] ≡ []
drop_none zero = refl
drop_none (suc m) = refl

-- a difference from some column on
pub drop-less : (m : ℕ) (xs : List Fraction) (k : Fraction) (ys : List Fraction) → drop m (less xs k ys) ≡ less (drop m xs) k (drop m ys)
drop-less zero xs k ys = refl
drop-less (suc m) [] k [] = refl
drop-less (suc m) [] k (y ∷ ys) = drop-less m [] k ys ∙ ap (λ a. less a k (drop m ys)) (drop_none m)
drop-less (suc m) (x ∷ xs) k [] = drop-less m xs k [] ∙ ap (λ a. less (drop m xs) k a) (drop_none m)
drop-less (suc m) (x ∷ xs) k (y ∷ ys) = drop-less m xs k ys

-- ---- where most columns count nothing

-- 1 isn't 0
pub one_is_some : whole (pos 1) ≡ nought → ⊥
one_is_some e = let f : pos 1 ≡ pos 0 = sym (whole_num (pos 1)) ∙ ap (λ a. a.num) e ∙ whole_num (pos 0) in cc

-- no column counts
pub total_nothing : (xs : List Fraction) (v : ℕ → Fraction) → ((k : ℕ) → times (at xs k) (v k) ≡ nought) → total xs v ≡ nought
total_nothing [] v h = refl
total_nothing (x ∷ xs) v h =
    ap (λ a. plus a (total xs (λ k. v (suc k)))) (h 0) ∙ ap (λ a. plus nought a) (total_nothing xs (λ k. v (suc k)) (λ k. h (suc k)))
    ∙ plus-zero nought

-- one column counts, and its number is 1
pub total_one : (xs : List Fraction) (r : ℕ) (v : ℕ → Fraction) → at xs r ≡ whole (pos 1) → ((k : ℕ) → k ≢ r → times (at xs k) (v k) ≡ nought)
    → total xs v ≡ v r
total_one [] r v e h = absurd (one_is_some (sym e))
total_one (x ∷ xs) zero v e h =
    ap (λ a. plus (times a (v 0)) (total xs (λ k. v (suc k)))) e
    ∙ ap (λ a. plus (times (whole (pos 1)) (v 0)) a) (total_nothing xs (λ k. v (suc k)) (λ k. h (suc k) (λ d. cc)))
    ∙ plus-zero (times (whole (pos 1)) (v 0)) ∙ times_comm (whole (pos 1)) (v 0) ∙ times-one (v 0)
total_one (x ∷ xs) (suc r) v e h =
    ap (λ a. plus a (total xs (λ k. v (suc k)))) (h 0 (λ d. cc)) ∙ plus_left_zero (total xs (λ k. v (suc k)))
    ∙ total_one xs r (λ k. v (suc k)) e (λ k d. h (suc k) (λ f. d (let g : k ≡ r = omega arith in g)))

-- the sum over two lists of columns
pub total-append : (xs ys : List Fraction) (v w : ℕ → Fraction) → ((k : ℕ) → v (length xs + k) ≡ w k)
    → total (xs ++ ys) v ≡ plus (total xs v) (total ys w)
total-append [] ys v w h = total-same ys v w (λ k. ap v (let e : k ≡ 0 + k = omega arith in e) ∙ h k) ∙ sym (plus_left_zero (total ys w))
total-append (x ∷ xs) ys v w h =
    ap (λ a. plus (times x (v 0)) a) (total-append xs ys (λ k. v (suc k)) w
    (λ k. ap v (let e : suc (length xs + k) ≡ suc (length xs) + k = omega arith in e) ∙ h k))
    ∙ sym (plus_assoc (times x (v 0)) (total xs (λ k. v (suc k))) (total ys w))

-- numbers and amounts can be exchanged
pub total_swap : (xs ys : List Fraction) → total xs (at ys) ≡ total ys (at xs)
total_swap [] [] = refl
total_swap [] (y ∷ ys) = sym (total_nothing (y ∷ ys) (λ k. nought) (λ k. times_zero (at (y ∷ ys) k)))
total_swap (x ∷ xs) [] = total_nothing (x ∷ xs) (λ k. nought) (λ k. times_zero (at (x ∷ xs) k))
total_swap (x ∷ xs) (y ∷ ys) = ap (λ a. plus (times x y) a) (total_swap xs ys) ∙ ap (λ a. plus a (total ys (at xs))) (times_comm x y)
