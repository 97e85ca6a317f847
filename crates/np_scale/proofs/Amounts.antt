-- The scaled changes of a step: put in place one by one they are those of the values in order.
use Rattle.std.proofs.Common.{◌≡◌, ◌≢◌, ℕ, zero, suc, ◌+◌, ◌-◌, ◌<◌, ◌≤◌, Bool, true, false, ◌||◌, ℤ, refl, sym, ◌∙◌, ap, subst, arith, List, [], ◌∷◌, map, length, drop, get_or, Some, Ok, Err}
use Rattle.std.specs.Prelude.{◌&&◌, not, if◌then◌else◌}
use Rattle.std.specs.Option.{option_map_or}
use Rattle.std.specs.List.{list_all, list_any, AllByRecursion}
use Rattle.std.proofs.lemmas.Bool.{lt-ltb, le-ltb, false≢true}
use Rattle.std.proofs.lemmas.List.{drop_more}
use Rattle.np_frac.specs.Fractions.{Fraction}
use Rattle.np_frac.specs.Checked.{is_zero}
use Rattle.np_model.specs.declared.task.Term.{Term}
use Rattle.np_model.specs.Ground.{same_term, same_term-Decides}
use Rattle.np_model.specs.States.{value_among}
use Rattle.np_model.specs.Tasks.{AreDistinct}
use Rattle.np_linear.specs.Linears.{zero as none}
use Rattle.np_linear.specs.Answers.{and_then}
use Rattle.np_bind.specs.declared.bound.BoundStep.{BoundStep}
use Rattle.np_bind.specs.declared.bound.Spot.TheVariants.{Step}
use Rattle.np_bind.specs.Grounding.{number_on}
use Rattle.np_flat.specs.declared.limits.TheConstants.{CHANGE_SIZE}
use Rattle.np_scale.specs.declared.fault.ScaleFault.{ScaleFault}
use Rattle.np_scale.specs.declared.fault.ScaleFault.TheVariants.{NumberWide}
use Rattle.np_scale.specs.Tables.{number_of}
use Rattle.np_scale.specs.Wholes.{scaled_number}
use Rattle.np_scale.specs.Forms.{in_place}
use Rattle.np_scale.specs.FlatOf.{changes_from}
use Rattle.np_scale.specs.Limits.{unless, each_checked, is_below, checked_change}
use Rattle.np_scale.specs.Code.{counts, is_small_change, with_amount, all_amounts, checked_amounts}
use Rattle.np_scale.proofs.Every.{first_differs, others_distinct, each_unmap}
use Rattle.np_scale.proofs.Positive.{whole_zero}
use Rattle.np_scale.proofs.FlatImages.{scaled_zero}

-- ---- numbers in order

-- a pair whose number is below all others comes first
first_place : (x : ℕ × ℤ) (ys : List (ℕ × ℤ)) → AllByRecursion (λ y. x.0 < y.0) ys → in_place x ys ≡ x ∷ ys
first_place x [] all = refl
first_place x (y ∷ ys) all = rw (lt-ltb x.0 y.0 all.0) refl

-- numbers from a place on are at least that place
from_place : (unit k n : ℕ) (cs : List (Term × Fraction)) (ts : List Term) → n < k → AllByRecursion (λ y. n < y.0) (changes_from unit k cs ts)
from_place unit k n cs [] h = tt
from_place unit k n cs (t ∷ ts) h = by (is_zero (number_on cs t)) (from_place unit (suc k) n cs ts (omega arith))
  where
    by : (b : Bool) → AllByRecursion (λ y. n < y.0) (changes_from unit (suc k) cs ts)
        → AllByRecursion (λ y. n < y.0) (if b then changes_from unit (suc k) cs ts else ((k, scaled_number unit (number_on cs t)) ∷ changes_from unit (suc k) cs ts))
    by true rest = rest
    by false rest = (h, rest)

-- ---- the change on a term

-- a term without a change has the number 0
missing_none : (cs : List (Term × Fraction)) (t : Term) → AllByRecursion (λ c. t ≢ c.0) cs → number_on cs t ≡ none
missing_none [] t apart = refl
missing_none (c ∷ cs) t apart = by (same_term t c.0) refl (missing_none cs t apart.1)
  where
    by : (b : Bool) → same_term t c.0 ≡ b → number_on cs t ≡ none → option_map_or (λ x. x) (if b then Some c.1 else value_among cs t) none ≡ none
    by true is rest = absurd (apart.0 ((same_term-Decides t c.0).0 is))
    by false is rest = rest

-- a change on another term
other_number : (c : Term × Fraction) (cs : List (Term × Fraction)) (t : Term) → c.0 ≢ t → number_on (c ∷ cs) t ≡ number_on cs t
other_number c cs t apart = by (same_term t c.0) refl
  where
    by : (b : Bool) → same_term t c.0 ≡ b → option_map_or (λ x. x) (if b then Some c.1 else value_among cs t) none ≡ number_on cs t
    by true is = absurd (apart (sym ((same_term-Decides t c.0).0 is)))
    by false is = refl

-- and on this one
own_number : (c : Term × Fraction) (cs : List (Term × Fraction)) (t : Term) → c.0 ≡ t → number_on (c ∷ cs) t ≡ c.1
own_number c cs t e = ap (λ b. option_map_or (λ x. x) (if b then Some c.1 else value_among cs t) none) ((same_term-Decides t c.0).1 (sym e))

-- a change on a term that isn't among the values alters nothing
elsewhere : (unit k : ℕ) (c : Term × Fraction) (cs : List (Term × Fraction)) (ts : List Term) → AllByRecursion (λ t. c.0 ≢ t) ts → changes_from unit k (c ∷ cs) ts ≡ changes_from unit k cs ts
elsewhere unit k c cs [] apart = refl
elsewhere unit k c cs (t ∷ ts) apart =
    ap (λ x. if is_zero x then changes_from unit (suc k) (c ∷ cs) ts else ((k, scaled_number unit x) ∷ changes_from unit (suc k) (c ∷ cs) ts)) (other_number c cs t apart.0)
    ∙ ap (λ l. if is_zero (number_on cs t) then l else ((k, scaled_number unit (number_on cs t)) ∷ l)) (elsewhere unit (suc k) c cs ts apart.1)

-- ---- one change more

-- the pair in its place, where the change is on a value and not 0
abbrev placed : ℕ → ℕ → Bool → Fraction → List (ℕ × ℤ) → List (ℕ × ℤ)
placed unit k counts x amounts = if counts then in_place (k, scaled_number unit x) amounts else amounts

-- at the number of its term
at_own : (unit k : ℕ) (c : Term × Fraction) (cs : List (Term × Fraction)) (t : Term) (ts : List Term) → c.0 ≡ t → AllByRecursion (λ u. t ≢ u) ts → AllByRecursion (λ d. c.0 ≢ d.0) cs
    → changes_from unit k (c ∷ cs) (t ∷ ts) ≡ placed unit k (not (is_zero c.1)) c.1 (changes_from unit k cs (t ∷ ts))
at_own unit k c cs t ts e others apart =
    ap (λ x. if is_zero x then changes_from unit (suc k) (c ∷ cs) ts else ((k, scaled_number unit x) ∷ changes_from unit (suc k) (c ∷ cs) ts)) (own_number c cs t e)
    ∙ ap (λ l. if is_zero c.1 then l else ((k, scaled_number unit c.1) ∷ l)) (elsewhere unit (suc k) c cs ts (subst (λ u. AllByRecursion (λ w. u ≢ w) ts) (sym e) others))
    ∙ by (is_zero c.1)
    ∙ ap (placed unit k (not (is_zero c.1)) c.1) (sym none_here)
  where
    none_here : changes_from unit k cs (t ∷ ts) ≡ changes_from unit (suc k) cs ts
    none_here =
        ap (λ x. if is_zero x then changes_from unit (suc k) cs ts else ((k, scaled_number unit x) ∷ changes_from unit (suc k) cs ts))
        (missing_none cs t (subst (λ u. AllByRecursion (λ d. u ≢ d.0) cs) e apart))
        ∙ ap (λ b. if b then changes_from unit (suc k) cs ts else ((k, scaled_number unit none) ∷ changes_from unit (suc k) cs ts)) whole_zero

    by : (b : Bool) → (if b then changes_from unit (suc k) cs ts else ((k, scaled_number unit c.1) ∷ changes_from unit (suc k) cs ts)) ≡ placed unit k (not b) c.1 (changes_from unit (suc k) cs ts)
    by true = refl
    by false = sym (first_place (k, scaled_number unit c.1) (changes_from unit (suc k) cs ts) (from_place unit (suc k) k cs ts (omega arith)))

-- behind another value
behind : (unit k n : ℕ) (x : ℤ) (y : Fraction) (rest : List (ℕ × ℤ)) → k < n
    → (if is_zero y then in_place (n, x) rest else ((k, scaled_number unit y) ∷ in_place (n, x) rest)) ≡ in_place (n, x) (if is_zero y then rest else ((k, scaled_number unit y) ∷ rest))
behind unit k n x y rest less = by (is_zero y)
  where
    by : (b : Bool) → (if b then in_place (n, x) rest else ((k, scaled_number unit y) ∷ in_place (n, x) rest)) ≡ in_place (n, x) (if b then rest else ((k, scaled_number unit y) ∷ rest))
    by true = refl
    by false = sym (ap (λ b. if b then (n, x) ∷ (k, scaled_number unit y) ∷ rest else (k, scaled_number unit y) ∷ in_place (n, x) rest) (le-ltb n k (omega arith)))

at_other : (unit k n : ℕ) (c : Term × Fraction) (cs : List (Term × Fraction)) (t : Term) (ts : List Term) (counted : Bool) → c.0 ≢ t → k < n
    → changes_from unit (suc k) (c ∷ cs) ts ≡ placed unit n counted c.1 (changes_from unit (suc k) cs ts)
    → changes_from unit k (c ∷ cs) (t ∷ ts) ≡ placed unit n counted c.1 (changes_from unit k cs (t ∷ ts))
at_other unit k n c cs t ts counted other less rest =
    ap (λ x. if is_zero x then changes_from unit (suc k) (c ∷ cs) ts else ((k, scaled_number unit x) ∷ changes_from unit (suc k) (c ∷ cs) ts)) (other_number c cs t other)
    ∙ ap (λ l. if is_zero (number_on cs t) then l else ((k, scaled_number unit (number_on cs t)) ∷ l)) rest
    ∙ by counted
  where
    by : (b : Bool) → (if is_zero (number_on cs t) then placed unit n b c.1 (changes_from unit (suc k) cs ts) else ((k, scaled_number unit (number_on cs t)) ∷ placed unit n b c.1 (changes_from unit (suc k) cs ts)))
        ≡ placed unit n b c.1 (changes_from unit k cs (t ∷ ts))
    by true = behind unit k n (scaled_number unit c.1) (number_on cs t) (changes_from unit (suc k) cs ts) less
    by false = refl

one_more : (unit k : ℕ) (c : Term × Fraction) (cs : List (Term × Fraction)) (ts : List Term) → AreDistinct ts → AllByRecursion (λ d. c.0 ≢ d.0) cs
    → changes_from unit k (c ∷ cs) ts ≡ placed unit (k + number_of same_term ts c.0) (counts ts c) c.1 (changes_from unit k cs ts)
one_more unit k c cs [] distinct apart = refl
one_more unit k c cs (t ∷ ts) distinct apart = by (same_term c.0 t) refl (one_more unit (suc k) c cs ts (others_distinct t ts distinct) apart)
  where
    place : ℕ
    place = number_of same_term ts c.0

    by : (b : Bool) → same_term c.0 t ≡ b → changes_from unit (suc k) (c ∷ cs) ts ≡ placed unit (suc k + place) (counts ts c) c.1 (changes_from unit (suc k) cs ts)
        → changes_from unit k (c ∷ cs) (t ∷ ts) ≡ placed unit (k + (if b then 0 else suc place)) ((b || list_any (same_term c.0) ts) && not (is_zero c.1)) c.1 (changes_from unit k cs (t ∷ ts))
    by true is rest =
        let same : k ≡ k + 0 = omega arith in
        at_own unit k c cs t ts ((same_term-Decides c.0 t).0 is) (first_differs t ts distinct) apart
        ∙ ap (λ n. placed unit n (not (is_zero c.1)) c.1 (changes_from unit k cs (t ∷ ts))) same
    by false is rest =
        let moved : suc k + place ≡ k + suc place = omega arith in
        at_other unit k (k + suc place) c cs t ts (counts ts c) (λ e. false≢true (sym is ∙ (same_term-Decides c.0 t).1 e)) (omega arith)
        (rest ∙ ap (λ n. placed unit n (counts ts c) c.1 (changes_from unit (suc k) cs ts)) moved)

-- all of them
amounts_in_order : (unit : ℕ) (ts : List Term) → AreDistinct ts → (cs : List (Term × Fraction)) → AreDistinct (map (λ c. c.0) cs) → all_amounts ts unit cs ≡ changes_from unit 0 cs ts
amounts_in_order unit ts distinct [] apart = none_from 0 ts
  where
    none_from : (k : ℕ) (us : List Term) → [] ≡ changes_from unit k [] us
    none_from k [] = refl
    none_from k (u ∷ us) = none_from (suc k) us ∙ ap (λ b. if b then changes_from unit (suc k) [] us else ((k, scaled_number unit none) ∷ changes_from unit (suc k) [] us)) (sym whole_zero)
amounts_in_order unit ts distinct (c ∷ cs) apart =
    let first : number_of same_term ts c.0 ≡ 0 + number_of same_term ts c.0 = omega arith in
    ap (with_amount ts unit c) (amounts_in_order unit ts distinct cs (others_distinct c.0 (map (λ d. d.0) cs) apart))
    ∙ ap (λ n. placed unit n (counts ts c) c.1 (changes_from unit 0 cs ts)) first
    ∙ sym (one_more unit 0 c cs ts distinct (each_unmap (λ t. c.0 ≢ t) (λ d. d.0) cs (first_differs c.0 (map (λ d. d.0) cs) apart)))

-- ---- their limit

-- whether the scaled change on a term is below the limit
abbrev is_small_on : ℕ → List (Term × Fraction) → Term → Bool
is_small_on unit cs t = is_below CHANGE_SIZE (scaled_number unit (number_on cs t))

-- a number that is 0 is below it
zero_small : (unit : ℕ) (x : Fraction) → is_zero x ≡ true → is_below CHANGE_SIZE (scaled_number unit x) ≡ true
zero_small unit x e = ap (is_below CHANGE_SIZE) (scaled_zero unit x e)

swap : (a b c : Bool) → (a && (b && c)) ≡ (b && (a && c))
swap true b c = refl
swap false true c = refl
swap false false c = refl

elsewhere_small : (unit : ℕ) (c : Term × Fraction) (cs : List (Term × Fraction)) (ts : List Term) → AllByRecursion (λ t. c.0 ≢ t) ts
    → list_all (is_small_on unit (c ∷ cs)) ts ≡ list_all (is_small_on unit cs) ts
elsewhere_small unit c cs [] apart = refl
elsewhere_small unit c cs (t ∷ ts) apart =
    ap (λ x. is_below CHANGE_SIZE (scaled_number unit x) && list_all (is_small_on unit (c ∷ cs)) ts) (other_number c cs t apart.0)
    ∙ ap (λ b. is_small_on unit cs t && b) (elsewhere_small unit c cs ts apart.1)

-- one change more
more_small : (unit : ℕ) (c : Term × Fraction) (cs : List (Term × Fraction)) (ts : List Term) → AreDistinct ts → AllByRecursion (λ d. c.0 ≢ d.0) cs
    → list_all (is_small_on unit (c ∷ cs)) ts ≡ (is_small_change ts unit c && list_all (is_small_on unit cs) ts)
more_small unit c cs [] distinct apart = refl
more_small unit c cs (t ∷ ts) distinct apart = by (same_term c.0 t) refl (more_small unit c cs ts (others_distinct t ts distinct) apart)
  where
    rest_small : Bool
    rest_small = list_all (is_small_on unit cs) ts

    own : (z : Bool) → is_zero c.1 ≡ z → (is_below CHANGE_SIZE (scaled_number unit c.1) && rest_small) ≡ ((if not z then is_below CHANGE_SIZE (scaled_number unit c.1) else true) && rest_small)
    own true is = ap (λ b. b && rest_small) (zero_small unit c.1 is)
    own false is = refl

    by : (b : Bool) → same_term c.0 t ≡ b → list_all (is_small_on unit (c ∷ cs)) ts ≡ (is_small_change ts unit c && rest_small)
        → list_all (is_small_on unit (c ∷ cs)) (t ∷ ts)
        ≡ ((if (b || list_any (same_term c.0) ts) && not (is_zero c.1) then is_below CHANGE_SIZE (scaled_number unit c.1) else true) && list_all (is_small_on unit cs) (t ∷ ts))
    by true is rest =
        let e : c.0 ≡ t = (same_term-Decides c.0 t).0 is in
        let none_here : is_small_on unit cs t ≡ true = zero_small unit (number_on cs t) (ap is_zero (missing_none cs t (subst (λ u. AllByRecursion (λ d. u ≢ d.0) cs) e apart)) ∙ whole_zero) in
        ap (λ x. is_below CHANGE_SIZE (scaled_number unit x) && list_all (is_small_on unit (c ∷ cs)) ts) (own_number c cs t e)
        ∙ ap (λ b. is_below CHANGE_SIZE (scaled_number unit c.1) && b) (elsewhere_small unit c cs ts (subst (λ u. AllByRecursion (λ w. u ≢ w) ts) (sym e) (first_differs t ts distinct)))
        ∙ own (is_zero c.1) refl
        ∙ ap (λ b. (if not (is_zero c.1) then is_below CHANGE_SIZE (scaled_number unit c.1) else true) && (b && rest_small)) (sym none_here)
    by false is rest =
        ap (λ x. is_below CHANGE_SIZE (scaled_number unit x) && list_all (is_small_on unit (c ∷ cs)) ts) (other_number c cs t (λ e. false≢true (sym is ∙ (same_term-Decides c.0 t).1 e)))
        ∙ ap (λ b. is_small_on unit cs t && b) rest
        ∙ swap (is_small_on unit cs t) (is_small_change ts unit c) rest_small

-- all of them
all_small : (unit : ℕ) (ts : List Term) → AreDistinct ts → (cs : List (Term × Fraction)) → AreDistinct (map (λ c. c.0) cs) → list_all (is_small_change ts unit) cs ≡ list_all (is_small_on unit cs) ts
all_small unit ts distinct [] apart = none_wide ts
  where
    none_wide : (us : List Term) → true ≡ list_all (is_small_on unit []) us
    none_wide [] = refl
    none_wide (u ∷ us) = none_wide us ∙ ap (λ b. b && list_all (is_small_on unit []) us) (sym (zero_small unit none whole_zero))
all_small unit ts distinct (c ∷ cs) apart =
    ap (λ b. is_small_change ts unit c && b) (all_small unit ts distinct cs (others_distinct c.0 (map (λ d. d.0) cs) apart))
    ∙ sym (more_small unit c cs ts distinct (each_unmap (λ t. c.0 ≢ t) (λ d. d.0) cs (first_differs c.0 (map (λ d. d.0) cs) apart)))

-- ---- the step

-- things checked with one fault
one_fault : {A : Type 0} (test : A → Bool) (fault : ScaleFault) (xs : List A) → each_checked (λ x. unless (test x) fault) xs ≡ unless (list_all test xs) fault
one_fault test fault [] = refl
one_fault test fault (x ∷ xs) = by (test x) (one_fault test fault xs)
  where
    by : (b : Bool) → each_checked (λ y. unless (test y) fault) xs ≡ unless (list_all test xs) fault
        → and_then (unless b fault) (λ _. each_checked (λ y. unless (test y) fault) xs) ≡ unless (b && list_all test xs) fault
    by true rest = rest
    by false rest = refl

-- the scaled changes of a step are those of the values in order, or its fault
pub amounts_are : (terms : List Term) (unit : ℕ) (b : BoundStep) → AreDistinct terms → AreDistinct (map (λ c. c.0) b.changes)
    → checked_amounts terms unit b ≡ and_then (each_checked (checked_change unit b) terms) (λ _. Ok (changes_from unit 0 b.changes terms))
amounts_are terms unit b distinct apart =
    ap (λ s. if s then Ok (all_amounts terms unit b.changes) else Err (NumberWide (Step b.step))) (all_small unit terms distinct b.changes apart)
    ∙ ap (λ l. if list_all (is_small_on unit b.changes) terms then Ok l else Err (NumberWide (Step b.step))) (amounts_in_order unit terms distinct b.changes apart)
    ∙ by (list_all (is_small_on unit b.changes) terms)
    ∙ ap (λ r. and_then r (λ _. Ok (changes_from unit 0 b.changes terms))) (sym (one_fault (is_small_on unit b.changes) (NumberWide (Step b.step)) terms))
  where
    by : (s : Bool) → (if s then Ok (changes_from unit 0 b.changes terms) else Err (NumberWide (Step b.step))) ≡ and_then (unless s (NumberWide (Step b.step))) (λ _. Ok (changes_from unit 0 b.changes terms))
    by true = refl
    by false = refl

-- ---- the loop over changes, from the last one on

-- one more change
back_more : {A : Type 0} (xs : List A) (p : ℕ) (x : A) → 0 < p → p ≤ length xs → x ≡ get_or xs (p - 1) x → drop (p - 1) xs ≡ x ∷ drop p xs
back_more xs p x some within at =
    let back : (p - 1) + 1 ≡ p = omega (arith, some) in
    drop_more xs (p - 1) x (omega (arith, some, within)) ∙ ap (λ y. y ∷ drop ((p - 1) + 1) xs) (sym at) ∙ ap (λ n. x ∷ drop n xs) back

pub amounts_more : (terms : List Term) (unit : ℕ) (cs : List (Term × Fraction)) (p : ℕ) (c : Term × Fraction) (old new : List (ℕ × ℤ)) → 0 < p → p ≤ length cs → c ≡ get_or cs (p - 1) c
    → old ≡ all_amounts terms unit (drop p cs) → new ≡ with_amount terms unit c old → new ≡ all_amounts terms unit (drop (p - 1) cs)
amounts_more terms unit cs p c old new some within at before put = put ∙ ap (with_amount terms unit c) before ∙ ap (all_amounts terms unit) (sym (back_more cs p c some within at))

pub small_more : (terms : List Term) (unit : ℕ) (cs : List (Term × Fraction)) (p : ℕ) (c : Term × Fraction) → 0 < p → p ≤ length cs → c ≡ get_or cs (p - 1) c
    → list_all (is_small_change terms unit) (drop p cs) ≡ true → is_small_change terms unit c ≡ true → list_all (is_small_change terms unit) (drop (p - 1) cs) ≡ true
small_more terms unit cs p c some within at before small =
    ap (list_all (is_small_change terms unit)) (back_more cs p c some within at) ∙ ap (λ b. b && list_all (is_small_change terms unit) (drop p cs)) small ∙ before

-- a change that is past the limit
some_fails : {A : Type 0} (test : A → Bool) (xs : List A) (i : ℕ) (x : A) → i < length xs → x ≡ get_or xs i x → test x ≡ false → list_all test xs ≡ false
some_fails test [] i x within at fails = absurd (omega (arith, within))
some_fails test (y ∷ ys) zero x within at fails = ap (λ z. test z && list_all test ys) (sym at) ∙ ap (λ b. b && list_all test ys) fails
some_fails test (y ∷ ys) (suc i) x within at fails = ap (λ b. test y && b) (some_fails test ys i x (omega (arith, within)) at fails) ∙ none (test y)
  where
    none : (b : Bool) → (b && false) ≡ false
    none true = refl
    none false = refl

pub amounts_wide : (terms : List Term) (unit : ℕ) (b : BoundStep) (p : ℕ) (c : Term × Fraction) → 0 < p → p ≤ length b.changes → c ≡ get_or b.changes (p - 1) c
    → is_small_change terms unit c ≡ false → checked_amounts terms unit b ≡ Err (NumberWide (Step b.step))
amounts_wide terms unit b p c some within at wide =
    ap (λ s. if s then Ok (all_amounts terms unit b.changes) else Err (NumberWide (Step b.step)))
    (some_fails (is_small_change terms unit) b.changes (p - 1) c (omega (arith, some, within)) at wide)

pub amounts_all : (terms : List Term) (unit : ℕ) (b : BoundStep) (p : ℕ) (amounts : List (ℕ × ℤ)) → p ≤ 0 → amounts ≡ all_amounts terms unit (drop p b.changes)
    → list_all (is_small_change terms unit) (drop p b.changes) ≡ true → checked_amounts terms unit b ≡ Ok amounts
amounts_all terms unit b zero amounts none are small = ap (λ s. if s then Ok (all_amounts terms unit b.changes) else Err (NumberWide (Step b.step))) small ∙ ap Ok (sym are)
amounts_all terms unit b (suc p) amounts none are small = absurd (omega (arith, none))
