-- The terms of a linear sum that is read are distinct, each has a start value, and no coefficient is 0. Of net changes, whose zeros
-- are kept, the terms are distinct, and each has a start value.
use Rattle.std.proofs.Common.{◌≡◌, ◌≢◌, ℕ, pos, Bool, true, false, refl, sym, ap, subst, List, [], ◌∷◌, map, Option, Some, None, Ok, Err, Result}
use Rattle.std.specs.Prelude.{not, ◌&&◌, if◌then◌else◌, All, IsTrue, IfOk, is_some}
use Rattle.std.proofs.lemmas.List.Elements.{All-cons, All-nil}
use Rattle.std.proofs.lemmas.Bool.{both_ways}
use Rattle.np_frac.specs.Fractions.{Fraction, whole}
use Rattle.np_frac.specs.Checked.{is_zero}
use Rattle.np_model.specs.declared.task.Term.{Term}
use Rattle.np_model.specs.declared.task.Signature.{Signature}
use Rattle.np_model.specs.declared.task.Sum.{Sum}
use Rattle.np_model.specs.Ground.{term_of, same_term, same_term-Decides}
use Rattle.np_model.specs.States.{value_among}
use Rattle.np_model.specs.Tasks.{AreDistinct, is_fixed}
use Rattle.np_model.proofs.Distinct.{distinct_none, distinct_cons}
use Rattle.np_model.proofs.Folds.{Pairwise, Keeps, related}
use Rattle.np_linear.specs.declared.linear.Linear.{Linear}
use Rattle.np_linear.specs.declared.finding.Finding.{Finding}
use Rattle.np_linear.specs.declared.finding.Finding.TheVariants.{Missing, NotLinear}
use Rattle.np_linear.specs.Answers.{and_then}
use Rattle.np_linear.specs.Linears.{zero, checked_sum, checked_product, with_term, with_multiple, with_multiples, constant, is_constant, linear_sum, terms_times, linear_times, linear_product, linear_quotient, linear_of_term, begin, with_part, parts_from, linear_from, linear_of}

-- ---- answers

-- what an answer says that comes after another
pub then_says : {A B C : Type 0} (P : A → Type 0) (Q : B → Type 0) (r : Result A C) (f : A → Result B C) → IfOk r P → ((x : A) → P x → IfOk (f x) Q) → IfOk (and_then r f) Q
then_says P Q (Ok x) f p k = k x p
then_says P Q (Err e) f p k = tt

-- any answer
pub says_nothing : {A C : Type 0} (r : Result A C) → IfOk r (λ x. Unit {0})
says_nothing (Ok x) = tt
says_nothing (Err e) = tt

both_say : {A C : Type 0} (P Q : A → Type 0) (r : Result A C) → IfOk r P → IfOk r Q → IfOk r (λ x. P x × Q x)
both_say P Q (Ok x) p q = (p, q)
both_say P Q (Err e) p q = tt

-- what an answer says, where there is one
pub says_of : {A C : Type 0} (P : A → Type 0) (r : Result A C) (x : A) → r ≡ Ok x → IfOk r P → P x
says_of P r x e h = rw e at h

-- ---- lists of terms

-- each term of a list has the property
abbrev pub Each : (Term → Type 0) → List (Term × Fraction) → Type 0
Each P [] = Unit {0}
Each P (x ∷ xs) = P x.0 × Each P xs

-- no term comes twice
abbrev pub Once : List (Term × Fraction) → Type 0
Once [] = Unit {0}
Once (x ∷ xs) = Each (λ t. x.0 ≢ t) xs × Once xs

-- no coefficient is 0
abbrev pub HasNoZero : List (Term × Fraction) → Type 0
HasNoZero [] = Unit {0}
HasNoZero (x ∷ xs) = (is_zero x.1 ≡ false) × HasNoZero xs

each_with_term : (P : Term → Type 0) (zeros : Bool) (t : Term) (c : Fraction) (xs : List (Term × Fraction)) → P t → Each P xs → Each P (with_term zeros t c xs)
each_with_term P zeros t c xs p h = by (not zeros && is_zero c)
  where
    by : (b : Bool) → Each P (if b then xs else (t, c) ∷ xs)
    by true = h
    by false = (p, h)

once_with_term : (zeros : Bool) (t : Term) (c : Fraction) (xs : List (Term × Fraction)) → Each (λ u. t ≢ u) xs → Once xs → Once (with_term zeros t c xs)
once_with_term zeros t c xs p h = by (not zeros && is_zero c)
  where
    by : (b : Bool) → Once (if b then xs else (t, c) ∷ xs)
    by true = h
    by false = (p, h)

no_zero_with_term : (t : Term) (c : Fraction) (xs : List (Term × Fraction)) → HasNoZero xs → HasNoZero (with_term false t c xs)
no_zero_with_term t c xs h = by (is_zero c) refl
  where
    by : (b : Bool) → is_zero c ≡ b → HasNoZero (if b then xs else (t, c) ∷ xs)
    by true e = h
    by false e = (e, h)

-- a multiple of a term taken in
pub each_with_multiple : (P : Term → Type 0) (zeros up : Bool) (t : Term) (c : Fraction) (xs : List (Term × Fraction)) → P t → Each P xs → IfOk (with_multiple zeros up t c xs) (Each P)
each_with_multiple P zeros up t c [] p h =
    then_says (λ x. Unit {0}) (Each P) (checked_sum up zero c) _ (says_nothing (checked_sum up zero c)) (λ sum u. each_with_term P zeros t sum [] p tt)
each_with_multiple P zeros up t c (x ∷ xs) p h = by (each_with_multiple P zeros up t c xs p h.1) (same_term t x.0)
  where
    by : IfOk (with_multiple zeros up t c xs) (Each P) → (b : Bool) → IfOk (if b then and_then (checked_sum up x.1 c) (λ sum. Ok (with_term zeros t sum xs)) else and_then (with_multiple zeros up t c xs) (λ ys. Ok (x ∷ ys))) (Each P)
    by rest true = then_says (λ y. Unit {0}) (Each P) (checked_sum up x.1 c) _ (says_nothing (checked_sum up x.1 c)) (λ sum u. each_with_term P zeros t sum xs p h.1)
    by rest false = then_says (Each P) (Each P) (with_multiple zeros up t c xs) _ rest (λ ys e. (h.0, e))

pub once_with_multiple : (zeros up : Bool) (t : Term) (c : Fraction) (xs : List (Term × Fraction)) → Once xs → IfOk (with_multiple zeros up t c xs) Once
once_with_multiple zeros up t c [] h =
    then_says (λ x. Unit {0}) Once (checked_sum up zero c) _ (says_nothing (checked_sum up zero c)) (λ sum u. once_with_term zeros t sum [] tt tt)
once_with_multiple zeros up t c (x ∷ xs) h = by (once_with_multiple zeros up t c xs h.1) (same_term t x.0) refl
  where
    here : same_term t x.0 ≡ true → Each (λ u. t ≢ u) xs
    here same = subst (λ u. Each (λ v. u ≢ v) xs) (sym ((same_term-Decides t x.0).0 same)) h.0

    apart : same_term t x.0 ≡ false → x.0 ≢ t
    apart other e = both_ways (same_term t x.0) other ((same_term-Decides t x.0).1 (sym e))

    by : IfOk (with_multiple zeros up t c xs) Once → (b : Bool) → same_term t x.0 ≡ b → IfOk (if b then and_then (checked_sum up x.1 c) (λ sum. Ok (with_term zeros t sum xs)) else and_then (with_multiple zeros up t c xs) (λ ys. Ok (x ∷ ys))) Once
    by rest true same = then_says (λ y. Unit {0}) Once (checked_sum up x.1 c) _ (says_nothing (checked_sum up x.1 c)) (λ sum u. once_with_term zeros t sum xs (here same) h.1)
    by rest false other =
        then_says (λ ys. Each (λ u. x.0 ≢ u) ys × Once ys) Once (with_multiple zeros up t c xs) _
        (both_say (Each (λ u. x.0 ≢ u)) Once (with_multiple zeros up t c xs) (each_with_multiple (λ u. x.0 ≢ u) zeros up t c xs (apart other) h.0) rest)
        (λ ys e. e)

no_zero_with_multiple : (up : Bool) (t : Term) (c : Fraction) (xs : List (Term × Fraction)) → HasNoZero xs → IfOk (with_multiple false up t c xs) HasNoZero
no_zero_with_multiple up t c [] h =
    then_says (λ x. Unit {0}) HasNoZero (checked_sum up zero c) _ (says_nothing (checked_sum up zero c)) (λ sum u. no_zero_with_term t sum [] tt)
no_zero_with_multiple up t c (x ∷ xs) h = by (no_zero_with_multiple up t c xs h.1) (same_term t x.0)
  where
    by : IfOk (with_multiple false up t c xs) HasNoZero → (b : Bool) → IfOk (if b then and_then (checked_sum up x.1 c) (λ sum. Ok (with_term false t sum xs)) else and_then (with_multiple false up t c xs) (λ ys. Ok (x ∷ ys))) HasNoZero
    by rest true = then_says (λ y. Unit {0}) HasNoZero (checked_sum up x.1 c) _ (says_nothing (checked_sum up x.1 c)) (λ sum u. no_zero_with_term t sum xs h.1)
    by rest false = then_says HasNoZero HasNoZero (with_multiple false up t c xs) _ rest (λ ys e. (h.0, e))

-- ---- linear sums

-- distinct terms, each with the property, and no coefficient 0
abbrev pub AreProper : (Term → Type 0) → List (Term × Fraction) → Type 0
AreProper P xs = Each P xs × (Once xs × HasNoZero xs)

proper_multiple : (P : Term → Type 0) (up : Bool) (t : Term) (c : Fraction) (xs : List (Term × Fraction)) → P t → AreProper P xs → IfOk (with_multiple false up t c xs) (AreProper P)
proper_multiple P up t c xs p h =
    both_say (Each P) (λ ys. Once ys × HasNoZero ys) (with_multiple false up t c xs) (each_with_multiple P false up t c xs p h.0)
    (both_say Once HasNoZero (with_multiple false up t c xs) (once_with_multiple false up t c xs h.1.0) (no_zero_with_multiple up t c xs h.1.1))

proper_multiples : (P : Term → Type 0) (up : Bool) (xs ys : List (Term × Fraction)) → Each P ys → AreProper P xs → IfOk (with_multiples up xs ys) (AreProper P)
proper_multiples P up xs [] p h = h
proper_multiples P up xs (y ∷ ys) p h =
    then_says (AreProper P) (AreProper P) (with_multiple false up y.0 y.1 xs) _ (proper_multiple P up y.0 y.1 xs p.0 h) (λ zs e. proper_multiples P up zs ys p.1 e)

-- a linear sum with such terms
abbrev pub IsProper : (Term → Type 0) → Linear → Type 0
IsProper P l = AreProper P l.terms

proper_sum : (P : Term → Type 0) (up : Bool) (l r : Linear) → IsProper P l → IsProper P r → IfOk (linear_sum up l r) (IsProper P)
unfolding linear_sum
proper_sum P up l r p q =
    then_says (AreProper P) (IsProper P) (with_multiples up l.terms r.terms) _ (proper_multiples P up l.terms r.terms q.0 p)
    (λ ts h. then_says (λ c. Unit {0}) (IsProper P) (checked_sum up l.constant r.constant) _ (says_nothing (checked_sum up l.constant r.constant)) (λ c u. h))

-- whatever each term of a list is, it is of each term times a number
each_times : (P : Term → Type 0) (over : Bool) (by : Fraction) (xs : List (Term × Fraction)) → Each P xs → IfOk (terms_times over by xs) (Each P)
each_times P over by [] h = tt
each_times P over by (x ∷ xs) h =
    then_says (λ c. Unit {0}) (Each P) (checked_product over x.1 by) _ (says_nothing (checked_product over x.1 by))
    (λ c u. then_says (Each P) (Each P) (terms_times over by xs) _ (each_times P over by xs h.1) (λ ys e. each_with_term P false x.0 c ys h.0 e))

rest_times : (over : Bool) (by : Fraction) (xs : List (Term × Fraction)) → Once xs → IfOk (terms_times over by xs) (λ ys. Once ys × HasNoZero ys)
rest_times over by [] h = (tt, tt)
rest_times over by (x ∷ xs) h =
    then_says (λ c. Unit {0}) (λ ys. Once ys × HasNoZero ys) (checked_product over x.1 by) _ (says_nothing (checked_product over x.1 by))
    (λ c u. then_says (λ ys. Each (λ t. x.0 ≢ t) ys × (Once ys × HasNoZero ys)) (λ ys. Once ys × HasNoZero ys) (terms_times over by xs) _
    (both_say (Each (λ t. x.0 ≢ t)) (λ ys. Once ys × HasNoZero ys) (terms_times over by xs) (each_times (λ t. x.0 ≢ t) over by xs h.0) (rest_times over by xs h.1))
    (λ ys e. (once_with_term false x.0 c ys e.0 e.1.0, no_zero_with_term x.0 c ys e.1.1)))

proper_times : (P : Term → Type 0) (over : Bool) (by : Fraction) (l : Linear) → IsProper P l → IfOk (linear_times over by l) (IsProper P)
unfolding linear_times
proper_times P over by l p =
    then_says (AreProper P) (IsProper P) (terms_times over by l.terms) _
    (both_say (Each P) (λ ys. Once ys × HasNoZero ys) (terms_times over by l.terms) (each_times P over by l.terms p.0) (rest_times over by l.terms p.1.0))
    (λ ts h. then_says (λ c. Unit {0}) (IsProper P) (checked_product over l.constant by) _ (says_nothing (checked_product over l.constant by)) (λ c u. h))

proper_product : (P : Term → Type 0) (l r : Linear) → IsProper P l → IsProper P r → IfOk (linear_product l r) (IsProper P)
unfolding linear_product
proper_product P l r p q = by_left (is_constant l)
  where
    by_right : (b : Bool) → IfOk (if b then linear_times false r.constant l else Err NotLinear) (IsProper P)
    by_right true = proper_times P false r.constant l p
    by_right false = tt

    by_left : (b : Bool) → IfOk (if b then linear_times false l.constant r else if is_constant r then linear_times false r.constant l else Err NotLinear) (IsProper P)
    by_left true = proper_times P false l.constant r q
    by_left false = by_right (is_constant r)

proper_quotient : (P : Term → Type 0) (l r : Linear) → IsProper P l → IfOk (linear_quotient l r) (IsProper P)
unfolding linear_quotient
proper_quotient P l r p = by_right (is_constant r)
  where
    by_zero : (b : Bool) → IfOk (if b then Err Missing else linear_times true r.constant l) (IsProper P)
    by_zero true = tt
    by_zero false = proper_times P true r.constant l p

    by_right : (b : Bool) → IfOk (if b then (if is_zero r.constant then Err Missing else linear_times true r.constant l) else Err NotLinear) (IsProper P)
    by_right true = by_zero (is_zero r.constant)
    by_right false = tt

proper_part : (P : Term → Type 0) (adds : Bool) (l r : Linear) → IsProper P l → IsProper P r → IfOk (with_part adds l r) (IsProper P)
proper_part P true l r p q = proper_sum P true l r p q
proper_part P false l r p q = proper_product P l r p q

-- a constant has no terms
no_terms : (P : Term → Type 0) → AreProper P []
no_terms P = (tt, (tt, tt))

proper_begin : (P : Term → Type 0) (adds : Bool) → IsProper P (begin adds)
proper_begin P true = no_terms P
proper_begin P false = no_terms P

-- ---- expressions

-- a term has a start value
abbrev pub HasStart : List (Term × Fraction) → Term → Type 0
HasStart values t = IsTrue (is_some (value_among values t))

proper_term : (values : List (Term × Fraction)) (fixed : Bool) (t : Term) (start : Option Fraction) → value_among values t ≡ start → IfOk (linear_of_term fixed t start) (IsProper (HasStart values))
unfolding whole
proper_term values fixed t None e = tt
proper_term values true t (Some v) e = no_terms (HasStart values)
proper_term values false t (Some v) e = ((ap is_some e, tt), ((tt, tt), (refl, tt)))

proper_parts : (P : Term → Type 0) (adds : Bool) (l : Linear) (xs : List (Result Linear Finding)) (ys : List (Unit {0})) → IsProper P l → Pairwise (λ r u. IfOk r (IsProper P)) xs ys → IfOk (parts_from adds l xs) (IsProper P)
proper_parts P adds l [] ys p h = p
proper_parts P adds l (x ∷ xs) [] p h = absurd h
proper_parts P adds l (x ∷ xs) (y ∷ ys) p h =
    then_says (IsProper P) (IsProper P) x _ h.0
    (λ r q. then_says (IsProper P) (IsProper P) (with_part adds l r) _ (proper_part P adds l r p q) (λ t e. proper_parts P adds t xs ys e h.1))

-- each level of an expression, beside a fold that says nothing
keeps_proper : (functions : List Signature) (values : List (Term × Fraction)) (objects : List ℕ)
    → Keeps (Result Linear Finding) (Unit {0}) (λ r u. IfOk r (IsProper (HasStart values))) (linear_from functions values objects) (λ x. tt)
keeps_proper functions values objects = record {
  number = λ x. no_terms (HasStart values);
  value = λ function refs. proper_term values (is_fixed functions function) (term_of objects function refs) (value_among values (term_of objects function refs)) refl;
  minus = λ a b p. then_says (IsProper (HasStart values)) (IsProper (HasStart values)) a _ p (λ l q. proper_sum (HasStart values) false (constant zero) l (no_terms (HasStart values)) q);
  sub = λ a b c d p q. then_says (IsProper (HasStart values)) (IsProper (HasStart values)) a _ p
      (λ l h. then_says (IsProper (HasStart values)) (IsProper (HasStart values)) c _ q (λ r k. proper_sum (HasStart values) false l r h k));
  div = λ a b c d p q. then_says (IsProper (HasStart values)) (IsProper (HasStart values)) a _ p
      (λ l h. then_says (IsProper (HasStart values)) (IsProper (HasStart values)) c _ q (λ r k. proper_quotient (HasStart values) l r h));
  add = λ xs ys p. proper_parts (HasStart values) true (begin true) xs ys (proper_begin (HasStart values) true) p;
  mul = λ xs ys p. proper_parts (HasStart values) false (begin false) xs ys (proper_begin (HasStart values) false) p;
}

-- the linear sum of an expression is proper
pub linear_is_proper : (functions : List Signature) (values : List (Term × Fraction)) (objects : List ℕ) (s : Sum) → IfOk (linear_of functions values objects s) (IsProper (HasStart values))
linear_is_proper functions values objects s =
    related (Result Linear Finding) (Unit {0}) (λ r u. IfOk r (IsProper (HasStart values))) (linear_from functions values objects) (λ x. tt) (keeps_proper functions values objects) s

-- so is the difference of two, and what is proper is so by std's words
pub difference_is_proper : (functions : List Signature) (values : List (Term × Fraction)) (objects : List ℕ) (x y : Sum)
    → IfOk (and_then (linear_of functions values objects x) (λ l. and_then (linear_of functions values objects y) (λ r. linear_sum false l r))) (IsProper (HasStart values))
difference_is_proper functions values objects x y =
    then_says (IsProper (HasStart values)) (IsProper (HasStart values)) (linear_of functions values objects x) _ (linear_is_proper functions values objects x)
    (λ l h. then_says (IsProper (HasStart values)) (IsProper (HasStart values)) (linear_of functions values objects y) _ (linear_is_proper functions values objects y) (λ r k. proper_sum (HasStart values) false l r h k))

-- ---- the same by std's words

pub all_of_each : (P : Term → Type 0) (xs : List (Term × Fraction)) → Each P xs → All (λ x. P x.0) xs
all_of_each P [] h = All-nil (λ x. P x.0)
all_of_each P (x ∷ xs) h = All-cons (λ y. P y.0) x xs h.0 (all_of_each P xs h.1)

others : (t : Term) (xs : List (Term × Fraction)) → Each (λ u. t ≢ u) xs → All (λ u. t ≢ u) (map (λ x. x.0) xs)
others t [] h = All-nil (λ u. t ≢ u)
others t (x ∷ xs) h = All-cons (λ u. t ≢ u) x.0 (map (λ y. y.0) xs) h.0 (others t xs h.1)

pub distinct_of_once : (xs : List (Term × Fraction)) → Once xs → AreDistinct (map (λ x. x.0) xs)
distinct_of_once [] h = distinct_none
distinct_of_once (x ∷ xs) h = distinct_cons x.0 (map (λ y. y.0) xs) (others x.0 xs h.0) (distinct_of_once xs h.1)

not_zero : (c : Fraction) → is_zero c ≡ false → c ≢ whole (pos 0)
unfolding whole
not_zero c e is = both_ways (is_zero c) e (ap is_zero is)

pub coefficients_of : (xs : List (Term × Fraction)) → HasNoZero xs → All (λ x. x.1 ≢ whole (pos 0)) xs
coefficients_of [] h = All-nil (λ x. x.1 ≢ whole (pos 0))
coefficients_of (x ∷ xs) h = All-cons (λ y. y.1 ≢ whole (pos 0)) x xs (not_zero x.1 h.0) (coefficients_of xs h.1)
