-- An expression read as a linear sum has the value of that sum in every state that keeps the static values of the start.
use Rattle.std.proofs.Common.{◌≡◌, ℕ, pos, Bool, true, false, refl, sym, ◌∙◌, ap, subst, arith, List, [], ◌∷◌, Some, None, Ok, Err, Option, Result, true≢false}
use Rattle.std.specs.Prelude.{if◌then◌else◌, fold, option_map}
use Rattle.np_frac.specs.Fractions.{Fraction, whole, plus, minus, times}
use Rattle.np_frac.specs.Checked.{plus_fits, minus_fits, times_fits, reciprocal, is_zero}
use Rattle.np_frac.specs.Field.{field, frac, int, sum, product, plus_left_zero, times_comm}
use Rattle.np_model.specs.declared.task.Term.{Term}
use Rattle.np_model.specs.declared.task.Signature.{Signature}
use Rattle.np_model.specs.declared.task.Sum.{Sum}
use Rattle.np_model.specs.Ground.{term_of}
use Rattle.np_model.specs.States.{State, value_among}
use Rattle.np_model.specs.Values.{of_both, negated, quotient_of, value_from, value_of}
use Rattle.np_model.specs.Tasks.{is_fixed}
use Rattle.np_model.proofs.Folds.{Pairwise, Keeps, related}
use Rattle.np_linear.specs.declared.linear.Linear.{Linear}
use Rattle.np_linear.specs.declared.finding.Finding.{Finding}
use Rattle.np_linear.specs.declared.finding.Finding.TheVariants.{Fails, Missing, NotLinear, Wide}
use Rattle.np_linear.specs.Answers.{and_then}
use Rattle.np_linear.specs.Linears.{fitting, plus_or_minus, checked_sum, checked_product, zero, with_multiple, with_multiples, terms_value, linear_value, linear_sum, terms_times, linear_times, constant, has_no_terms, is_constant, linear_product, linear_quotient, linear_of_term, parts_from, begin, with_part, linear_from, linear_of, value_in}
use Rattle.np_linear.proofs.LinearValues.{sum_value, linear_times_value, factor}

-- a state keeps which terms have values, and the values of static ones
pub record KeepsValues (functions : List Signature) (values : List (Term × Fraction)) (s : State) : Type 0 where
  pub missing : (t : Term) → value_among values t ≡ None → s.value t ≡ None
  pub there : (t : Term) (x : Fraction) → value_among values t ≡ Some x → s.value t ≡ Some (value_in s t)
  pub static : (t : Term) (x : Fraction) → is_fixed functions t.function ≡ true → value_among values t ≡ Some x → s.value t ≡ Some x

-- what a finding says of a value
abbrev pub IfMissing : Finding → Option Fraction → Type 0
IfMissing Missing o = o ≡ None
IfMissing Fails o = o ≡ None
IfMissing NotLinear o = Unit {0}
IfMissing Wide o = Unit {0}

-- what an answer says of a value
abbrev pub Means : (Term → Fraction) → Option Fraction → Result Linear Finding → Type 0
Means v o (Ok l) = o ≡ Some (linear_value v l)
Means v o (Err e) = IfMissing e o

-- a finding that doesn't say that a value is missing, and an answer that has no other
abbrev pub IsPresent : Finding → Type 0
IsPresent Missing = ⊥
IsPresent Fails = ⊥
IsPresent NotLinear = Unit {0}
IsPresent Wide = Unit {0}

abbrev pub Present : {A : Type 0} → Result A Finding → Type 0
Present (Ok x) = Unit {0}
Present (Err e) = IsPresent e

pub present_then : {A B : Type 0} (r : Result A Finding) (f : A → Result B Finding) → Present r → ((x : A) → Present (f x)) → Present (and_then r f)
present_then (Ok x) f p q = q x
present_then (Err e) f p q = p

present_fitting : (b : Bool) (x : Fraction) → Present (fitting b x)
present_fitting true x = tt
present_fitting false x = tt

pub present_sum : (up : Bool) (x y : Fraction) → Present (checked_sum up x y)
present_sum true x y = present_fitting (plus_fits x y) (plus x y)
present_sum false x y = present_fitting (minus_fits x y) (minus x y)

pub present_product : (over : Bool) (x y : Fraction) → Present (checked_product over x y)
present_product false x y = present_fitting (times_fits x y) (times x y)
present_product true x y = present_fitting (times_fits x (reciprocal y)) (times x (reciprocal y))

present_if : {A : Type 0} (b : Bool) (x y : Result A Finding) → Present x → Present y → Present (if b then x else y)
present_if true x y p q = p
present_if false x y p q = q

pub present_multiple : (zeros up : Bool) (t : Term) (c : Fraction) (xs : List (Term × Fraction)) → Present (with_multiple zeros up t c xs)
present_multiple zeros up t c [] = present_then (checked_sum up zero c) _ (present_sum up zero c) (λ s. tt)
present_multiple zeros up t c (x ∷ xs) =
    present_if _ _ _
    (present_then (checked_sum up x.1 c) _ (present_sum up x.1 c) (λ s. tt))
    (present_then (with_multiple zeros up t c xs) _ (present_multiple zeros up t c xs) (λ s. tt))

present_multiples : (up : Bool) (xs ys : List (Term × Fraction)) → Present (with_multiples up xs ys)
present_multiples up xs [] = tt
present_multiples up xs (y ∷ ys) = present_then (with_multiple false up y.0 y.1 xs) _ (present_multiple false up y.0 y.1 xs) (λ zs. present_multiples up zs ys)

present_linear_sum : (up : Bool) (l r : Linear) → Present (linear_sum up l r)
unfolding linear_sum
present_linear_sum up l r =
    present_then (with_multiples up l.terms r.terms) _ (present_multiples up l.terms r.terms)
    (λ ts. present_then (checked_sum up l.constant r.constant) _ (present_sum up l.constant r.constant) (λ c. tt))

present_terms_times : (over : Bool) (by : Fraction) (xs : List (Term × Fraction)) → Present (terms_times over by xs)
present_terms_times over by [] = tt
present_terms_times over by (x ∷ xs) =
    present_then (checked_product over x.1 by) _ (present_product over x.1 by)
    (λ c. present_then (terms_times over by xs) _ (present_terms_times over by xs) (λ ys. tt))

present_linear_times : (over : Bool) (by : Fraction) (l : Linear) → Present (linear_times over by l)
unfolding linear_times
present_linear_times over by l =
    present_then (terms_times over by l.terms) _ (present_terms_times over by l.terms)
    (λ ts. present_then (checked_product over l.constant by) _ (present_product over l.constant by) (λ c. tt))

-- an answer that gives the exact value means it
means_of : (v : Term → Fraction) (x : Fraction) (r : Result Linear Finding) → Present r → ((m : Linear) → r ≡ Ok m → linear_value v m ≡ x) → Means v (Some x) r
means_of v x (Ok m) p k = ap Some (sym (k m refl))
means_of v x (Err Missing) p k = absurd p
means_of v x (Err Fails) p k = absurd p
means_of v x (Err NotLinear) p k = tt
means_of v x (Err Wide) p k = tt

-- the operations
pub sum_means : (v : Term → Fraction) (up : Bool) (l r : Linear) → Means v (Some (plus_or_minus up (linear_value v l) (linear_value v r))) (linear_sum up l r)
sum_means v up l r = means_of v _ (linear_sum up l r) (present_linear_sum up l r) (λ m e. sum_value v up l r m e)

-- a constant has its own value
pub constant_value : (v : Term → Fraction) (l : Linear) → is_constant l ≡ true → linear_value v l ≡ l.constant
constant_value v l e = no_terms l.terms e
  where
    no_terms : (ts : List (Term × Fraction)) → has_no_terms ts ≡ true → plus (terms_value v ts) l.constant ≡ l.constant
    no_terms [] e = plus_left_zero l.constant
    no_terms (t ∷ ts) e = absurd (true≢false (sym e))

times_means : (v : Term → Fraction) (over : Bool) (by : Fraction) (l : Linear) → Means v (Some (times (linear_value v l) (factor over by))) (linear_times over by l)
times_means v over by l = means_of v _ (linear_times over by l) (present_linear_times over by l) (λ m e. linear_times_value v over by l m e)

product_means : (v : Term → Fraction) (l r : Linear) → Means v (Some (times (linear_value v l) (linear_value v r))) (linear_product l r)
unfolding linear_product
product_means v l r = by_left (is_constant l) refl
  where
    by_right : (b : Bool) → is_constant r ≡ b → Means v (Some (times (linear_value v l) (linear_value v r))) (if b then linear_times false r.constant l else Err NotLinear)
    by_right true e = rw (constant_value v r e) (times_means v false r.constant l)
    by_right false e = tt

    by_left : (b : Bool) → is_constant l ≡ b → Means v (Some (times (linear_value v l) (linear_value v r))) (if b then linear_times false l.constant r else if is_constant r then linear_times false r.constant l else Err NotLinear)
    by_left true e = rw (times_comm (linear_value v l) (linear_value v r), constant_value v l e) (times_means v false l.constant r)
    by_left false e = by_right (is_constant r) refl

quotient_means : (v : Term → Fraction) (l r : Linear) → Means v (quotient_of (Some (linear_value v l)) (Some (linear_value v r))) (linear_quotient l r)
unfolding linear_quotient
quotient_means v l r = by_right (is_constant r) refl
  where
    by_zero : (b : Bool) → Means v (if b then None else Some (times (linear_value v l) (reciprocal r.constant))) (if b then Err Missing else linear_times true r.constant l)
    by_zero true = refl
    by_zero false = times_means v true r.constant l

    by_right : (b : Bool) → is_constant r ≡ b → Means v (quotient_of (Some (linear_value v l)) (Some (linear_value v r))) (if b then (if is_zero r.constant then Err Missing else linear_times true r.constant l) else Err NotLinear)
    by_right true e = rw (constant_value v r e) (by_zero (is_zero r.constant))
    by_right false e = tt

-- a finding stays one, whatever is made of the value
missing_stays : (e : Finding) (o : Option Fraction) (f : Option Fraction → Option Fraction) → f None ≡ None → IfMissing e o → IfMissing e (f o)
missing_stays Missing o f n h = ap f h ∙ n
missing_stays Fails o f n h = ap f h ∙ n
missing_stays NotLinear o f n h = tt
missing_stays Wide o f n h = tt

pub then_means : (v : Term → Fraction) (a : Option Fraction) (b : Result Linear Finding) (f : Option Fraction → Option Fraction) (g : Linear → Result Linear Finding)
    → f None ≡ None → ((l : Linear) → Means v (f (Some (linear_value v l))) (g l)) → Means v a b → Means v (f a) (and_then b g)
then_means v a (Ok l) f g n k h = rw h (k l)
then_means v a (Err e) f g n k h = missing_stays e a f n h

-- parts taken in from the left
none_folds : (f : Fraction → Fraction → Fraction) (xs : List (Option Fraction)) → fold (of_both f) None xs ≡ None
none_folds f [] = refl
none_folds f (x ∷ xs) = none_folds f xs

-- a sum, or a product
abbrev operation : Bool → Fraction → Fraction → Fraction
operation true x y = plus x y
operation false x y = times x y

part_means : (v : Term → Fraction) (adds : Bool) (l r : Linear) → Means v (Some (operation adds (linear_value v l) (linear_value v r))) (with_part adds l r)
part_means v true l r = sum_means v true l r
part_means v false l r = product_means v l r

parts_mean : (v : Term → Fraction) (adds : Bool) (l : Linear) (xs : List (Option Fraction)) (ys : List (Result Linear Finding)) → Pairwise (Means v) xs ys
    → Means v (fold (of_both (operation adds)) (Some (linear_value v l)) xs) (parts_from adds l ys)
parts_mean v adds l [] [] p = refl
parts_mean v adds l [] (y ∷ ys) p = absurd p
parts_mean v adds l (x ∷ xs) [] p = absurd p
parts_mean v adds l (x ∷ xs) (y ∷ ys) p =
    then_means v x y (λ o. fold (of_both (operation adds)) (of_both (operation adds) (Some (linear_value v l)) o) xs) (λ r. and_then (with_part adds l r) (λ t. parts_from adds t ys))
    (none_folds (operation adds) xs)
    (λ r. then_means v (Some (operation adds (linear_value v l) (linear_value v r))) (with_part adds l r) (λ o. fold (of_both (operation adds)) o xs) (λ t. parts_from adds t ys)
    (none_folds (operation adds) xs) (λ t. parts_mean v adds t xs ys p.1) (part_means v adds l r))
    p.0

-- a term
term_means : (v : Term → Fraction) (fixed : Bool) (t : Term) (start o : Option Fraction)
    → (start ≡ None → o ≡ None)
    → ((x : Fraction) → start ≡ Some x → o ≡ Some (v t))
    → ((x : Fraction) → fixed ≡ true → start ≡ Some x → o ≡ Some x)
    → Means v o (linear_of_term fixed t start)
term_means v fixed t None o m h s = m refl
term_means v true t (Some x) o m h s = s x refl refl ∙ ap Some (sym (plus_left_zero x))
term_means v false t (Some x) o m h s =
    h x refl ∙ ap Some (field (frac (v t)) (sum (sum (product (int (pos 1)) (frac (v t))) (int (pos 0))) (int (pos 0))) (omega arith))

-- each level of an expression
keeps_means : (functions : List Signature) (values : List (Term × Fraction)) (objects : List ℕ) (s : State) → KeepsValues functions values s
    → Keeps (Option Fraction) (Result Linear Finding) (Means (value_in s)) (value_from objects s) (linear_from functions values objects)
keeps_means functions values objects s h = record {
  number = λ x. ap Some (sym (plus_left_zero x));
  value = λ function refs. term_means (value_in s) (is_fixed functions function) (term_of objects function refs) (value_among values (term_of objects function refs)) (s.value (term_of objects function refs))
      (h.missing (term_of objects function refs))
      (h.there (term_of objects function refs))
      (h.static (term_of objects function refs));
  minus = λ a b p. then_means (value_in s) a b (option_map negated) (λ l. linear_sum false (constant zero) l) refl
      (λ l. subst (λ (z : Fraction). Means (value_in s) (Some (minus z (linear_value (value_in s) l))) (linear_sum false (constant zero) l)) (constant_value (value_in s) (constant zero) refl) (sum_means (value_in s) false (constant zero) l)) p;
  sub = λ a b c d p q. then_means (value_in s) a b (λ o. of_both minus o c) (λ l. and_then d (λ r. linear_sum false l r)) refl
      (λ l. then_means (value_in s) c d (λ o. of_both minus (Some (linear_value (value_in s) l)) o) (λ r. linear_sum false l r) refl
      (λ r. sum_means (value_in s) false l r) q) p;
  div = λ a b c d p q. then_means (value_in s) a b (λ o. quotient_of o c) (λ l. and_then d (λ r. linear_quotient l r)) refl
      (λ l. then_means (value_in s) c d (λ o. quotient_of (Some (linear_value (value_in s) l)) o) (λ r. linear_quotient l r) refl
      (λ r. quotient_means (value_in s) l r) q) p;
  add = λ xs ys p. subst (λ (z : Fraction). Means (value_in s) (fold (of_both plus) (Some z) xs) (parts_from true (begin true) ys)) (constant_value (value_in s) (constant zero) refl) (parts_mean (value_in s) true (begin true) xs ys p);
  mul = λ xs ys p. subst (λ (z : Fraction). Means (value_in s) (fold (of_both times) (Some z) xs) (parts_from false (begin false) ys)) (constant_value (value_in s) (constant (whole (pos 1))) refl) (parts_mean (value_in s) false (begin false) xs ys p);
}

-- an expression's value is that of its linear sum; where it is found missing, there is none
pub linear_means : (functions : List Signature) (values : List (Term × Fraction)) (objects : List ℕ) (s : State) → KeepsValues functions values s
    → (e : Sum) → Means (value_in s) (value_of objects s e) (linear_of functions values objects e)
linear_means functions values objects s h =
    related (Option Fraction) (Result Linear Finding) (Means (value_in s)) (value_from objects s) (linear_from functions values objects) (keeps_means functions values objects s h)
