-- What is computed of expressions and conditions is what they are, where no operation on fractions is refused.
use Rattle.std.proofs.Common.{◌≡◌, ℕ, Bool, true, false, refl, sym, List, [], ◌∷◌, Option, Some, None, Ok, Err, Result}
use Rattle.std.specs.Prelude.{◌&&◌, fold, option_map, if◌then◌else◌}
use Rattle.std.proofs.lemmas.Option.{none-some}
use Rattle.np_frac.specs.Fractions.{Fraction, plus, minus, times}
use Rattle.np_frac.specs.Checked.{plus_fits, minus_fits, times_fits, reciprocal, is_zero}
use Rattle.np_model.specs.declared.task.Op.{Op}
use Rattle.np_model.specs.declared.task.Sum.{Sum}
use Rattle.np_model.specs.declared.task.Cond.{Cond}
use Rattle.np_model.specs.declared.task.Cond.TheVariants as cond
use Rattle.np_model.specs.Ground.{term_of}
use Rattle.np_model.specs.States.{State}
use Rattle.np_model.specs.Values.{of_both, negated, quotient_of, value_from, value_of}
use Rattle.np_model.specs.Conditions.{compares, is_yes, holds, all_hold}
use Rattle.np_model.proofs.Folds.{Pairwise, Keeps, related}
use Rattle.np_run.specs.declared.halt.Lack.{Lack}
use Rattle.np_run.specs.declared.halt.Lack.TheVariants.{Missing, Wide}
use Rattle.np_run.specs.Computing.{and_then, fitting, subtracted, divided, zero, one, found, taken_in, parts_from, computed_from, computed_value, compared, or_no, computed_holds, computed_all_hold}

-- what is computed says this of a value
abbrev pub Means : Option Fraction → Result Fraction Lack → Type 0
Means o (Ok v) = o ≡ Some v
Means o (Err Missing) = o ≡ None
Means o (Err Wide) = Unit {0}

pub fitting_means : (fits : Bool) (x : Fraction) → Means (Some x) (fitting fits x)
fitting_means true x = refl
fitting_means false x = tt

pub found_means : (o : Option Fraction) → Means o (found o)
found_means None = refl
found_means (Some x) = refl

-- ---- two values

pub both_mean : (f : Fraction → Fraction → Fraction) (g : Fraction → Fraction → Result Fraction Lack)
    → ((x y : Fraction) → Means (Some (f x y)) (g x y)) → (a b : Option Fraction) (p q : Result Fraction Lack) → Means a p → Means b q
    → Means (of_both f a b) (and_then p (λ v. and_then q (λ w. g v w)))
both_mean f g h a b (Ok v) (Ok w) d e = rw (d, e) (h v w)
both_mean f g h a b (Ok v) (Err Missing) d e = rw (d, e) refl
both_mean f g h a b (Ok v) (Err Wide) d e = tt
both_mean f g h a b (Err Missing) q d e = rw d refl
both_mean f g h a b (Err Wide) q d e = tt

quotient_means : (x y : Fraction) → Means (quotient_of (Some x) (Some y)) (divided x y)
quotient_means x y = by (is_zero y)
  where
    by : (b : Bool) → Means (if b then None else Some (times x (reciprocal y))) (if b then Err Missing else fitting (times_fits x (reciprocal y)) (times x (reciprocal y)))
    by true = refl
    by false = fitting_means (times_fits x (reciprocal y)) (times x (reciprocal y))

quotients_mean : (a b : Option Fraction) (p q : Result Fraction Lack) → Means a p → Means b q → Means (quotient_of a b) (and_then p (λ v. and_then q (λ w. divided v w)))
quotients_mean a b (Ok v) (Ok w) d e = rw (d, e) (quotient_means v w)
quotients_mean a b (Ok v) (Err Missing) d e = rw (d, e) refl
quotients_mean a b (Ok v) (Err Wide) d e = tt
quotients_mean a b (Err Missing) q d e = rw d refl
quotients_mean a b (Err Wide) q d e = tt

negated_means : (a : Option Fraction) (p : Result Fraction Lack) → Means a p → Means (option_map negated a) (and_then p (λ v. subtracted zero v))
negated_means a (Ok v) d = rw d (fitting_means (minus_fits zero v) (minus zero v))
negated_means a (Err Missing) d = rw d refl
negated_means a (Err Wide) d = tt

-- ---- sums and products

-- the exact operation that takes a part in
abbrev pub operation : Bool → Fraction → Fraction → Fraction
operation true = plus
operation false = times

took_means : (adds : Bool) (x y : Fraction) → Means (Some (operation adds x y)) (taken_in adds x y)
took_means true x y = fitting_means (plus_fits x y) (plus x y)
took_means false x y = fitting_means (times_fits x y) (times x y)

-- nothing comes of a missing part
fold_missing : (f : Fraction → Fraction → Fraction) (xs : List (Option Fraction)) → fold (of_both f) None xs ≡ None
fold_missing f [] = refl
fold_missing f (x ∷ xs) = fold_missing f xs

parts_mean : (adds : Bool) (total : Fraction) (xs : List (Option Fraction)) (ys : List (Result Fraction Lack)) → Pairwise Means xs ys
    → Means (fold (of_both (operation adds)) (Some total) xs) (parts_from adds total ys)
parts_mean adds total [] [] h = refl
parts_mean adds total [] (y ∷ ys) h = absurd h
parts_mean adds total (x ∷ xs) [] h = absurd h
parts_mean adds total (x ∷ xs) (Ok v ∷ ys) h = rw h.0 (next (taken_in adds total v) (took_means adds total v) (λ t. parts_mean adds t xs ys h.1))
  where
    next : (r : Result Fraction Lack) → Means (Some (operation adds total v)) r → ((t : Fraction) → Means (fold (of_both (operation adds)) (Some t) xs) (parts_from adds t ys))
        → Means (fold (of_both (operation adds)) (Some (operation adds total v)) xs) (and_then r (λ t. parts_from adds t ys))
    next (Ok t) e later = rw e (later t)
    next (Err Missing) e later = absurd (none-some (operation adds total v) (sym e))
    next (Err Wide) e later = tt
parts_mean adds total (x ∷ xs) (Err Missing ∷ ys) h = rw h.0 (fold_missing (operation adds) xs)
parts_mean adds total (x ∷ xs) (Err Wide ∷ ys) h = tt

-- ---- expressions

values_keep : (objects : List ℕ) (s : State) → Keeps (Option Fraction) (Result Fraction Lack) Means (value_from objects s) (computed_from objects s)
values_keep objects s = record {
  number = λ x. refl;
  value = λ function refs. found_means (s.value (term_of objects function refs));
  minus = λ a b h. negated_means a b h;
  sub = λ a b c d h k. both_mean minus subtracted (λ x y. fitting_means (minus_fits x y) (minus x y)) a c b d h k;
  div = λ a b c d h k. quotients_mean a c b d h k;
  add = λ xs ys h. parts_mean true zero xs ys h;
  mul = λ xs ys h. parts_mean false one xs ys h;
}

pub value_means : (objects : List ℕ) (s : State) (x : Sum) → Means (value_of objects s x) (computed_value objects s x)
value_means objects s x = related (Option Fraction) (Result Fraction Lack) Means (value_from objects s) (computed_from objects s) (values_keep objects s) x

-- ---- conditions

-- what is computed says this of a condition
abbrev pub Tells : Bool → Result Bool Lack → Type 0
Tells b (Ok c) = b ≡ c
Tells b (Err Missing) = b ≡ false
Tells b (Err Wide) = Unit {0}

comparison_tells : (op : Op) (a b : Option Fraction) (p q : Result Fraction Lack) → Means a p → Means b q
    → Tells (is_yes (of_both (compares op) a b)) (or_no (compared op p q))
comparison_tells op a b (Ok v) (Ok w) d e = rw (d, e) refl
comparison_tells op a b (Ok v) (Err Missing) d e = rw (d, e) refl
comparison_tells op a b (Ok v) (Err Wide) d e = tt
comparison_tells op a b (Err Missing) q d e = rw d refl
comparison_tells op a b (Err Wide) q d e = tt

pub holds_tells : (objects : List ℕ) (s : State) (c : Cond) → Tells (holds objects s c) (computed_holds objects s c)
holds_tells objects s (cond.Atom positive predicate refs) = refl
holds_tells objects s (cond.Same positive a b) = refl
holds_tells objects s (cond.Compare op x y) =
    comparison_tells op (value_of objects s x) (value_of objects s y) (computed_value objects s x) (computed_value objects s y) (value_means objects s x) (value_means objects s y)

pub all_hold_tells : (objects : List ℕ) (s : State) (cs : List Cond) → Tells (all_hold objects s cs) (computed_all_hold objects s cs)
all_hold_tells objects s [] = refl
all_hold_tells objects s (c ∷ cs) = first (holds objects s c) (computed_holds objects s c) (holds_tells objects s c) (all_hold_tells objects s cs)
  where
    first : (b : Bool) (r : Result Bool Lack) → Tells b r → Tells (all_hold objects s cs) (computed_all_hold objects s cs)
        → Tells (b && all_hold objects s cs) (and_then r (λ yes. if yes then computed_all_hold objects s cs else Ok false))
    first b (Ok true) e others = rw e others
    first b (Ok false) e others = rw e refl
    first b (Err Missing) e others = rw e refl
    first b (Err Wide) e others = tt
