-- Look-ups of bound steps by their steps, and of numbers by terms.
use Rattle.std.proofs.Common.{◌≡◌, ◌≢◌, ℕ, zero, suc, Bool, true, false, refl, sym, ◌∙◌, ap, arith, List, [], ◌∷◌, ◌++◌, map, Some}
use Rattle.std.specs.Prelude.{slice_get, cond, if◌then◌else◌, option_map}
use Rattle.std.specs.Option.{option_or, option_map_or}
use Rattle.std.proofs.Math.Path.{ap₂}
use Rattle.std.proofs.lemmas.Option.{none-some, same_Some, slice_get-map, slice_get_within, get_or_from_slice_get}
use Rattle.np_frac.specs.Fractions.{Fraction}
use Rattle.np_model.specs.declared.task.Term.{Term}
use Rattle.np_model.specs.declared.task.Step.{Step}
use Rattle.np_model.specs.Ground.{same_term, same_step, same_term-Decides, same_step-Decides}
use Rattle.np_model.specs.States.{value_among}
use Rattle.np_model.specs.Tasks.{AreDistinct}
use Rattle.np_model.proofs.Lists.{value_append}
use Rattle.np_linear.specs.Linears as lin
use Rattle.np_bind.specs.declared.bound.BoundStep.{BoundStep}
use Rattle.np_bind.specs.Grounding.{number_on}
use Rattle.np_bind.specs.BoundPlans.{step_among}

is_no : (b : Bool) → (b ≡ true → ⊥) → b ≡ false
is_no true f = absurd (f refl)
is_no false f = refl

-- distinct items after the first one differ from it
apart : {A B : Type 0} (f : A → B) (x : A) (xs : List A) (n : ℕ) (y : A) → AreDistinct (map f (x ∷ xs)) → slice_get xs n ≡ Some y → f y ≢ f x
apart f x xs n y distinct at same =
    distinct 0 (suc n) (f x) (omega arith) (slice_get_within (map f (x ∷ xs)) (suc n) (f y) there) (sym same ∙ sym (get_or_from_slice_get (map f xs) n (f y) (f x) there))
  where
    there : slice_get (map f xs) n ≡ Some (f y)
    there = slice_get-map f xs n ∙ ap (option_map f) at

-- and are distinct
rest_distinct : {B : Type 0} (x : B) (xs : List B) → AreDistinct (x ∷ xs) → AreDistinct xs
rest_distinct x xs distinct i j d less within = distinct (suc i) (suc j) d (omega arith) (omega arith)

-- ---- bound steps

-- of two lists one after another, the first one that has the step decides
pub step_append : (xs ys : List BoundStep) (step : Step) → step_among (xs ++ ys) step ≡ option_or (step_among xs step) (step_among ys step)
step_append [] ys step = refl
step_append (x ∷ xs) ys step = by (same_step step x.step) (step_append xs ys step)
  where
    by : (b : Bool) → step_among (xs ++ ys) step ≡ option_or (step_among xs step) (step_among ys step)
        → cond b (Some x) (step_among (xs ++ ys) step) ≡ option_or (cond b (Some x) (step_among xs step)) (step_among ys step)
    by true e = refl
    by false e = e

-- a bound step that is found is one of the list, and is that of the step
pub record IsFound (bs : List BoundStep) (step : Step) (b : BoundStep) : Type 0 where
  pub place : ℕ
  pub at : slice_get bs place ≡ Some b
  pub names : step ≡ b.step

pub step_found : (bs : List BoundStep) (step : Step) (b : BoundStep) → step_among bs step ≡ Some b → IsFound bs step b
step_found [] step b e = absurd (none-some b e)
step_found (x ∷ xs) step b e = by (same_step step x.step) refl (step_found xs step b) e
  where
    by : (c : Bool) → same_step step x.step ≡ c → (step_among xs step ≡ Some b → IsFound xs step b) → cond c (Some x) (step_among xs step) ≡ Some b → IsFound (x ∷ xs) step b
    by true same later e = record { place = zero; at = e; names = (same_step-Decides step x.step).0 same ∙ ap (λ (y : BoundStep). y.step) (same_Some x b e) }
    by false other later e = let h : IsFound xs step b = later e in record { place = suc h.place; at = h.at; names = h.names }

-- where no two are of one step, each is found
pub step_of : (bs : List BoundStep) → AreDistinct (map (λ b. b.step) bs) → (n : ℕ) (b : BoundStep) → slice_get bs n ≡ Some b → step_among bs b.step ≡ Some b
step_of [] distinct n b at = absurd (none-some b at)
step_of (x ∷ xs) distinct zero b at =
    ap (λ c. cond c (Some x) (step_among xs b.step)) ((same_step-Decides b.step x.step).1 (ap (λ (y : BoundStep). y.step) (sym (same_Some x b at)))) ∙ at
step_of (x ∷ xs) distinct (suc n) b at =
    ap (λ c. cond c (Some x) (step_among xs b.step)) (is_no (same_step b.step x.step) (λ same. apart (λ (y : BoundStep). y.step) x xs n b distinct at ((same_step-Decides b.step x.step).0 same)))
    ∙ step_of xs (rest_distinct x.step (map (λ y. y.step) xs) distinct) n b at

-- ---- numbers on terms

-- of two lists one after another, the first one that has the term decides
pub number_append : (xs ys : List (Term × Fraction)) (t : Term) → number_on (xs ++ ys) t ≡ option_map_or (λ c. c) (option_or (value_among xs t) (value_among ys t)) lin.zero
number_append xs ys t = ap (λ o. option_map_or (λ c. c) o lin.zero) (value_append xs ys t)

-- a number that is found is in the list
pub record IsListed (xs : List (Term × Fraction)) (t : Term) (c : Fraction) : Type 0 where
  pub place : ℕ
  pub at : slice_get xs place ≡ Some (t, c)

pub value_listed : (xs : List (Term × Fraction)) (t : Term) (c : Fraction) → value_among xs t ≡ Some c → IsListed xs t c
value_listed [] t c e = absurd (none-some c e)
value_listed (x ∷ xs) t c e = by (same_term t x.0) refl (value_listed xs t c) e
  where
    by : (b : Bool) → same_term t x.0 ≡ b → (value_among xs t ≡ Some c → IsListed xs t c) → (if b then Some x.1 else value_among xs t) ≡ Some c → IsListed (x ∷ xs) t c
    by true same later e = record { place = zero; at = ap₂ (λ u v. Some (u, v)) (sym ((same_term-Decides t x.0).0 same)) (same_Some x.1 c e) }
    by false other later e = let h : IsListed xs t c = later e in record { place = suc h.place; at = h.at }

-- where no term comes twice, each is found
pub value_of_listed : (xs : List (Term × Fraction)) → AreDistinct (map (λ x. x.0) xs) → (n : ℕ) (t : Term) (c : Fraction) → slice_get xs n ≡ Some (t, c) → value_among xs t ≡ Some c
value_of_listed [] distinct n t c at = absurd (none-some _ at)
value_of_listed (x ∷ xs) distinct zero t c at =
    ap (λ b. if b then Some x.1 else value_among xs t) ((same_term-Decides t x.0).1 (ap (λ (y : Term × Fraction). y.0) (sym (same_Some x (t, c) at))))
    ∙ ap (λ (y : Term × Fraction). Some y.1) (same_Some x (t, c) at)
value_of_listed (x ∷ xs) distinct (suc n) t c at =
    ap (λ b. if b then Some x.1 else value_among xs t) (is_no (same_term t x.0) (λ same. apart (λ (y : Term × Fraction). y.0) x xs n (t, c) distinct at ((same_term-Decides t x.0).0 same)))
    ∙ value_of_listed xs (rest_distinct x.0 (map (λ y. y.0) xs) distinct) n t c at

-- and its number is the listed one
pub number_of_listed : (xs : List (Term × Fraction)) → AreDistinct (map (λ x. x.0) xs) → (n : ℕ) (t : Term) (c : Fraction) → slice_get xs n ≡ Some (t, c) → number_on xs t ≡ c
number_of_listed xs distinct n t c at = ap (λ o. option_map_or (λ z. z) o lin.zero) (value_of_listed xs distinct n t c at)
