-- What an answer comes from that a chain of answers gives.
use Rattle.std.proofs.Common.{◌≡◌, refl, Ok, Err, Result}
use Rattle.np_linear.specs.Answers.{and_then}

-- an answer that comes after another came from one
pub goes_on : {A B C P : Type 0} (r : Result A C) (f : A → Result B C) (y : B) → and_then r f ≡ Ok y → ((x : A) → r ≡ Ok x → f x ≡ Ok y → P) → P
goes_on (Ok x) f y e k = k x refl e
goes_on {A} {B} {C} {P} (Err n) f y e k = absurd (not_both n y e)
  where
    not_both : (n : C) (y : B) → Err n ≡ Ok y → ⊥
    not_both n y e = cc

pub same_Ok : {A C : Type 0} (x y : A) → ◌≡◌ {A = Result A C} (Ok x) (Ok y) → x ≡ y
same_Ok x y e = cc

-- a cause is no answer
pub cause_answers : {A C P : Type 0} (n : C) (x : A) → ◌≡◌ {A = Result A C} (Err n) (Ok x) → P
cause_answers n x e = cc
