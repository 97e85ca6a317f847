-- The subgoals of conditions as the code reads them: each with its fault, and its number in its place.
use Rattle.std.proofs.Common.{◌≡◌, ℕ, ◌<◌, ◌≤◌, Bool, true, false, refl, sym, ◌∙◌, ap, subst, List, [], ◌∷◌, length, Some, None, Result, Ok, Err}
use Rattle.std.specs.Prelude.{◌&&◌, not, nat_lt, if◌then◌else◌, OnOk}
use Rattle.std.proofs.lemmas.List.{length-map}
use Rattle.std.proofs.lemmas.Bool.{lt-ltb, le-ltb}
use Rattle.np_model.specs.declared.task.Term.{Term}
use Rattle.np_model.specs.Values.{negated}
use Rattle.np_linear.specs.declared.linear.Linear.{Linear}
use Rattle.np_linear.specs.Answers.{and_then}
use Rattle.np_bind.specs.declared.bound.Spot.{Spot}
use Rattle.np_flat.specs.declared.limits.TheConstants.{MOST_TERMS}
use Rattle.np_flat.specs.declared.parts.Form.{Form}
use Rattle.np_flat.specs.declared.parts.Subgoal.{Subgoal}
use Rattle.np_flat.specs.declared.parts.Subgoal.TheVariants as subgoal
use Rattle.np_scale.specs.declared.fault.ScaleFault.{ScaleFault}
use Rattle.np_scale.specs.declared.fault.ScaleFault.TheVariants.{NumberWide, FormLong}
use Rattle.np_scale.specs.Answers.{Refuses}
use Rattle.np_scale.specs.Forms.{Inequality, form_of}
use Rattle.np_scale.specs.Limits.{unless, fractions_fit, is_small_form, checked_form, with_subgoal, with_subgoals}
use Rattle.np_scale.specs.Code.{AnswersInto, ArePut, turned, small_form}
use Rattle.np_scale.proofs.Known.{refuse_then, with_subgoals-append, with_one, with_subgoals_grows, put_then}

-- ---- one subgoal

-- it becomes known where it has no fault
pub with_answer : (known : List Subgoal) (x : Result Subgoal ScaleFault) (q : Subgoal) → x ≡ Ok q → with_subgoals known (x ∷ []) ≡ with_subgoal known q
with_answer known x q e = ap (λ r. with_subgoals known (r ∷ [])) e ∙ with_one known q

pub answer_refused : (e : ScaleFault) (known : List Subgoal) (x : Result Subgoal ScaleFault) → Refuses e x → Refuses e (with_subgoals known (x ∷ []))
answer_refused e known x h = refuse_then e x (λ q. and_then (with_subgoal known q) (λ more. with_subgoals more [])) h

-- ---- one side of a comparison

turned_length : (neg : Bool) (l : Linear) → length (turned neg l).terms ≡ length l.terms
turned_length false l = refl
turned_length true l = length-map l.terms (λ t. (t.0, negated t.1))

-- whether the numbers of a form are within their limits
abbrev is_small_side : List Term → ℕ → Inequality → Bool
is_small_side terms unit side = fractions_fit terms unit side.1 && is_small_form (form_of terms unit side)

-- what is checked, in order
abbrev checked_by : Spot → List Term → ℕ → Inequality → Bool → Bool → Result Subgoal ScaleFault
checked_by spot terms unit side few small =
    and_then (unless few (FormLong spot)) (λ _. and_then (unless small (NumberWide spot)) (λ _. Ok (subgoal.Form (form_of terms unit side))))

-- too many terms
pub form_long : (spot : Spot) (terms : List Term) (unit : ℕ) (strict neg : Bool) (l : Linear) → MOST_TERMS < length l.terms
    → checked_form spot terms unit (strict, turned neg l) ≡ Err (FormLong spot)
form_long spot terms unit strict neg l long =
    ap (λ n. checked_by spot terms unit (strict, turned neg l) (not (nat_lt MOST_TERMS n)) (is_small_side terms unit (strict, turned neg l))) (turned_length neg l)
    ∙ ap (λ b. checked_by spot terms unit (strict, turned neg l) (not b) (is_small_side terms unit (strict, turned neg l))) (lt-ltb MOST_TERMS (length l.terms) long)

form_few : (spot : Spot) (terms : List Term) (unit : ℕ) (strict neg : Bool) (l : Linear) → length l.terms ≤ MOST_TERMS
    → checked_form spot terms unit (strict, turned neg l)
    ≡ checked_by spot terms unit (strict, turned neg l) true (is_small_side terms unit (strict, turned neg l))
form_few spot terms unit strict neg l few =
    ap (λ n. checked_by spot terms unit (strict, turned neg l) (not (nat_lt MOST_TERMS n)) (is_small_side terms unit (strict, turned neg l))) (turned_length neg l)
    ∙ ap (λ b. checked_by spot terms unit (strict, turned neg l) (not b) (is_small_side terms unit (strict, turned neg l))) (le-ltb MOST_TERMS (length l.terms) few)

-- the form
pub form_made : (spot : Spot) (terms : List Term) (unit : ℕ) (strict neg : Bool) (l : Linear) (form : Form) → length l.terms ≤ MOST_TERMS
    → Some form ≡ small_form terms unit (strict, turned neg l) → checked_form spot terms unit (strict, turned neg l) ≡ Ok (subgoal.Form form)
form_made spot terms unit strict neg l form few e =
    form_few spot terms unit strict neg l few ∙ by (is_small_side terms unit (strict, turned neg l)) (form_of terms unit (strict, turned neg l)) e
  where
    by : (b : Bool) (g : Form) → Some form ≡ (if b then Some g else None) → and_then (unless b (NumberWide spot)) (λ _. Ok (subgoal.Form g)) ≡ Ok (subgoal.Form form)
    by true g e = let same : form ≡ g = cc in ap (λ f. Ok (subgoal.Form f)) (sym same)
    by false g e = cc

-- a number past its limit
pub form_wide : (spot : Spot) (terms : List Term) (unit : ℕ) (strict neg : Bool) (l : Linear) → length l.terms ≤ MOST_TERMS
    → None ≡ small_form terms unit (strict, turned neg l) → checked_form spot terms unit (strict, turned neg l) ≡ Err (NumberWide spot)
form_wide spot terms unit strict neg l few e =
    form_few spot terms unit strict neg l few ∙ by (is_small_side terms unit (strict, turned neg l)) (form_of terms unit (strict, turned neg l)) e
  where
    by : (b : Bool) (g : Form) → None ≡ (if b then Some g else None) → and_then (unless b (NumberWide spot)) (λ _. Ok (subgoal.Form g)) ≡ Err (NumberWide spot)
    by true g e = cc
    by false g e = refl

-- a subgoal without a fault is the form
pub form_is : (spot : Spot) (terms : List Term) (unit : ℕ) (side : Inequality) (q : Subgoal) → checked_form spot terms unit side ≡ Ok q → q ≡ subgoal.Form (form_of terms unit side)
form_is spot terms unit side q e = by (not (nat_lt MOST_TERMS (length side.1.terms))) (is_small_side terms unit side) (form_of terms unit side) e
  where
    by : (few small : Bool) (f : Form) → and_then (unless few (FormLong spot)) (λ _. and_then (unless small (NumberWide spot)) (λ _. Ok (subgoal.Form f))) ≡ Ok q → q ≡ subgoal.Form f
    by true true f e = cc
    by true false f e = cc
    by false small f e = cc

-- ---- both sides of an equality

pub both_refused : (e : ScaleFault) (known : List Subgoal) (x y : Result Subgoal ScaleFault) → Refuses e (with_subgoals known (x ∷ [])) → Refuses e (with_subgoals known (x ∷ y ∷ []))
both_refused e known x y h =
    subst (Refuses e) (sym (with_subgoals-append known (x ∷ []) (y ∷ []))) (refuse_then e (with_subgoals known (x ∷ [])) (λ more. with_subgoals more (y ∷ [])) h)

pub both_known : (known mid : List Subgoal) (x y : Result Subgoal ScaleFault) → with_subgoals known (x ∷ []) ≡ Ok mid
    → with_subgoals known (x ∷ y ∷ []) ≡ with_subgoals mid (y ∷ [])
both_known known mid x y e = with_subgoals-append known (x ∷ []) (y ∷ []) ∙ ap (λ r. and_then r (λ more. with_subgoals more (y ∷ []))) e

pub both_put : (mid new : List Subgoal) (y : Result Subgoal ScaleFault) (p q : Subgoal) (old between after : List ℕ) → with_subgoals mid (y ∷ []) ≡ Ok new
    → ArePut mid (p ∷ []) old between → ArePut new (q ∷ []) between after → ArePut new (p ∷ q ∷ []) old after
both_put mid new y p q old between after e first second = put_then mid new (p ∷ []) (q ∷ []) old between after first (with_subgoals_grows mid (y ∷ []) new e) second

pub both_numbers : {A : Type 0} (r : Result A ScaleFault) (mid new : List Subgoal) (y : Result Subgoal ScaleFault) (p q : Subgoal) (old between after : List ℕ)
    → AnswersInto r new (with_subgoals mid (y ∷ [])) → ArePut mid (p ∷ []) old between → OnOk r (ArePut new (q ∷ []) between after) → OnOk r (ArePut new (p ∷ q ∷ []) old after)
both_numbers (Ok x) mid new y p q old between after e first second = both_put mid new y p q old between after e first second
both_numbers (Err f) mid new y p q old between after e first second = tt

-- ---- what a call for one subgoal says

pub one_known : {A : Type 0} (r : Result A ScaleFault) (new known : List Subgoal) (p q : Subgoal) → p ≡ q → AnswersInto r new (with_subgoal known p) → AnswersInto r new (with_subgoals known (Ok q ∷ []))
one_known r new known p q e h = subst (AnswersInto r new) (ap (with_subgoal known) e ∙ sym (with_one known q)) h

pub answer_known : {A : Type 0} (r : Result A ScaleFault) (new known : List Subgoal) (x : Result Subgoal ScaleFault) (q : Subgoal) → x ≡ Ok q
    → AnswersInto r new (with_subgoal known q) → AnswersInto r new (with_subgoals known (x ∷ []))
answer_known r new known x q e h = subst (AnswersInto r new) (sym (with_answer known x q e)) h

pub answer_numbers : {A : Type 0} (r : Result A ScaleFault) (spot : Spot) (terms : List Term) (unit : ℕ) (side : Inequality)
    (q : Subgoal) (known : List Subgoal) (old new : List ℕ)
    → checked_form spot terms unit side ≡ Ok q → OnOk r (ArePut known (q ∷ []) old new) → OnOk r (ArePut known (subgoal.Form (form_of terms unit side) ∷ []) old new)
answer_numbers r spot terms unit side q known old new e h =
    subst (λ p. OnOk r (ArePut known (p ∷ []) old new)) (form_is spot terms unit side q e) h

pub then_known : {A : Type 0} (r : Result A ScaleFault) (new known mid : List Subgoal) (x y : Result Subgoal ScaleFault) → with_subgoals known (x ∷ []) ≡ Ok mid
    → AnswersInto r new (with_subgoals mid (y ∷ [])) → AnswersInto r new (with_subgoals known (x ∷ y ∷ []))
then_known r new known mid x y e h = subst (AnswersInto r new) (sym (both_known known mid x y e)) h

-- a fault tells a copy of the spot
pub form_told : (fault : Spot → ScaleFault) {x : Result Subgoal ScaleFault} {copy spot : Spot} → copy ≡ spot → x ≡ Err (fault spot) → x ≡ Err (fault copy)
form_told fault e h = h ∙ ap (λ s. Err (fault s)) (sym e)
