-- The form of one side of a comparison, from its parts.
use Rattle.std.proofs.Common.{◌≡◌, ◌≢◌, ℕ, Bool, true, false, ℤ, pos, refl, sym, ◌∙◌, ap, subst, List, [], ◌∷◌, map, Option, Some, None}
use Rattle.std.specs.Prelude.{◌&&◌, if◌then◌else◌, All}
use Rattle.std.specs.List.{AllByRecursion}
use Rattle.std.proofs.lemmas.List.Elements.{All-from_recursion, recursion_from_All}
use Rattle.np_frac.specs.Fractions.{Fraction, whole, times}
use Rattle.np_frac.specs.Checked.{is_zero, times_fits}
use Rattle.np_model.specs.declared.task.Term.{Term}
use Rattle.np_model.specs.Ground.{same_term}
use Rattle.np_linear.specs.declared.linear.Linear.{Linear}
use Rattle.np_flat.specs.declared.limits.TheConstants.{CONSTANT_SIZE}
use Rattle.np_flat.specs.declared.parts.Form.{Form}
use Rattle.np_scale.specs.Tables.{number_of}
use Rattle.np_scale.specs.Wholes.{factor_of}
use Rattle.np_scale.specs.Forms.{by_number, coefficients_of, constant_from}
use Rattle.np_scale.specs.Limits.{is_below, factor_fits}
use Rattle.np_scale.specs.Code.{AreNonzero, AreMadeWhole, IsFactor, factor_for, whole_by, are_small, small_terms, is_fitting, small_constant, turned, signed, small_form}
use Rattle.np_scale.specs.Laws.{AreWhole}
use Rattle.np_scale.proofs.Every.{each_weaker, each_map}
use Rattle.np_scale.proofs.InPlace.{each_ascending}
use Rattle.np_scale.proofs.Positive.{some_from, other_from}
use Rattle.np_scale.proofs.Readings.{negated_some}
use Rattle.np_scale.proofs.Factors.{factor_makes_whole}

-- the coefficients as the code reads them
abbrev pub read : List Term → Bool → List (Term × Fraction) → List (ℕ × Fraction)
read terms neg ts = by_number (map (λ t. (number_of same_term terms t.0, signed neg t.1)) ts)

pub coefficients_are : (terms : List Term) (neg : Bool) (l : Linear) → read terms neg l.terms ≡ coefficients_of terms (turned neg l)
coefficients_are terms false l = refl
coefficients_are terms true l = ap by_number (mapped l.terms)
  where
    mapped : (ts : List (Term × Fraction)) → map {B = ℕ × Fraction} (λ t. (number_of same_term terms t.0, signed true t.1)) ts ≡ map {B = ℕ × Fraction} (λ t. (number_of same_term terms t.0, t.1)) (map {B = Term × Fraction} (λ t. (t.0, signed true t.1)) ts)
    mapped [] = refl
    mapped (t ∷ ts) = ap (λ us. (number_of same_term terms t.0, signed true t.1) ∷ us) (mapped ts)

pub constant_is : (neg : Bool) (l : Linear) → (turned neg l).constant ≡ signed neg l.constant
constant_is false l = refl
constant_is true l = refl

signed_some : (neg : Bool) (x : Fraction) → is_zero x ≡ false → is_zero (signed neg x) ≡ false
signed_some false x e = e
signed_some true x e = negated_some x e

-- no coefficient is 0
pub coefficients_some : (terms : List Term) (neg : Bool) (ts : List (Term × Fraction)) → All (λ t. t.1 ≢ whole (pos 0)) ts → AreNonzero (read terms neg ts)
coefficients_some terms neg ts others =
    All-from_recursion (λ c. is_zero c.1 ≡ false) (read terms neg ts)
    (each_ascending (λ c. is_zero c.1 ≡ false) (map (λ t. (number_of same_term terms t.0, signed neg t.1)) ts)
    (each_map (λ c. is_zero c.1 ≡ false) (λ t. (number_of same_term terms t.0, signed neg t.1)) ts
    (each_weaker (λ t. t.1 ≢ whole (pos 0)) (λ t. is_zero (signed neg t.1) ≡ false) (λ t other. signed_some neg t.1 (some_from t.1 other)) ts (recursion_from_All (λ t. t.1 ≢ whole (pos 0)) ts others))))

-- the factor makes each whole
pub made_whole_all : (cs : List (ℕ × Fraction)) (f : Fraction) → AreNonzero cs → IsFactor cs f → AreMadeWhole f cs
made_whole_all cs f some is = subst (λ (x : Fraction). AreMadeWhole x cs) (sym is.is) (All-from_recursion (λ c. (times (factor_for cs) c.1).den ≡ 1) cs (by cs some))
  where
    alone : (ds : List (ℕ × Fraction)) → AllByRecursion (λ c. is_zero c.1 ≡ false) ds → AllByRecursion (λ b. b ≢ whole (pos 0)) (map (λ c. c.1) ds)
    alone ds all = each_map (λ b. b ≢ whole (pos 0)) (λ c. c.1) ds (each_weaker (λ c. is_zero c.1 ≡ false) (λ c. c.1 ≢ whole (pos 0)) (λ c e. other_from c.1 e) ds all)

    back : (g : Fraction) (ds : List (ℕ × Fraction)) → AllByRecursion (λ b. (times g b).den ≡ 1) (map (λ c. c.1) ds) → AllByRecursion (λ c. (times g c.1).den ≡ 1) ds
    back g [] all = tt
    back g (d ∷ ds) all = (all.0, back g ds all.1)

    by : (ds : List (ℕ × Fraction)) → AreNonzero ds → AllByRecursion (λ c. (times (factor_for ds) c.1).den ≡ 1) ds
    by [] nonzero = tt
    by (d ∷ ds) nonzero =
        let law : AreWhole (factor_of (d.1 ∷ map (λ c. c.1) ds)) (d.1 ∷ map (λ c. c.1) ds) =
        factor_makes_whole d.1 (map (λ c. c.1) ds) (All-from_recursion (λ b. b ≢ whole (pos 0)) (d.1 ∷ map (λ c. c.1) ds) (alone (d ∷ ds) (recursion_from_All (λ c. is_zero c.1 ≡ false) (d ∷ ds) nonzero))) in
        back (factor_for (d ∷ ds)) (d ∷ ds) (recursion_from_All (λ b. (times (factor_for (d ∷ ds)) b).den ≡ 1) (d.1 ∷ map (λ c. c.1) ds) law.whole)

-- ---- the form

no_first : (a b k s : Bool) → (a && s) ≡ false → ((a && b) && (k && s)) ≡ false
no_first true true true s e = e
no_first true true false s e = refl
no_first true false k s e = refl
no_first false b k s e = refl

module _ (terms : List Term) (unit : ℕ) (strict : Bool) (l : Linear) (cs : List (ℕ × Fraction)) (e : cs ≡ coefficients_of terms l) where
  -- whether the fractions of the constant are answered
  abbrev answered : Fraction → Bool
  answered f = times_fits l.constant (whole (pos unit)) && times_fits (times l.constant (whole (pos unit))) f

  abbrev within : Fraction → Bool
  within f = is_below CONSTANT_SIZE (constant_from strict (times (times l.constant (whole (pos unit))) f))

  abbrev made : List (ℕ × Fraction) → Option Form
  made ds =
      if (factor_fits (factor_for ds) ds && answered (factor_for ds)) && (within (factor_for ds) && are_small (whole_by (factor_for ds) ds))
      then Some (record { constant = constant_from strict (times (times l.constant (whole (pos unit))) (factor_for ds)); terms = whole_by (factor_for ds) ds })
      else None

  form_is : made cs ≡ small_form terms unit (strict, l)
  form_is = ap made e

  made_none : (a b k t : Bool) (f : Form) → ((a && b) && (k && t)) ≡ false → None ≡ (if (a && b) && (k && t) then Some f else None)
  made_none a b k t f h = sym (ap (λ z. if z then Some f else None) h)

  abbrev form : Form
  form = record { constant = constant_from strict (times (times l.constant (whole (pos unit))) (factor_for cs)); terms = whole_by (factor_for cs) cs }

  -- no factor
  pub none_factor : is_fitting cs ≡ false → None ≡ small_form terms unit (strict, l)
  none_factor h =
      made_none (factor_fits (factor_for cs) cs) (answered (factor_for cs)) (within (factor_for cs)) (are_small (whole_by (factor_for cs) cs)) form
      (no_first (factor_fits (factor_for cs) cs) (answered (factor_for cs)) (within (factor_for cs)) (are_small (whole_by (factor_for cs) cs)) h)
      ∙ form_is

  no_second : (a b b2 k t : Bool) (n : ℤ) → None ≡ (if b && (b2 && k) then Some n else None) → ((a && (b && b2)) && (k && t)) ≡ false
  no_second true true true true t n h = cc
  no_second true true true false t n h = refl
  no_second true true false k t n h = refl
  no_second true false b2 k t n h = refl
  no_second false b b2 k t n h = refl

  -- no constant
  pub none_constant : (f c : Fraction) → f ≡ factor_for cs → c ≡ l.constant → None ≡ small_constant strict c unit f → None ≡ small_form terms unit (strict, l)
  none_constant f c ef ec h =
      made_none (factor_fits (factor_for cs) cs) (answered (factor_for cs)) (within (factor_for cs)) (are_small (whole_by (factor_for cs) cs)) form
      (no_second (factor_fits (factor_for cs) cs) (times_fits l.constant (whole (pos unit))) (times_fits (times l.constant (whole (pos unit))) (factor_for cs)) (within (factor_for cs)) (are_small (whole_by (factor_for cs) cs))
      (constant_from strict (times (times l.constant (whole (pos unit))) (factor_for cs)))
      (h ∙ ap (λ x. small_constant strict x unit f) ec ∙ ap (small_constant strict l.constant unit) ef))
      ∙ form_is

  no_third : (a b k t : Bool) (ws : List (ℕ × ℤ)) → None ≡ (if t then Some ws else None) → ((a && b) && (k && t)) ≡ false
  no_third a b k true ws h = cc
  no_third true true true false ws h = refl
  no_third true true false false ws h = refl
  no_third true false k false ws h = refl
  no_third false b k false ws h = refl

  -- no terms
  pub none_terms : (f : Fraction) → f ≡ factor_for cs → None ≡ small_terms f cs → None ≡ small_form terms unit (strict, l)
  none_terms f ef h =
      made_none (factor_fits (factor_for cs) cs) (answered (factor_for cs)) (within (factor_for cs)) (are_small (whole_by (factor_for cs) cs)) form
      (no_third (factor_fits (factor_for cs) cs) (answered (factor_for cs)) (within (factor_for cs)) (are_small (whole_by (factor_for cs) cs)) (whole_by (factor_for cs) cs)
      (h ∙ ap (λ x. small_terms x cs) ef))
      ∙ form_is

  some_parts : (a b b2 k t : Bool) (n m : ℤ) (ws ts : List (ℕ × ℤ)) → a ≡ true → Some m ≡ (if b && (b2 && k) then Some n else None) → Some ts ≡ (if t then Some ws else None)
      → ◌≡◌ {A = Option Form} (Some (record { constant = m; terms = ts })) (if (a && (b && b2)) && (k && t) then Some (record { constant = n; terms = ws }) else None)
  some_parts true true true true true n m ws ts h e f = let p : m ≡ n = cc in let q : ts ≡ ws = cc in λ i. Some (record { constant = p i; terms = q i })
  some_parts true true true true false n m ws ts h e f = cc
  some_parts true true true false t n m ws ts h e f = cc
  some_parts true true false k t n m ws ts h e f = cc
  some_parts true false b2 k t n m ws ts h e f = cc
  some_parts false b b2 k t n m ws ts h e f = cc

  -- all parts
  pub made_form : (f c : Fraction) (k : ℤ) (ts : List (ℕ × ℤ)) → IsFactor cs f → c ≡ l.constant → Some k ≡ small_constant strict c unit f → Some ts ≡ small_terms f cs
      → ◌≡◌ {A = Option Form} (Some (record { constant = k; terms = ts })) (small_form terms unit (strict, l))
  made_form f c k ts is ec h j =
      some_parts (factor_fits (factor_for cs) cs) (times_fits l.constant (whole (pos unit))) (times_fits (times l.constant (whole (pos unit))) (factor_for cs)) (within (factor_for cs)) (are_small (whole_by (factor_for cs) cs))
      (constant_from strict (times (times l.constant (whole (pos unit))) (factor_for cs))) k (whole_by (factor_for cs) cs) ts
      (ap (λ x. factor_fits x cs) (sym is.is) ∙ is.fits)
      (h ∙ ap (λ x. small_constant strict x unit f) ec ∙ ap (small_constant strict l.constant unit) is.is)
      (j ∙ ap (λ x. small_terms x cs) is.is)
      ∙ form_is
