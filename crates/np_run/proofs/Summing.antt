-- The sums of a step's amounts as they are computed are its changes, and the values that they grow by are those after it.
use Rattle.std.proofs.Common.{◌≡◌, ℕ, Bool, true, false, refl, sym, ◌∙◌, ap, List, [], ◌∷◌, map, filter, Option, Some, None, Ok, Err, Result}
use Rattle.std.specs.Prelude.{◌&&◌, if◌then◌else◌, is_some, unwrap_or, option_map}
use Rattle.std.specs.List.{list_all}
use Rattle.std.proofs.lemmas.Option.{none-some, same_Some}
use Rattle.std.specs.Map.{lookup}
use Rattle.indexmap.specs.IndexMap.{insert_entry}
use Rattle.np_frac.specs.Fractions.{Fraction, plus, minus}
use Rattle.np_frac.specs.Checked.{plus_fits, minus_fits}
use Rattle.np_frac.specs.Field.{plus-zero}
use Rattle.np_model.specs.declared.task.Atom as model
use Rattle.np_model.specs.declared.task.Term.{Term}
use Rattle.np_model.specs.declared.task.Sum.{Sum}
use Rattle.np_model.specs.declared.task.Ref.{Ref}
use Rattle.np_model.specs.declared.task.Eff.{Eff}
use Rattle.np_model.specs.declared.task.Eff.TheVariants as eff
use Rattle.np_model.specs.Ground.{term_of, same_term, same_term-Decides}
use Rattle.np_model.specs.States.{State, value_among}
use Rattle.np_model.specs.Values.{of_both, negated, sum_of, value_of}
use Rattle.np_model.specs.Steps.{changes, amount_of, is_possible}
use Rattle.np_model.proofs.Sums.{plus-negated, sum_assoc, sum_zero}
use Rattle.np_model.proofs.Lists.{value_of_entries}
use Rattle.np_model.proofs.Numbers.{amounts-cons}
use Rattle.np_run.specs.declared.halt.Lack.{Lack}
use Rattle.np_run.specs.declared.halt.Lack.TheVariants.{Missing, Wide}
use Rattle.np_run.specs.Computing.{and_then, fitting, added, zero, found, computed_value}
use Rattle.np_run.specs.Changing.{sum_so_far, with_sum, summed, with_amount, with_change, with_effect, sums_from, with_value, all_grown}
use Rattle.np_run.proofs.Agreeing.{Means, value_means}

no_yes : true ≡ false → ⊥
no_yes e = cc

-- ---- sums as a list

-- a look-up in a map's entries, and an entry that is put in
pub looked_up : (xs : List (Term × Fraction)) (t : Term) → sum_so_far xs t ≡ unwrap_or (lookup (same_term t) xs) zero
looked_up xs t = ap (λ o. unwrap_or o zero) (sym (value_of_entries xs t))

pub put_in : (xs : List (Term × Fraction)) (t : Term) (x : Fraction) → insert_entry same_term xs t x ≡ with_sum xs t x
put_in [] t x = refl
put_in (e ∷ xs) t x = ap (λ ys. if same_term t e.0 then (e.0, x) ∷ xs else e ∷ ys) (put_in xs t x)

-- a sum that is put in is its term's, and the others stay
pub among_with_sum : (xs : List (Term × Fraction)) (t : Term) (x : Fraction) (u : Term)
    → value_among (with_sum xs t x) u ≡ (if same_term u t then Some x else value_among xs u)
among_with_sum [] t x u = refl
among_with_sum (e ∷ xs) t x u = by (same_term t e.0) refl (same_term u e.0) refl (same_term u t) refl (among_with_sum xs t x u)
  where
    by : (b : Bool) → same_term t e.0 ≡ b → (c : Bool) → same_term u e.0 ≡ c → (d : Bool) → same_term u t ≡ d
        → value_among (with_sum xs t x) u ≡ (if same_term u t then Some x else value_among xs u)
        → value_among (if b then (e.0, x) ∷ xs else e ∷ with_sum xs t x) u ≡ (if d then Some x else (if c then Some e.1 else value_among xs u))
    by true p c q d r later =
        ap (λ o. if o then Some x else value_among xs u) (ap (same_term u) (sym ((same_term-Decides t e.0).0 p)) ∙ r) ∙ over c d (sym q ∙ ap (same_term u) (sym ((same_term-Decides t e.0).0 p)) ∙ r)
      where
        over : (c d : Bool) → c ≡ d → (if d then Some x else value_among xs u) ≡ (if d then Some x else (if c then Some e.1 else value_among xs u))
        over c true h = refl
        over true false h = absurd (no_yes h)
        over false false h = refl
    by false p true q true r later =
        absurd (no_yes (sym ((same_term-Decides t e.0).1 (sym ((same_term-Decides u t).0 r) ∙ (same_term-Decides u e.0).0 q)) ∙ p))
    by false p true q false r later = rw q refl
    by false p false q d r later = rw q (later ∙ ap (λ o. if o then Some x else value_among xs u) r)

-- each sum is of a term that has a value, and no term has two
abbrev pub Fit : State → List (Term × Fraction) → Type 0
Fit s [] = Unit {0}
Fit s (e ∷ xs) = (is_some (s.value e.0) ≡ true) × (value_among xs e.0 ≡ None) × Fit s xs

pub fit_with_sum : (s : State) (xs : List (Term × Fraction)) (t : Term) (x : Fraction) → is_some (s.value t) ≡ true → Fit s xs → Fit s (with_sum xs t x)
fit_with_sum s [] t x there fit = (there, refl, tt)
fit_with_sum s (e ∷ xs) t x there fit = by (same_term t e.0) refl (fit_with_sum s xs t x there fit.2)
  where
    swapped : same_term t e.0 ≡ false → (b : Bool) → same_term e.0 t ≡ b → b ≡ false
    swapped p true q = absurd (no_yes (sym ((same_term-Decides t e.0).1 (sym ((same_term-Decides e.0 t).0 q))) ∙ p))
    swapped p false q = refl

    by : (b : Bool) → same_term t e.0 ≡ b → Fit s (with_sum xs t x) → Fit s (if b then (e.0, x) ∷ xs else e ∷ with_sum xs t x)
    by true p later = (fit.0, fit.1, fit.2)
    by false p later =
        (fit.0, among_with_sum xs t x e.0 ∙ ap (λ o. if o then Some x else value_among xs e.0) (swapped p (same_term e.0 t) refl) ∙ fit.1, later)

-- ---- amounts

-- the sum of the amounts of effects on a term
abbrev pub amounts : List ℕ → State → Term → List Eff → Option Fraction
amounts objects s t es = sum_of (map (amount_of objects s) (filter (changes objects t) es))

-- the amount of a change, from the value of its expression
abbrev pub signed : Bool → Fraction → Fraction
signed true x = x
signed false x = negated x

amount_is : (objects : List ℕ) (s : State) (up : Bool) (function : ℕ) (refs : List Ref) (amount : Sum) (x : Fraction) → value_of objects s amount ≡ Some x
    → amount_of objects s (eff.Change up function refs amount) ≡ Some (signed up x)
amount_is objects s true function refs amount x e = e
amount_is objects s false function refs amount x e = ap (option_map negated) e

-- an amount that is taken in
summed_means : (up : Bool) (sum x : Fraction) → Means (Some (plus sum (signed up x))) (summed up sum x)
summed_means true sum x = by (plus_fits sum x)
  where
    by : (b : Bool) → Means (Some (plus sum x)) (fitting b (plus sum x))
    by true = refl
    by false = tt
summed_means false sum x = by (minus_fits sum x)
  where
    by : (b : Bool) → Means (Some (plus sum (negated x))) (fitting b (minus sum x))
    by true = ap Some (plus-negated sum x)
    by false = tt

-- what the sums after some effects say: the effects can happen, and their amounts are taken in
abbrev pub SumsSay : List ℕ → State → List (Term × Fraction) → List Eff → Result (List (Term × Fraction)) Lack → Type 0
SumsSay objects s sums es (Ok after) =
    (list_all (is_possible objects s) es ≡ true) × Fit s after × ((t : Term) → of_both plus (Some (sum_so_far sums t)) (amounts objects s t es) ≡ Some (sum_so_far after t))
SumsSay objects s sums es (Err Missing) = list_all (is_possible objects s) es ≡ false
SumsSay objects s sums es (Err Wide) = Unit {0}

-- the same of one effect before others
abbrev SumSays : List ℕ → State → List (Term × Fraction) → Eff → Result (List (Term × Fraction)) Lack → Type 0
SumSays objects s sums e (Ok after) =
    (is_possible objects s e ≡ true) × Fit s after
    × ((t : Term) (es : List Eff) → of_both plus (Some (sum_so_far sums t)) (amounts objects s t (e ∷ es)) ≡ of_both plus (Some (sum_so_far after t)) (amounts objects s t es))
SumSays objects s sums e (Err Missing) = is_possible objects s e ≡ false
SumSays objects s sums e (Err Wide) = Unit {0}

-- a sum with one more amount, before others
taken_in : (objects : List ℕ) (s : State) (sums : List (Term × Fraction)) (up : Bool) (function : ℕ) (refs : List Ref) (amount : Sum) (x y : Fraction)
    → value_of objects s amount ≡ Some x → plus (sum_so_far sums (term_of objects function refs)) (signed up x) ≡ y
    → (t : Term) (es : List Eff)
    → of_both plus (Some (sum_so_far sums t)) (amounts objects s t (eff.Change up function refs amount ∷ es))
    ≡ of_both plus (Some (sum_so_far (with_sum sums (term_of objects function refs) y) t)) (amounts objects s t es)
taken_in objects s sums up function refs amount x y e sum t es =
    ap (of_both plus (Some (sum_so_far sums t))) (amounts-cons objects s t (eff.Change up function refs amount) es)
    ∙ by (same_term t (term_of objects function refs)) refl
    ∙ ap (λ o. of_both plus (Some (unwrap_or o zero)) (amounts objects s t es)) (sym (among_with_sum sums (term_of objects function refs) y t))
  where
    by : (b : Bool) → same_term t (term_of objects function refs) ≡ b
        → of_both plus (Some (sum_so_far sums t)) (if b then of_both plus (amount_of objects s (eff.Change up function refs amount)) (amounts objects s t es) else amounts objects s t es)
        ≡ of_both plus (Some (unwrap_or (if b then Some y else value_among sums t) zero)) (amounts objects s t es)
    by true same =
        ap (λ o. of_both plus (Some (sum_so_far sums t)) (of_both plus o (amounts objects s t es))) (amount_is objects s up function refs amount x e)
        ∙ sym (sum_assoc (Some (sum_so_far sums t)) (Some (signed up x)) (amounts objects s t es))
        ∙ ap (λ z. of_both plus (Some z) (amounts objects s t es)) (ap (λ u. plus (sum_so_far sums u) (signed up x)) ((same_term-Decides t (term_of objects function refs)).0 same) ∙ sum)
    by false other = refl

change_says : (objects : List ℕ) (s : State) (sums : List (Term × Fraction)) (up : Bool) (function : ℕ) (refs : List Ref) (amount : Sum) → Fit s sums
    → SumSays objects s sums (eff.Change up function refs amount) (with_change objects s sums up (term_of objects function refs) amount)
change_says objects s sums up function refs amount fit = old (s.value (term_of objects function refs)) refl
  where
    sum : (y : Result Fraction Lack) (x : Fraction) → value_of objects s amount ≡ Some x → is_some (s.value (term_of objects function refs)) ≡ true
        → Means (Some (plus (sum_so_far sums (term_of objects function refs)) (signed up x))) y
        → SumSays objects s sums (eff.Change up function refs amount) (and_then y (λ z. Ok (with_sum sums (term_of objects function refs) z)))
    sum (Ok y) x e there is =
        (rw (e, there) refl, fit_with_sum s sums (term_of objects function refs) y there fit, taken_in objects s sums up function refs amount x y e (same_Some _ _ is))
    sum (Err Missing) x e there is = absurd (none-some (plus (sum_so_far sums (term_of objects function refs)) (signed up x)) (sym is))
    sum (Err Wide) x e there is = tt

    value : (r : Result Fraction Lack) → Means (value_of objects s amount) r → is_some (s.value (term_of objects function refs)) ≡ true
        → SumSays objects s sums (eff.Change up function refs amount) (and_then r (λ x. with_amount sums up (term_of objects function refs) x))
    value (Ok x) e there = sum (summed up (sum_so_far sums (term_of objects function refs)) x) x e there (summed_means up (sum_so_far sums (term_of objects function refs)) x)
    value (Err Missing) e there = rw e refl
    value (Err Wide) e there = tt

    nothing : (b : Bool) → (b && false) ≡ false
    nothing true = refl
    nothing false = refl

    old : (o : Option Fraction) → s.value (term_of objects function refs) ≡ o
        → SumSays objects s sums (eff.Change up function refs amount) (and_then (found o) (λ v. and_then (computed_value objects s amount) (λ x. with_amount sums up (term_of objects function refs) x)))
    old None e = ap (λ o. is_some (value_of objects s amount) && is_some o) e ∙ nothing (is_some (value_of objects s amount))
    old (Some v) e = value (computed_value objects s amount) (value_means objects s amount) (ap is_some e)

effect_says : (objects : List ℕ) (s : State) (sums : List (Term × Fraction)) (e : Eff) → Fit s sums → SumSays objects s sums e (with_effect objects s sums e)
effect_says objects s sums (eff.Add predicate refs) fit = (refl, fit, λ t es. refl)
effect_says objects s sums (eff.Delete predicate refs) fit = (refl, fit, λ t es. refl)
effect_says objects s sums (eff.Change up function refs amount) fit = change_says objects s sums up function refs amount fit

pub sums_say : (objects : List ℕ) (s : State) (sums : List (Term × Fraction)) (es : List Eff) → Fit s sums → SumsSay objects s sums es (sums_from objects s sums es)
sums_say objects s sums [] fit = (refl, fit, λ t. sum_zero (Some (sum_so_far sums t)))
sums_say objects s sums (e ∷ es) fit = first (with_effect objects s sums e) (effect_says objects s sums e fit) (λ more. sums_say objects s more es)
  where
    others : (more : List (Term × Fraction)) (r : Result (List (Term × Fraction)) Lack) → SumSays objects s sums e (Ok more)
        → SumsSay objects s more es r → SumsSay objects s sums (e ∷ es) r
    others more (Ok after) h k = (rw (h.0, k.0) refl, k.1, λ t. h.2 t es ∙ k.2 t)
    others more (Err Missing) h k = rw (h.0, k) refl
    others more (Err Wide) h k = tt

    first : (r : Result (List (Term × Fraction)) Lack) → SumSays objects s sums e r
        → ((more : List (Term × Fraction)) → Fit s more → SumsSay objects s more es (sums_from objects s more es))
        → SumsSay objects s sums (e ∷ es) (and_then r (λ more. sums_from objects s more es))
    first (Ok more) h later = others more (sums_from objects s more es) h (later more h.1)
    first (Err Missing) h later = rw h refl
    first (Err Wide) h later = tt

-- ---- the values after

-- what the grown values say
abbrev pub GrownSays : State → List (Term × Fraction) → Result State Lack → Type 0
GrownSays s sums (Ok after) =
    ((a : model.Atom) → after.has a ≡ s.has a) × ((t : Term) → after.value t ≡ of_both plus (s.value t) (Some (sum_so_far sums t)))
GrownSays s sums (Err Missing) = ⊥
GrownSays s sums (Err Wide) = Unit {0}

-- terms that have values still do
fit_stays : (s : State) (t : Term) (v : Fraction) (xs : List (Term × Fraction)) → Fit s xs → Fit (with_value s t v) xs
fit_stays s t v [] fit = tt
fit_stays s t v (e ∷ xs) fit = (by (same_term e.0 t), fit.1, fit_stays s t v xs fit.2)
  where
    by : (b : Bool) → is_some (if b then Some v else s.value e.0) ≡ true
    by true = refl
    by false = fit.0

-- the value after one sum and then others
value_after : (s : State) (e : Term × Fraction) (sums : List (Term × Fraction)) (old : Fraction) → s.value e.0 ≡ Some old → value_among sums e.0 ≡ None → (t : Term)
    → of_both plus ((with_value s e.0 (plus old e.1)).value t) (Some (sum_so_far sums t)) ≡ of_both plus (s.value t) (Some (sum_so_far (e ∷ sums) t))
value_after s e sums old is alone t = by (same_term t e.0) refl
  where
    by : (b : Bool) → same_term t e.0 ≡ b
        → of_both plus (if b then Some (plus old e.1) else s.value t) (Some (sum_so_far sums t)) ≡ of_both plus (s.value t) (Some (unwrap_or (if b then Some e.1 else value_among sums t) zero))
    by true same =
        ap (λ o. of_both plus (Some (plus old e.1)) (Some (unwrap_or o zero))) (ap (value_among sums) ((same_term-Decides t e.0).0 same) ∙ alone)
        ∙ ap Some (plus-zero (plus old e.1))
        ∙ ap (λ o. of_both plus o (Some e.1)) (sym (ap (λ u. s.value u) ((same_term-Decides t e.0).0 same) ∙ is))
    by false other = refl

pub grown_says : (s : State) (sums : List (Term × Fraction)) → Fit s sums → GrownSays s sums (all_grown s sums)
grown_says s [] fit = (λ a. refl, λ t. sym (sum_zero (s.value t)))
grown_says s (e ∷ sums) fit = old (s.value e.0) refl fit.0 (λ t. grown_says t sums)
  where
    others : (v : Fraction) (r : Result State Lack) → s.value e.0 ≡ Some v → GrownSays (with_value s e.0 (plus v e.1)) sums r → GrownSays s (e ∷ sums) r
    others v (Ok after) is h = (h.0, λ t. h.1 t ∙ value_after s e sums v is fit.1 t)
    others v (Err Missing) is h = h
    others v (Err Wide) is h = tt

    new : (v : Fraction) (b : Bool) → s.value e.0 ≡ Some v → ((t : State) → Fit t sums → GrownSays t sums (all_grown t sums))
        → GrownSays s (e ∷ sums) (and_then (and_then (fitting b (plus v e.1)) (λ n. Ok (with_value s e.0 n))) (λ t. all_grown t sums))
    new v true is later =
        others v (all_grown (with_value s e.0 (plus v e.1)) sums) is (later (with_value s e.0 (plus v e.1)) (fit_stays s e.0 (plus v e.1) sums fit.2))
    new v false is later = tt

    old : (o : Option Fraction) → s.value e.0 ≡ o → is_some (s.value e.0) ≡ true → ((t : State) → Fit t sums → GrownSays t sums (all_grown t sums))
        → GrownSays s (e ∷ sums) (and_then (and_then (found o) (λ v. and_then (added v e.1) (λ n. Ok (with_value s e.0 n)))) (λ t. all_grown t sums))
    old None is there later = absurd (no_yes (sym there ∙ ap is_some is))
    old (Some v) is there later = new v (plus_fits v e.1) is later
