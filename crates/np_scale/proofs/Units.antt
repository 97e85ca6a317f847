-- The loops that compute a unit: a least common multiple taken further by the numbers of each item.
use Rattle.std.proofs.Common.{◌≡◌, ℕ, ◌+◌, ◌<◌, ◌≤◌, Bool, true, false, refl, sym, ◌∙◌, ap, subst, lit<, List, [], ◌∷◌, ◌++◌, length, map, drop, get_or, Some, None, fold}
use Rattle.std.specs.Prelude.{filter, if◌then◌else◌}
use Rattle.std.specs.Borrow.{Bor}
use Rattle.std.specs.List.{list_any, flat_map, AllByRecursion}
use Rattle.std.proofs.lemmas.Bool.{lt-ltb}
use Rattle.std.proofs.lemmas.List.{drop_more, drop_all, map-append}
use Rattle.std.proofs.lemmas.List.Sums.{fold-append}
use Rattle.np_frac.specs.Fractions.{Fraction}
use Rattle.np_model.specs.declared.task.Term.{Term}
use Rattle.np_model.specs.Ground.{same_term}
use Rattle.np_bind.specs.declared.bound.BoundStep.{BoundStep}
use Rattle.np_bind.specs.Grounding.{number_on}
use Rattle.np_scale.specs.Wholes.{lcm, lcm_of}
use Rattle.np_scale.specs.Code.{below, pointed, dens, changes_on, unit_for}
use Rattle.np_scale.proofs.Every.{each_append}
use Rattle.np_scale.proofs.Scaled.{below_is, stays_past, fold_above, dens_above}

module _ {C : Type 0} (f : C → List ℕ) (some : (x : C) → AllByRecursion (λ n. 0 < n) (f x)) (limit : ℕ) where
  all_above : (xs : List C) → AllByRecursion (λ n. 0 < n) (flat_map f xs)
  all_above [] = tt
  all_above (x ∷ xs) = each_append (λ n. 0 < n) (f x) (flat_map f xs) (some x) (all_above xs)

  -- the numbers of the items that are left
  left : (xs : List C) (i : ℕ) (x : C) (m : ℕ) → i < length xs → x ≡ get_or xs i x → fold lcm m (flat_map f (drop i xs)) ≡ fold lcm (fold lcm m (f x)) (flat_map f (drop (i + 1) xs))
  left xs i x m within at =
      ap (λ ys. fold lcm m (flat_map f ys)) (drop_more xs i x within)
      ∙ ap (λ y. fold lcm m (f y ++ flat_map f (drop (i + 1) xs))) (sym at)
      ∙ fold-append lcm m (f x) (flat_map f (drop (i + 1) xs))

  -- with the numbers of one more item
  pub unit_more : (xs : List C) (i : ℕ) (x : C) (m next all : ℕ) → i < length xs → x ≡ get_or xs i x → fold lcm m (flat_map f (drop i xs)) ≡ all
      → Some next ≡ below limit (fold lcm m (f x)) → fold lcm next (flat_map f (drop (i + 1) xs)) ≡ all
  unit_more xs i x m next all within at before e =
      ap (λ k. fold lcm k (flat_map f (drop (i + 1) xs))) (below_is limit (fold lcm m (f x)) next e).0 ∙ sym (left xs i x m within at) ∙ before

  pub unit_above : (x : C) (m next : ℕ) → 0 < m → Some next ≡ below limit (fold lcm m (f x)) → 0 < next
  unit_above x m next h e = subst (λ (n : ℕ). 0 < n) (sym (below_is limit (fold lcm m (f x)) next e).0) (fold_above m (f x) h (some x))

  pub unit_within : (x : C) (m next : ℕ) → Some next ≡ below limit (fold lcm m (f x)) → next < limit
  unit_within x m next e = (below_is limit (fold lcm m (f x)) next e).1

  -- an item that takes it past the limit
  pub unit_past : (xs : List C) (i : ℕ) (x : C) (m all : ℕ) → i < length xs → x ≡ get_or xs i x → 0 < m → fold lcm m (flat_map f (drop i xs)) ≡ all
      → None ≡ below limit (fold lcm m (f x)) → None ≡ below limit all
  unit_past xs i x m all within at h before e =
      sym (stays_past limit (fold lcm m (f x)) (flat_map f (drop (i + 1) xs)) (fold_above m (f x) h (some x)) (all_above (drop (i + 1) xs)) (sym e))
      ∙ ap (below limit) (sym (left xs i x m within at) ∙ before)

  -- what comes before the items is past the limit
  pub unit_past_before : (xs : List C) (m : ℕ) → 0 < m → None ≡ below limit m → None ≡ below limit (fold lcm m (flat_map f xs))
  unit_past_before xs m h e = sym (stays_past limit m (flat_map f xs) h (all_above xs) (sym e))

  -- after all items
  pub unit_all : (xs : List C) (i m all : ℕ) → length xs ≤ i → m < limit → fold lcm m (flat_map f (drop i xs)) ≡ all → Some m ≡ below limit all
  unit_all xs i m all past within before =
      let same : m ≡ all = sym (ap (λ ys. fold lcm m (flat_map f ys)) (drop_all i xs past)) ∙ before in
      ap Some same ∙ rw (lt-ltb all limit (subst (λ (n : ℕ). n < limit) same within)) refl

-- ---- start values

-- the denominator of the start value of a term
abbrev pub start_dens : List (Term × Fraction) → Bor Term → List ℕ
start_dens starts r = (number_on starts r.now).den ∷ []

pub start_above : (starts : List (Term × Fraction)) (r : Bor Term) → AllByRecursion (λ n. 0 < n) (start_dens starts r)
start_above starts r = dens_above (number_on starts r.now ∷ [])

pub starts_flat : (starts : List (Term × Fraction)) (refs : List (Bor Term)) → flat_map (start_dens starts) refs ≡ dens (map (number_on starts) (pointed refs))
starts_flat starts [] = refl
starts_flat starts (r ∷ rs) = ap (λ ns. (number_on starts r.now).den ∷ ns) (starts_flat starts rs)

-- ---- changes

-- the denominator of a change on a value
abbrev pub change_dens : List Term → Term × Fraction → List ℕ
change_dens terms c = dens (changes_on terms (c ∷ []))

pub change_above : (terms : List Term) (c : Term × Fraction) → AllByRecursion (λ n. 0 < n) (change_dens terms c)
change_above terms c = dens_above (changes_on terms (c ∷ []))

pub changes_flat : (terms : List Term) (cs : List (Term × Fraction)) → flat_map (change_dens terms) cs ≡ dens (changes_on terms cs)
changes_flat terms [] = refl
changes_flat terms (c ∷ cs) = by (list_any (same_term c.0) terms) (changes_flat terms cs)
  where
    by : (b : Bool) → flat_map (change_dens terms) cs ≡ dens (changes_on terms cs)
        → dens (map (λ x. x.1) (if b then c ∷ [] else [])) ++ flat_map (change_dens terms) cs ≡ dens (map (λ x. x.1) (if b then c ∷ filter (λ x. list_any (same_term x.0) terms) cs else filter (λ x. list_any (same_term x.0) terms) cs))
    by true e = ap (λ ns. c.1.den ∷ ns) e
    by false e = e

-- ---- steps

-- the denominators of the changes of a step on values
abbrev pub step_dens : List Term → BoundStep → List ℕ
step_dens terms b = dens (changes_on terms b.changes)

pub step_above : (terms : List Term) (b : BoundStep) → AllByRecursion (λ n. 0 < n) (step_dens terms b)
step_above terms b = dens_above (changes_on terms b.changes)

steps_flat : (terms : List Term) (bs : List BoundStep) → dens (flat_map (λ b. changes_on terms b.changes) bs) ≡ flat_map (step_dens terms) bs
steps_flat terms [] = refl
steps_flat terms (b ∷ bs) =
    map-append (λ (x : Fraction). x.den) (changes_on terms b.changes) (flat_map (λ b. changes_on terms b.changes) bs) ∙ ap (λ ns. step_dens terms b ++ ns) (steps_flat terms bs)

-- the unit is that of the start values, taken further by the steps
pub unit_parts : (terms : List Term) (values : List (Term × Fraction)) (bs : List BoundStep)
    → fold lcm (fold lcm 1 (dens (map (number_on values) terms))) (flat_map (step_dens terms) bs) ≡ unit_for terms values bs
unit_parts terms values bs =
    sym (ap lcm_of (map-append (λ (x : Fraction). x.den) (map (number_on values) terms) (flat_map (λ b. changes_on terms b.changes) bs))
    ∙ fold-append lcm 1 (dens (map (number_on values) terms)) (dens (flat_map (λ b. changes_on terms b.changes) bs))
    ∙ ap (fold lcm (fold lcm 1 (dens (map (number_on values) terms)))) (steps_flat terms bs))

-- that of the start values is above 0
pub starts_above : (terms : List Term) (values : List (Term × Fraction)) → 0 < fold lcm 1 (dens (map (number_on values) terms))
starts_above terms values = fold_above 1 (dens (map (number_on values) terms)) (lit< tt) (dens_above (map (number_on values) terms))
