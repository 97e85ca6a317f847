-- Terms of the metric that are given the value 0.
use Rattle.std.proofs.Common.{◌≡◌, ℕ, suc, ◌<◌, pos, Bool, true, false, cond, refl, sym, ◌∙◌, ap, List, [], ◌∷◌, ◌++◌, drop, length, Option, Some, None, true≢false}
use Rattle.std.specs.Borrow.{Bor}
use Rattle.std.specs.Prelude.{◌||◌, ◌&&◌, not, if◌then◌else◌, is_some, slice_index_or}
use Rattle.std.specs.HashSet.{HashSet, contains}
use Rattle.std.specs.Option.{option_or}
use Rattle.np_frac.specs.Fractions.{Fraction, whole}
use Rattle.np_model.specs.declared.task.Term.{Term}
use Rattle.np_model.specs.Ground.{same_term, same_term-Decides}
use Rattle.np_model.specs.States.{value_among}
use Rattle.np_model.specs.Plans.{with_zeros}
use Rattle.np_model.proofs.Lists.{value_append}
use Rattle.np_model.proofs.LookUps.{same_term_swapped}
use Rattle.np_linear.proofs.Places.{drop_at}

-- a term that has no value and one that has
zeros_new : (all : List (Term × Fraction)) (t : Term) (ts : List Term) (a b : Bool) → is_some (value_among all t) ≡ (a || b) → (not a && not b) ≡ true
    → with_zeros all (t ∷ ts) ≡ with_zeros (all ++ (t, whole (pos 0)) ∷ []) ts
zeros_new all t ts true b e new = absurd (true≢false (sym new))
zeros_new all t ts false true e new = absurd (true≢false (sym new))
zeros_new all t ts false false e new = ap (λ c. with_zeros (if c then all else all ++ (t, whole (pos 0)) ∷ []) ts) e

met_before : (a b : Bool) → (not a && not b) ≡ false → (a || b) ≡ true
met_before true b e = refl
met_before false true e = refl
met_before false false e = absurd (true≢false e)

zeros_old : (all : List (Term × Fraction)) (t : Term) (ts : List Term) (a b : Bool) → is_some (value_among all t) ≡ (a || b) → (not a && not b) ≡ false
    → with_zeros all (t ∷ ts) ≡ with_zeros all ts
zeros_old all t ts a b e old = ap (λ c. with_zeros (if c then all else all ++ (t, whole (pos 0)) ∷ []) ts) (e ∙ met_before a b old)

-- what has a value after one more is given 0
has_more : (all : List (Term × Fraction)) (t q : Term) (x : Fraction) → is_some (value_among (all ++ (t, x) ∷ []) q) ≡ (is_some (value_among all q) || same_term q t)
has_more all t q x = ap is_some (value_append all ((t, x) ∷ []) q) ∙ by (value_among all q) (same_term q t)
  where
    by : (o : Option Fraction) (b : Bool) → is_some (option_or o (if b then Some x else None)) ≡ (is_some o || b)
    by (Some y) b = refl
    by None true = refl
    by None false = refl

-- a test of terms that passes for one passes for the same one
or_same : (P : Term → Bool) (t q : Term) → P t ≡ true → P q ≡ (P q || same_term q t)
or_same P t q e = by (same_term q t) refl
  where
    or_false : (b : Bool) → b ≡ (b || false)
    or_false true = refl
    or_false false = refl

    by : (b : Bool) → same_term q t ≡ b → P q ≡ (P q || b)
    by true same =
        let is = ap P ((same_term-Decides q t).0 same) ∙ e in
        is ∙ sym (ap (λ c. c || true) is)
    by false other = or_false (P q)

-- what has a value already stays so
has_same : (all : List (Term × Fraction)) (t q : Term) (a b : Bool) → is_some (value_among all t) ≡ (a || b) → (not a && not b) ≡ false
    → is_some (value_among all q) ≡ (is_some (value_among all q) || same_term q t)
has_same all t q a b e old = or_same (λ u. is_some (value_among all u)) t q (e ∙ met_before a b old)

-- a term that has a value isn't put
pub given_met : (values : List (Term × Fraction)) (t q : Term) (met : Bool) → is_some (value_among values t) ≡ true
    → (is_some (value_among values q) || met) ≡ ((is_some (value_among values q) || met) || same_term q t)
given_met values t q met e = by (is_some (value_among values q)) (same_term q t) met (or_same (λ u. is_some (value_among values u)) t q e)
  where
    by : (a s m : Bool) → a ≡ (a || s) → (a || m) ≡ ((a || m) || s)
    by true s m e = refl
    by false true m e = absurd (true≢false (sym e))
    by false false true e = refl
    by false false false e = refl

-- another one is put to those that were met
pub put_met : (t q : Term) (a old new : Bool) → new ≡ cond (same_term t q) true old → (a || new) ≡ ((a || old) || same_term q t)
put_met t q a old new e = ap (λ b. a || b) (e ∙ ap (λ s. cond s true old) (same_term_swapped t q)) ∙ by a old (same_term q t)
  where
    by : (a o s : Bool) → (a || cond s true o) ≡ ((a || o) || s)
    by true o s = refl
    by false true true = refl
    by false true false = refl
    by false false true = refl
    by false false false = refl

-- whether a term was met
abbrev pub was_met : {S : Type 0} → HashSet (Bor Term) S → Bor Term → Bool
was_met met q = contains (λ x y. same_term x.now y.now) met q

-- one more term is met, and given 0 where it is new
pub zeros_more : {S : Type 0} (values all after : List (Term × Fraction)) (terms : List Term) (i : ℕ) (old new : HashSet (Bor Term) S) (q : Bor Term) (is_new : Bool)
    → i < length terms → q.now ≡ slice_index_or terms i q.now
    → with_zeros values terms ≡ with_zeros all (drop i terms)
    → ((p : Bor Term) → is_some (value_among all p.now) ≡ (is_some (value_among values p.now) || was_met old p))
    → is_new ≡ (not (is_some (value_among values q.now)) && not (was_met old q))
    → ((p : Bor Term) → (is_some (value_among values p.now) || was_met new p) ≡ ((is_some (value_among values p.now) || was_met old p) || same_term p.now q.now))
    → after ≡ (if is_new then all ++ (q.now, whole (pos 0)) ∷ [] else all)
    → (with_zeros values terms ≡ with_zeros after (drop (suc i) terms))
    × ((p : Bor Term) → is_some (value_among after p.now) ≡ (is_some (value_among values p.now) || was_met new p))
zeros_more values all after terms i old new q is_new h at so_far has new_is met after_is = by is_new refl
  where
    after_by : (b : Bool) → is_new ≡ b → after ≡ (if b then all ++ (q.now, whole (pos 0)) ∷ [] else all)
    after_by b e = after_is ∙ ap (λ c. if c then all ++ (q.now, whole (pos 0)) ∷ [] else all) e

    by : (b : Bool) → is_new ≡ b → (with_zeros values terms ≡ with_zeros after (drop (suc i) terms)) × ((p : Bor Term) → is_some (value_among after p.now) ≡ (is_some (value_among values p.now) || was_met new p))
    by true e = (
      so_far ∙ ap (with_zeros all) (drop_at terms i q.now h at)
          ∙ zeros_new all q.now (drop (suc i) terms) (is_some (value_among values q.now)) (was_met old q) (has q) (sym new_is ∙ e)
          ∙ ap (λ xs. with_zeros xs (drop (suc i) terms)) (sym (after_by true e)),
      λ p. ap (λ xs. is_some (value_among xs p.now)) (after_by true e) ∙ has_more all q.now p.now (whole (pos 0)) ∙ ap (λ b. b || same_term p.now q.now) (has p) ∙ sym (met p),
    )
    by false e = (
      so_far ∙ ap (with_zeros all) (drop_at terms i q.now h at)
          ∙ zeros_old all q.now (drop (suc i) terms) (is_some (value_among values q.now)) (was_met old q) (has q) (sym new_is ∙ e)
          ∙ ap (λ xs. with_zeros xs (drop (suc i) terms)) (sym (after_by false e)),
      λ p. ap (λ xs. is_some (value_among xs p.now)) (after_by false e) ∙ has_same all q.now p.now (is_some (value_among values q.now)) (was_met old q) (has q) (sym new_is ∙ e)
          ∙ ap (λ b. b || same_term p.now q.now) (has p) ∙ sym (met p),
    )
