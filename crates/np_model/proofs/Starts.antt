-- The start of a task: its atoms, and its values with 0 for what the metric reads besides.
use Rattle.std.proofs.Common.{◌≡◌, ◌≢◌, ℕ, zero, suc, pos, ◌<◌, Bool, true, false, refl, sym, ◌∙◌, ap, subst, arith, List, [], ◌∷◌, ◌++◌, length, map, get_or, Option, Some, None}
use Rattle.std.specs.Prelude.{◌||◌, if◌then◌else◌, is_some}
use Rattle.std.specs.Option.{option_or}
use Rattle.std.specs.List.{list_any}
use Rattle.std.proofs.lemmas.List.{map-append}
use Rattle.std.proofs.lemmas.List.Quantifiers.{all_pairs_push}
use Rattle.std.proofs.lemmas.Option.{none-some}
use Rattle.np_frac.specs.Fractions.{Fraction, whole}
use Rattle.np_model.specs.declared.task.Atom.{Atom}
use Rattle.np_model.specs.declared.task.Term.{Term}
use Rattle.np_model.specs.declared.task.TaskParts.{TaskParts}
use Rattle.np_model.specs.Ground.{same_term, same_term-Decides}
use Rattle.np_model.specs.States.{is_among, value_among}
use Rattle.np_model.specs.Plans.{with_zeros, metric_terms, start_values, start_of}
use Rattle.np_model.specs.Tasks.{AreDistinct}
use Rattle.np_model.proofs.Lists.{value_append}

-- the atoms that are true at the start
pub start_has : (task : TaskParts) (a : Atom) → (start_of task).has a ≡ is_among task.atoms a
unfolding start_of
start_has task a = refl

-- the values at the start, as a list gives them
pub start_among : (task : TaskParts) (t : Term) → (start_of task).value t ≡ value_among (start_values task) t
unfolding start_of
start_among task t = refl

-- 0, where the flag is set
abbrev zero_if : Bool → Option Fraction
zero_if b = if b then Some (whole (pos 0)) else None

or_none : (o : Option Fraction) → o ≡ option_or o None
or_none None = refl
or_none (Some x) = refl

-- a term of those that zeros are given for, which has a value already
given : (b c : Bool) (o : Option Fraction) → (b ≡ true → is_some o ≡ true) → option_or o (zero_if c) ≡ option_or o (zero_if (b || c))
given true c None h = absurd (not_there (h refl))
  where
    not_there : false ≡ true → ⊥
    not_there e = cc
given true c (Some x) h = refl
given false c o h = refl

-- and one that has none yet
new : (b c : Bool) (o : Option Fraction) → option_or (option_or o (if b then Some (whole (pos 0)) else None)) (zero_if c) ≡ option_or o (zero_if (b || c))
new b c (Some x) = refl
new true c None = refl
new false c None = refl

-- the values with zeros: the term's value, or 0 where it is one of these terms
pub zeros_value : (values : List (Term × Fraction)) (ts : List Term) (t : Term)
    → value_among (with_zeros values ts) t ≡ option_or (value_among values t) (if list_any (same_term t) ts then Some (whole (pos 0)) else None)
zeros_value values [] t = or_none (value_among values t)
zeros_value values (u ∷ ts) t = by_there (value_among values u) refl (λ vs. zeros_value vs ts t)
  where
    by_there : (o : Option Fraction) → value_among values u ≡ o
        → ((vs : List (Term × Fraction)) → value_among (with_zeros vs ts) t ≡ option_or (value_among vs t) (zero_if (list_any (same_term t) ts)))
        → value_among (with_zeros (if is_some o then values else values ++ (u, whole (pos 0)) ∷ []) ts) t ≡ option_or (value_among values t) (zero_if (same_term t u || list_any (same_term t) ts))
    by_there (Some x) e later = later values ∙ given (same_term t u) _ (value_among values t) (λ same. ap is_some (ap (value_among values) ((same_term-Decides t u).0 same) ∙ e))
    by_there None e later =
        later (values ++ (u, whole (pos 0)) ∷ []) ∙ ap (λ o. option_or o (zero_if (list_any (same_term t) ts))) (value_append values ((u, whole (pos 0)) ∷ []) t)
        ∙ new (same_term t u) (list_any (same_term t) ts) (value_among values t)

-- the values at the start: the task's, and 0 for what the metric reads besides
pub start_value : (task : TaskParts) (t : Term)
    → (start_of task).value t ≡ option_or (value_among task.values t) (if list_any (same_term t) (metric_terms task) then Some (whole (pos 0)) else None)
start_value task t = start_among task t ∙ zeros_value task.values (metric_terms task) t

-- what a list gives no value isn't among its terms
absent : (values : List (Term × Fraction)) (t : Term) → value_among values t ≡ None → (k : ℕ) (d : Term) → k < length (map (λ v. v.0) values) → get_or (map (λ v. v.0) values) k d ≢ t
absent [] t e k d less same = absurd (omega arith)
absent (v ∷ values) t e k d less same = by (same_term t v.0) refl (λ g. absent values t g) k less same e
  where
    by : (b : Bool) → same_term t v.0 ≡ b → (value_among values t ≡ None → (k : ℕ) (d : Term) → k < length (map (λ v. v.0) values) → get_or (map (λ v. v.0) values) k d ≢ t)
        → (k : ℕ) → k < length (map (λ v. v.0) (v ∷ values)) → get_or (map (λ v. v.0) (v ∷ values)) k d ≡ t → (if b then Some v.1 else value_among values t) ≡ None → ⊥
    by true is later k less same e = none-some v.1 (sym e)
    by false is later zero less same e = not_same (sym ((same_term-Decides t v.0).1 (sym same)) ∙ is)
      where
        not_same : true ≡ false → ⊥
        not_same h = cc
    by false is later (suc k) less same e = later e k d (omega arith) same

-- no term has two values among the values with zeros, where none has two among the values
pub zeros_distinct : (values : List (Term × Fraction)) (ts : List Term) → AreDistinct (map (λ v. v.0) values) → AreDistinct (map (λ v. v.0) (with_zeros values ts))
zeros_distinct values [] distinct = distinct
zeros_distinct values (t ∷ ts) distinct = by (value_among values t) refl (λ vs. zeros_distinct vs ts)
  where
    by : (o : Option Fraction) → value_among values t ≡ o
        → ((vs : List (Term × Fraction)) → AreDistinct (map (λ v. v.0) vs) → AreDistinct (map (λ v. v.0) (with_zeros vs ts)))
        → AreDistinct (map (λ v. v.0) (with_zeros (if is_some o then values else values ++ (t, whole (pos 0)) ∷ []) ts))
    by (Some x) e later = later values distinct
    by None e later =
        later (values ++ (t, whole (pos 0)) ∷ [])
        (subst AreDistinct (sym (map-append (λ (v : Term × Fraction). v.0) values ((t, whole (pos 0)) ∷ [])))
        (all_pairs_push (λ x y. x ≢ y) (map (λ v. v.0) values) t distinct (λ k d less. absent values t e k d less)))
