-- A task with a metric: `inc` adds 3 to x and costs 2, `dec` takes 1 from x where x >= 1 and costs 1; the goal is x = 4.
-- The cost c is given no value, so it is 0 at the start.
use Rattle.std.proofs.Common.{◌≡◌, ℕ, ℤ, pos, negsuc, ◌+ℤ◌, Bool, true, false, refl, ◌∙◌, ap, arith, List, [], ◌∷◌, map}
use Rattle.std.specs.Prelude.{Some, None, codes, if◌then◌else◌}
use Rattle.std.specs.Ordering.{is_ge, int_cmp}
use Rattle.np_frac.specs.Fractions.{whole, plus}
use Rattle.np_frac.specs.Field.{int, sum, rest, field, plus_left_zero, whole_plus, whole_minus}
use Rattle.np_frac.specs.Order.{whole_cmp}
use Rattle.np_model.specs.declared.task.Op.TheVariants.{AtLeast, Equal}
use Rattle.np_model.specs.declared.task.Term.{Term}
use Rattle.np_model.specs.declared.task.Sum.TheVariants as expr
use Rattle.np_model.specs.declared.task.Cond.TheVariants as cond
use Rattle.np_model.specs.declared.task.Eff.{Eff}
use Rattle.np_model.specs.declared.task.Eff.TheVariants as eff
use Rattle.np_model.specs.declared.task.Step.{Step}
use Rattle.np_model.specs.declared.task.TaskParts.{TaskParts}
use Rattle.np_model.specs.Ground.{same_term, same_term-Decides}
use Rattle.np_model.specs.States.{State, value_among}
use Rattle.np_model.specs.Values.{of_both, sum_of, terms_from}
use Rattle.np_model.specs.Steps.{amount_of, next}
use Rattle.np_model.specs.Plans.{start_of, run_from, IsPlan}
use Rattle.np_model.proofs.Same.{same_state}
use Rattle.np_model.proofs.Expressions.{fold-Value, value_of-Number, value_of-Value}

-- the terms x and c
abbrev pub x : Term
x = record { function = 0; objects = [] }

abbrev pub c : Term
c = record { function = 1; objects = [] }

-- an effect that adds this number to the value of a function without parameters, or takes it from it
abbrev pub changed : Bool → ℕ → ℕ → Eff
changed up function n = eff.Change up function [] (expr.Number (whole (pos n)))

abbrev pub counter : TaskParts
counter = record {
  types = record { name = codes "object"; parent = 0 } ∷ [];
  objects = [];
  predicates = [];
  functions = record { name = codes "x"; parameters = []; fixed = false } ∷ record { name = codes "c"; parameters = []; fixed = false } ∷ [];
  actions =
      record { name = codes "inc"; parameters = []; needs = []; effects = changed true 0 3 ∷ changed true 1 2 ∷ [] }
      ∷ record {
        name = codes "dec";
        parameters = [];
        needs = cond.Compare AtLeast (expr.Value 0 []) (expr.Number (whole (pos 1))) ∷ [];
        effects = changed false 0 1 ∷ changed true 1 1 ∷ [];
      } ∷ [];
  atoms = [];
  values = (record { function = 0; objects = [] }, whole (pos 0)) ∷ [];
  goal = cond.Compare Equal (expr.Value 0 []) (expr.Number (whole (pos 4))) ∷ [];
  metric = Some (expr.Value 1 []);
}

abbrev pub inc : Step
inc = record { action = 0; objects = [] }

abbrev pub dec : Step
dec = record { action = 1; objects = [] }

-- the state in which x and c have these values
abbrev pub at : ℤ → ℤ → State
at n m = record { has = λ _. false; value = value_among ((x, whole n) ∷ (c, whole m) ∷ []) }

-- no term is x and c
one_of : (t : Term) → same_term t x ≡ true → same_term t c ≡ false
one_of t e = ap (λ u. same_term u c) ((same_term-Decides t x).0 e)

-- the sum of a value and one amount
added : (n k : ℤ) → plus (whole n) (plus (whole (pos 0)) (whole k)) ≡ whole (n +ℤ k)
added n k = ap (plus (whole n)) (plus_left_zero (whole k)) ∙ whole_plus n k

-- the values after two effects, of which the first changes x by k and the second c by l
values_after : (s : State) (first second : Eff) (n m k l : ℤ) (is_x is_c : Bool) → amount_of [] s first ≡ Some (whole k) → amount_of [] s second ≡ Some (whole l) → (is_x ≡ true → is_c ≡ false)
    → of_both plus (if is_x then Some (whole n) else if is_c then Some (whole m) else None) (sum_of (map (amount_of [] s) (if is_x then first ∷ (if is_c then second ∷ [] else []) else (if is_c then second ∷ [] else []))))
    ≡ (if is_x then Some (whole (n +ℤ k)) else if is_c then Some (whole (m +ℤ l)) else None)
values_after s first second n m k l true true e f g = absurd (Bool_clash (g refl))
  where
    Bool_clash : true ≡ false → ⊥
    Bool_clash h = cc
values_after s first second n m k l true false e f g = rw e (ap Some (added n k))
values_after s first second n m k l false true e f g = rw f (ap Some (added m l))
values_after s first second n m k l false false e f g = refl

-- what an effect adds
raised : (s : State) (function n : ℕ) → amount_of [] s (changed true function n) ≡ Some (whole (pos n))
raised s function n = value_of-Number [] s (whole (pos n))

lowered : (s : State) → amount_of [] s (changed false 0 1) ≡ Some (whole (negsuc 0))
lowered s = rw (value_of-Number [] s (whole (pos 1))) (ap Some (whole_minus (pos 0) (pos 1)))

-- inc adds 3 to x and 2 to c
pub next_inc : (n m : ℤ) → next counter inc (at n m) ≡ Some (at (n +ℤ pos 3) (m +ℤ pos 2))
unfolding next
next_inc n m =
    let s : State = at n m in
    rw (value_of-Number [] s (whole (pos 3)), value_of-Number [] s (whole (pos 2)))
    (ap Some (same_state _ _ (λ a. refl) (λ t. values_after s (changed true 0 3) (changed true 1 2) n m (pos 3) (pos 2) (same_term t x) (same_term t c) (raised s 0 3) (raised s 1 2) (one_of t))))

-- dec takes 1 from x, where x is at least 1, and adds 1 to c
pub next_dec : (n m : ℤ) → is_ge (int_cmp n (pos 1)) ≡ true → next counter dec (at n m) ≡ Some (at (n +ℤ negsuc 0) (m +ℤ pos 1))
unfolding next
next_dec n m h =
    let s : State = at n m in
    rw (value_of-Value [] s 0 [], value_of-Number [] s (whole (pos 1)), whole_cmp n (pos 1), h)
    (ap Some (same_state _ _ (λ a. refl) (λ t. values_after s (changed false 0 1) (changed true 1 1) n m (negsuc 0) (pos 1) (same_term t x) (same_term t c) (lowered s) (raised s 1 1) (one_of t))))

-- dec isn't applicable where x is less
pub no_dec : (n m : ℤ) → is_ge (int_cmp n (pos 1)) ≡ false → next counter dec (at n m) ≡ None
unfolding next
no_dec n m h =
    let s : State = at n m in
    rw (value_of-Value [] s 0 [], value_of-Number [] s (whole (pos 1)), whole_cmp n (pos 1), h) refl

-- x and c are 0 at the start
pub starts_at : start_of counter ≡ at (pos 0) (pos 0)
unfolding start_of
starts_at = same_state _ _ (λ a. refl) (λ t. rw (fold-Value (List Term) terms_from 1 []) refl)

-- inc, inc, dec, dec is a plan of cost 6
pub plan_of_four : IsPlan counter (inc ∷ inc ∷ dec ∷ dec ∷ []) (whole (pos 6))
plan_of_four = record {
  end = at (pos 4) (pos 6);
  runs = rw (starts_at, next_inc (pos 0) (pos 0), next_inc (pos 3) (pos 2), next_dec (pos 6) (pos 4) refl, next_dec (pos 5) (pos 5) refl) refl;
  goal = rw (value_of-Value [] (at (pos 4) (pos 6)) 0 [], value_of-Number [] (at (pos 4) (pos 6)) (whole (pos 4)), whole_cmp (pos 4) (pos 4)) refl;
  costs =
      rw (starts_at, next_inc (pos 0) (pos 0), next_inc (pos 3) (pos 2), next_dec (pos 6) (pos 4) refl, next_dec (pos 5) (pos 5) refl)
      (rw (value_of-Value [] (at (pos 0) (pos 0)) 1 [], value_of-Value [] (at (pos 3) (pos 2)) 1 [], value_of-Value [] (at (pos 6) (pos 4)) 1 [], value_of-Value [] (at (pos 5) (pos 5)) 1 [], value_of-Value [] (at (pos 4) (pos 6)) 1 [])
      (ap Some (field (sum (rest (int (pos 2)) (int (pos 0))) (sum (rest (int (pos 4)) (int (pos 2))) (sum (rest (int (pos 5)) (int (pos 4))) (sum (rest (int (pos 6)) (int (pos 5))) (int (pos 0)))))) (int (pos 6)) (omega arith))));
}

-- dec alone is no run, since x is 0 at the start
pub dec_alone_is_none : run_from counter (dec ∷ []) (start_of counter) ≡ None
dec_alone_is_none = rw (starts_at, no_dec (pos 0) (pos 0) refl) refl
