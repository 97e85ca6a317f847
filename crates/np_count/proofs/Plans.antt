-- What a row, and a proof, says of every plan: by induction on the plan, since a row's right side falls by no more than the step's coefficient.
use Rattle.std.proofs.Common.{◌≡◌, ℕ, zero, suc, ◌+◌, ◌-◌, ◌*◌, ◌/◌, ◌^◌, ◌<◌, ◌≤◌, ℤ, pos, negsuc, ◌+ℤ◌, ◌*ℤ◌, Bool, true, false, ◌&&◌, eqb, List, [], ◌∷◌, length, get_or, refl, sym, ap, ◌∙◌, subst, inl, inr, arith, Option, Some, None, cond}
use Rattle.std.specs.Prelude.{◌≤ℤ◌, int_le, int_lt, slice_get, nat_lt}
use Rattle.std.specs.List.{list_all}
use Rattle.std.specs.Option.{option_map_or}
use Rattle.std.proofs.lemmas.Int.{ints}
use Rattle.std.proofs.lemmas.Bool.{and_parts, cases_Bool, cases_lt, false≢true, eqb-true, eqb-false}
use Rattle.std.proofs.lemmas.Option.{same_Some, option_and_then_some, cond_some, slice_get_within, get_or_from_slice_get, slice_get-get_or}
use Rattle.std.proofs.Math.Nat.{mul-div-le}
use borrow.Author.Differences.{up, down}
use Rattle.np_flat.specs.declared.state.FlatState.{FlatState}
use Rattle.np_flat.specs.declared.parts.Form.{Form}
use Rattle.np_flat.specs.declared.parts.FlatStep.{FlatStep}
use Rattle.np_flat.specs.declared.parts.Parts.{Parts}
use Rattle.np_flat.specs.Flats.{IsStep, IsFlat, IsStateOf}
use Rattle.np_flat.specs.States.{meets, state_after, next, is_goal}
use Rattle.np_flat.specs.Plans.{cost_of, cost_sum, run_from}
use Rattle.np_flat.proofs.Steps.{state_of_after}
use Rattle.np_count.specs.declared.proof.Row.{Row}
use Rattle.np_count.specs.declared.proof.Row.TheVariants as row
use Rattle.np_count.specs.declared.proof.Proof.{Proof}
use Rattle.np_space.specs.Bounds.{IsAtMostCost}
use Rattle.np_space.specs.declared.bound.Bound.{Bound}
use Rattle.np_space.specs.declared.bound.Bound.TheVariants as bound
use Rattle.np_flat.specs.Achieving.{form_at}
use Rattle.np_count.specs.Rows.{coefficient, right, is_guarded, is_allowed, counted}
use Rattle.np_count.specs.Bounds.{weighted, fits, with_item, added_up, pays, is_small, is_item, at_least_0, bound_below, bound_of, IsPriced, RowsHold, ProofsBound, WeightsHold, WeightsFall, ProofsPrice}
use Rattle.np_flat.proofs.NetChanges.{product}
use Rattle.np_count.proofs.Keeps.{fits_step, row_falls, row_ends}

all_at : {X : Type 0} (f : X → Bool) (xs : List X) (n : ℕ) (x : X) → list_all f xs ≡ true → slice_get xs n ≡ Some x → f x ≡ true
all_at f [] n x all e = absurd (none_some e)
  where
    none_some : {X : Type 0} {y : X} → None ≡ Some y → ⊥
    none_some h = cc
all_at f (y ∷ ys) zero x all e = subst (λ z. f z ≡ true) (same_Some y x e) (and_parts (f y) (list_all f ys) all).0
all_at f (y ∷ ys) (suc n) x all e = all_at f ys n x (and_parts (f y) (list_all f ys) all).1 e

-- ---- one step

-- a step of a run: it is one of the task's, its needs hold, and it leads to a state of the task
pub record IsTaken (task : Parts) (n : ℕ) (s t : FlatState) : Type 0 where
  pub step : FlatStep
  pub at : slice_get task.steps n ≡ Some step
  pub of : IsStep (length task.facts) (length task.values) (length task.subgoals) step
  pub met : meets task s step ≡ true
  pub leads : state_after step s ≡ t
  pub state : IsStateOf task t

taken : (task : Parts) (n : ℕ) (s t : FlatState) → IsFlat task → IsStateOf task s → next task n s ≡ Some t → IsTaken task n s t
taken task n s t flat here e =
    option_and_then_some _ (slice_get task.steps n) t e
    (λ step at made.
    let parts = cond_some (meets task s step) (state_after step s) t made in
    let within : n < length task.steps = slice_get_within task.steps n step at in
    let of : IsStep (length task.facts) (length task.values) (length task.subgoals) step =
    subst (IsStep (length task.facts) (length task.values) (length task.subgoals)) (get_or_from_slice_get task.steps n step step at) (flat.steps n step within) in
    record {
      step = step;
      at = at;
      of = of;
      met = parts.0;
      leads = parts.1;
      state = subst (IsStateOf task) parts.1 (state_of_after (length task.facts) (length task.values) (length task.subgoals) step s of here);
    })

allowed_fits : (task : Parts) (n : ℕ) (step : FlatStep) (r : Row) → slice_get task.steps n ≡ Some step → is_allowed task r ≡ true → fits_step task step r ≡ true
unfolding fits_step
allowed_fits task n step (row.Demand q) at allowed = refl
allowed_fits task n step (row.Flow p) at allowed = refl
allowed_fits task n step (row.FlowNot p) at allowed = refl
allowed_fits task n step (row.Floor q m) at allowed = guarded (form_at task q) allowed
  where
    guarded : (o : Option Form) → option_map_or (λ form. list_all (is_guarded task form m) task.steps) o false ≡ true → option_map_or (λ form. is_guarded task form m step) o false ≡ true
    guarded (Some form) all = all_at (is_guarded task form m) task.steps n step all at
    guarded None all = absurd (false≢true all)
allowed_fits task n step (row.Cut us) at allowed = refl

-- a row's right side falls by no more than the coefficient of the step
pub falls_at : (task : Parts) (n : ℕ) (s t : FlatState) (r : Row) (k : IsTaken task n s t) → IsStateOf task s → is_allowed task r ≡ true → right task s r ≤ℤ (coefficient task k.step r +ℤ right task t r)
falls_at task n s t r k here allowed =
    subst (λ u. right task s r ≤ℤ (coefficient task k.step r +ℤ right task u r)) k.leads
    (row_falls task (length task.facts) (length task.values) (length task.subgoals) k.step s r k.of here.count k.met (allowed_fits task n k.step r k.at allowed))

-- ---- one row

chained : (a c b d : ℤ) → a ≤ℤ (c +ℤ b) → b ≤ℤ d → a ≤ℤ (c +ℤ d)
chained a c b d h g = omega (arith, ints)

row_from : (task : Parts) (r : Row) (numbers : List ℕ) (s end : FlatState) → IsFlat task → IsStateOf task s → is_allowed task r ≡ true → run_from task numbers s ≡ Some end → is_goal task end ≡ true → right task s r ≤ℤ counted task r numbers
row_from task r [] s end flat here allowed runs goal = row_ends task s r allowed (subst (λ u. is_goal task u ≡ true) (sym (same_Some s end runs)) goal)
row_from task r (n ∷ ns) s end flat here allowed runs goal =
    option_and_then_some (run_from task ns) (next task n s) end runs
    (λ t first rest.
    let k = taken task n s t flat here first in
    rw (k.at) (chained (right task s r) (coefficient task k.step r) (right task t r) (counted task r ns) (falls_at task n s t r k here allowed) (row_from task r ns t end flat k.state allowed rest goal)))

pub rows_hold : RowsHold
rows_hold task r s numbers flat here allowed leads = row_from task r numbers s leads.end flat here allowed leads.runs leads.goal

-- ---- weighted rows

sum_le : (a b c : ℤ) → a ≤ℤ (b +ℤ c) → up a + (down b + down c) ≤ down a + (up b + up c)
sum_le a b c h = omega (arith, ints)

le_times : (w a b : ℕ) → a ≤ b → w * a ≤ w * b
le_times w a b h = grind arith

scaled_le : (w : ℕ) (a b c : ℤ) → a ≤ℤ (b +ℤ c) → (pos w *ℤ a) ≤ℤ ((pos w *ℤ b) +ℤ (pos w *ℤ c))
scaled_le w a b c h =
    let more = le_times w (up a + (down b + down c)) (down a + (up b + up c)) (sum_le a b c h) in
    omega (arith, ints, more, product (pos w) a, product (pos w) b, product (pos w) c)

added_le : (a b c x y z : ℤ) → a ≤ℤ (b +ℤ c) → x ≤ℤ (y +ℤ z) → (a +ℤ x) ≤ℤ ((b +ℤ y) +ℤ (c +ℤ z))
added_le a b c x y z h g = omega (arith, ints)

weighted_falls : (task : Parts) (n : ℕ) (s t : FlatState) (items : List (ℕ × Row)) (k : IsTaken task n s t) → IsStateOf task s → list_all (λ i. is_allowed task i.1) items ≡ true
    → weighted (right task s) items ≤ℤ (weighted (coefficient task k.step) items +ℤ weighted (right task t) items)
weighted_falls task n s t [] k here all = omega (arith, ints)
weighted_falls task n s t (i ∷ is) k here all =
    let parts = and_parts (is_allowed task i.1) (list_all (λ j. is_allowed task j.1) is) all in
    added_le (pos i.0 *ℤ right task s i.1) (pos i.0 *ℤ coefficient task k.step i.1) (pos i.0 *ℤ right task t i.1)
    (weighted (right task s) is) (weighted (coefficient task k.step) is) (weighted (right task t) is)
    (scaled_le i.0 (right task s i.1) (coefficient task k.step i.1) (right task t i.1) (falls_at task n s t i.1 k here parts.0))
    (weighted_falls task n s t is k here parts.1)

scaled_end : (w : ℕ) (a : ℤ) → a ≤ℤ pos 0 → (pos w *ℤ a) ≤ℤ pos 0
scaled_end w a h =
    let small : up a ≤ down a = omega (arith, ints) in
    let more = le_times w (up a) (down a) small in
    omega (arith, ints, more, product (pos w) a)

both_end : (a b : ℤ) → a ≤ℤ pos 0 → b ≤ℤ pos 0 → (a +ℤ b) ≤ℤ pos 0
both_end a b h g = omega (arith, ints)

weighted_ends : (task : Parts) (s : FlatState) (items : List (ℕ × Row)) → list_all (λ i. is_allowed task i.1) items ≡ true → is_goal task s ≡ true → weighted (right task s) items ≤ℤ pos 0
weighted_ends task s [] all goal = omega (arith, ints)
weighted_ends task s (i ∷ is) all goal =
    let parts = and_parts (is_allowed task i.1) (list_all (λ j. is_allowed task j.1) is) all in
    both_end (pos i.0 *ℤ right task s i.1) (weighted (right task s) is)
    (scaled_end i.0 (right task s i.1) (row_ends task s i.1 parts.0 goal))
    (weighted_ends task s is parts.1 goal)

-- what is added up is the weighted sum
sum_moved : (a b c : ℤ) → (a +ℤ b) +ℤ c ≡ a +ℤ (b +ℤ c)
sum_moved a b c = omega (arith, ints)

sum_zero : (a : ℤ) → a ≡ a +ℤ pos 0
sum_zero a = omega (arith, ints)

with_item_is : (sum : ℤ) (w : ℕ) (v z : ℤ) → with_item sum w v ≡ Some z → sum +ℤ (pos w *ℤ v) ≡ z
with_item_is sum w v z e =
    elim (cases_Bool (fits (pos w *ℤ v))) [
      | inl so ↦ (cond_some (fits (sum +ℤ (pos w *ℤ v))) (sum +ℤ (pos w *ℤ v)) z (rw so at e)).1
      | inr other ↦ absurd (none_some (rw other at e))
    ]
  where
    none_some : {y : ℤ} → None ≡ Some y → ⊥
    none_some h = cc

pub added_is : (amount : Row → ℤ) (items : List (ℕ × Row)) (sum total : ℤ) → added_up amount sum items ≡ Some total → total ≡ sum +ℤ weighted amount items
added_is amount [] sum total e = sym (same_Some sum total e) ∙ sum_zero sum
added_is amount (i ∷ is) sum total e =
    option_and_then_some (λ next. added_up amount next is) (with_item sum i.0 (amount i.1)) total e
    (λ next first rest.
    added_is amount is next total rest ∙ ap (λ z. z +ℤ weighted amount is) (sym (with_item_is sum i.0 (amount i.1) next first)) ∙ sum_moved sum (pos i.0 *ℤ amount i.1) (weighted amount is))

-- a step that pays
paid_number : (c w : ℤ) (n : ℕ) → c ≡ pos 0 +ℤ w → int_le c (pos n) ≡ true → w ≤ℤ pos n
paid_number c w n e h = grind (arith, ints)

paid : (task : Parts) (proof : Proof) (step : FlatStep) → pays task proof step ≡ true → weighted (coefficient task step) proof.items ≤ℤ pos (proof.divisor * step.cost)
paid task proof step pay = by (added_up (coefficient task step) (pos 0) proof.items) refl pay
  where
    by : (o : Option ℤ) → added_up (coefficient task step) (pos 0) proof.items ≡ o → option_map_or (λ sum. int_le sum (pos (proof.divisor * step.cost))) o false ≡ true → weighted (coefficient task step) proof.items ≤ℤ pos (proof.divisor * step.cost)
    by (Some c) e h = paid_number c (weighted (coefficient task step) proof.items) (proof.divisor * step.cost) (added_is (coefficient task step) proof.items (pos 0) c e) h
    by None e h = absurd (false≢true h)

-- ---- plans

step_more : (w a : ℕ) (x c y : ℤ) → x ≤ℤ (c +ℤ y) → c ≤ℤ pos (w * a) → x ≤ℤ (pos (w * a) +ℤ y)
step_more w a x c y h g = omega (arith, ints)

taken_falls : (task : Parts) (divisor n : ℕ) (items : List (ℕ × Row)) (s t : FlatState) (k : IsTaken task n s t) → IsStateOf task s → IsPriced task divisor items
    → weighted (right task s) items ≤ℤ (pos (divisor * cost_of task n) +ℤ weighted (right task t) items)
taken_falls task divisor n items s t k here priced =
    let at : slice_get task.steps n ≡ Some k.step = k.at in
    let within : n < length task.steps = slice_get_within task.steps n k.step at in
    let pay : weighted (coefficient task k.step) items ≤ℤ pos (divisor * k.step.cost) =
    subst (λ step. weighted (coefficient task step) items ≤ℤ pos (divisor * step.cost)) (get_or_from_slice_get task.steps n k.step k.step at) (priced.pays n k.step within) in
    rw at (step_more divisor k.step.cost (weighted (right task s) items) (weighted (coefficient task k.step) items) (weighted (right task t) items) (weighted_falls task n s t items k here priced.allowed) pay)

pub weights_fall : WeightsFall
weights_fall task divisor n items s t flat here priced e = taken_falls task divisor n items s t (taken task n s t flat here e) here priced

cost_more : (w a b : ℕ) (x y : ℤ) → x ≤ℤ (pos (w * a) +ℤ y) → y ≤ℤ pos (w * b) → x ≤ℤ pos (w * (a + b))
cost_more w a b x y h k = omega (arith, ints)

weighted_from : (task : Parts) (divisor : ℕ) (items : List (ℕ × Row)) (numbers : List ℕ) (s end : FlatState) → IsFlat task → IsStateOf task s → IsPriced task divisor items
    → run_from task numbers s ≡ Some end → is_goal task end ≡ true → weighted (right task s) items ≤ℤ pos (divisor * cost_sum task numbers)
weighted_from task divisor items [] s end flat here priced runs goal =
    let ends = weighted_ends task s items priced.allowed (subst (λ u. is_goal task u ≡ true) (sym (same_Some s end runs)) goal) in
    omega (arith, ints, ends)
weighted_from task divisor items (n ∷ ns) s end flat here priced runs goal =
    option_and_then_some (run_from task ns) (next task n s) end runs
    (λ t first rest.
    let k = taken task n s t flat here first in
    cost_more divisor (cost_of task n) (cost_sum task ns) (weighted (right task s) items) (weighted (right task t) items)
    (taken_falls task divisor n items s t k here priced)
    (weighted_from task divisor items ns t end flat k.state priced rest goal))

pub weights_hold : WeightsHold
weights_hold task divisor items s numbers flat here priced leads = weighted_from task divisor items numbers s leads.end flat here priced leads.runs leads.goal

-- every step of a right proof pays
items_allowed : (task : Parts) (items : List (ℕ × Row)) → list_all (is_item task) items ≡ true → list_all (λ i. is_allowed task i.1) items ≡ true
items_allowed task [] all = refl
items_allowed task (i ∷ is) all =
    let parts = and_parts (is_item task i) (list_all (is_item task) is) all in
    let first = and_parts (nat_lt 0 i.0) (nat_lt i.0 (2 ^ 62) && (is_small i.1 && is_allowed task i.1)) parts.0 in
    let second = and_parts (nat_lt i.0 (2 ^ 62)) (is_small i.1 && is_allowed task i.1) first.1 in
    rw ((and_parts (is_small i.1) (is_allowed task i.1) second.1).1) (items_allowed task is parts.1)

pub proofs_price : ProofsPrice
proofs_price task proof right_proof =
    let first = and_parts (nat_lt proof.divisor (2 ^ 62)) (list_all (is_item task) proof.items && list_all (pays task proof) task.steps) right_proof in
    let second = and_parts (list_all (is_item task) proof.items) (list_all (pays task proof) task.steps) first.1 in
    record {
      allowed = items_allowed task proof.items second.0;
      pays = λ k d h. paid task proof (get_or task.steps k d) (all_at (pays task proof) task.steps k (get_or task.steps k d) second.1 (slice_get-get_or task.steps k d h));
    }

-- ---- the bound

above_small : (total : ℤ) (n : ℕ) → total ≤ℤ pos n → at_least_0 total ≤ n
above_small (pos m) n h = omega (arith, ints)
above_small (negsuc m) n h = omega arith

rounded_up : (t w c : ℕ) → t ≤ w * c → 0 < w → (t + (w - 1)) / w ≤ c
rounded_up t w c h p =
    let whole : w * ((t + (w - 1)) / w) ≤ t + (w - 1) = mul-div-le (t + (w - 1)) w in
    elim (cases_lt c ((t + (w - 1)) / w)) [
      | inl lt ↦
          let more : w * (c + 1) ≤ w * ((t + (w - 1)) / w) = le_times w (c + 1) ((t + (w - 1)) / w) (omega arith) in
          absurd (omega arith)
      | inr ge ↦ ge
    ]

none_above : (total : ℤ) (c : ℕ) → int_lt (pos 0) total ≡ true → total ≤ℤ pos (0 * c) → ⊥
none_above total c h g = grind (arith, ints)

met_below : (n c : ℕ) (b : Bound) → n ≤ c → bound_below n ≡ Some b → IsAtMostCost b c
met_below n c b le e =
    subst (λ x. IsAtMostCost x c) (cond_some (nat_lt n (2 ^ 62)) (bound.AtLeast n) b e).1 le

none_met : (c : ℕ) (total : ℤ) (b : Bound) → cond (int_lt (pos 0) total) (Some bound.NoPlan) (Some (bound.AtLeast 0)) ≡ Some b → total ≤ℤ pos (0 * c) → IsAtMostCost b c
none_met c total b e le =
    elim (cases_Bool (int_lt (pos 0) total)) [
      | inl so ↦ absurd (none_above total c so le)
      | inr other ↦ subst (λ x. IsAtMostCost x c) (same_Some (bound.AtLeast 0) b (rw other at e)) (omega arith)
    ]

met : (w c : ℕ) (total : ℤ) (b : Bound) → bound_of w total ≡ Some b → total ≤ℤ pos (w * c) → IsAtMostCost b c
met w c total b e le =
    elim (cases_Bool (eqb w 0)) [
      | inl so ↦ none_met c total b (rw so at e) (subst (λ v. total ≤ℤ pos (v * c)) (eqb-true w 0 so) le)
      | inr other ↦
          let above : 0 < w = omega (arith, eqb-false w 0 other) in
          met_below ((at_least_0 total + (w - 1)) / w) c b (rounded_up (at_least_0 total) w c (above_small total (w * c) le) above) (rw other at e)
    ]

pub proofs_bound : ProofsBound
proofs_bound task proof s b numbers flat here right_proof bounds leads =
    option_and_then_some (bound_of proof.divisor) (added_up (right task s) (pos 0) proof.items) b bounds
    (λ total added gives.
    met proof.divisor (cost_sum task numbers) total b gives
    (subst (λ z. z ≤ℤ pos (proof.divisor * cost_sum task numbers)) (from_zero (weighted (right task s) proof.items) ∙ sym (added_is (right task s) proof.items (pos 0) total added))
    (weights_hold task proof.divisor proof.items s numbers flat here (proofs_price task proof right_proof) leads)))
  where
    from_zero : (a : ℤ) → a ≡ pos 0 +ℤ a
    from_zero a = omega (arith, ints)
