-- A table bounds what it costs to come to each subgoal: one induction over the run, for all subgoals at once.
use Rattle.std.proofs.Common.{◌≡◌, ◌⊎◌, ℕ, ◌+◌, ◌*◌, ◌<◌, ◌≤◌, ℤ, pos, ◌+ℤ◌, max, true, false, cond, List, [], ◌∷◌, length, refl, sym, ap, ◌∙◌, subst, inl, inr, arith, Some, None}
use Rattle.std.specs.Prelude.{slice_get, unsigned_abs, int_lt, int_le, ◌≤ℤ◌}
use Rattle.std.specs.List.{list_all}
use Rattle.std.specs.Option.{option_map_or, option_and_then}
use Rattle.std.proofs.lemmas.Int.{ints}
use Rattle.std.proofs.lemmas.Bool.{and_parts, cases_Bool, cases_lt}
use Rattle.std.proofs.lemmas.Option.{same_Some, option_and_then_some}
use Rattle.np_flat.specs.declared.state.FlatState.{FlatState}
use Rattle.np_flat.specs.declared.parts.Form.{Form}
use Rattle.np_flat.specs.declared.parts.Subgoal.{Subgoal}
use Rattle.np_flat.specs.declared.parts.Subgoal.TheVariants as subgoal
use Rattle.np_flat.specs.declared.parts.FlatStep.{FlatStep}
use Rattle.np_flat.specs.declared.parts.Parts.{Parts}
use Rattle.np_flat.specs.Flats.{IsStateOf, IsFlat}
use Rattle.np_flat.specs.States.{form_value, holds, meets, subgoal_holds, state_after, next}
use Rattle.np_flat.specs.Plans.{run_from, cost_of, cost_sum, Leads}
use Rattle.np_flat.specs.Achieving.{net, achieves}
use Rattle.np_flat.proofs.Moves.{kept_or_achieved}
use Rattle.np_flat.proofs.Runs.{step_there, step_adds_net}
use Rattle.np_flat.proofs.Steps.{state_of_after}
use Rattle.np_relax.proofs.Closes.{map_or_true, by_step, taken}
use Rattle.np_table.specs.Tables.{Entry, IsAtMost, larger, IsUnder, reach, share, Achiever, IsTable}
use Rattle.np_table.proofs.Quotients.{below_over_up, more_each, not_below}

-- a form was raised on the way: first by a step whose reach came before, and since then at a cost that pays for what it was raised by
record Raised (task : Parts) (start : FlatState) (entries : ℕ → Entry) (form : Form) (s : FlatState) (cost : ℕ) : Type 0 where
  first : FlatStep
  reached : ℕ
  achiever : Achiever task entries (subgoal.Form form) first reached
  since : ℕ
  amount : ℕ
  costs : reached + since ≤ cost
  up : form_value form s ≤ℤ (form_value form start +ℤ pos amount)
  each : (k lack : ℕ) → ((u : FlatStep) (r : ℕ) → Achiever task entries (subgoal.Form form) u r → k * unsigned_abs (net u form) < lack * u.cost) → k * amount < lack * since

-- what holds of a state that a run from the start leads to at this cost
record Comes (task : Parts) (start : FlatState) (entries : ℕ → Entry) (s : FlatState) (cost : ℕ) : Type 0 where
  state : IsStateOf task s
  under : (q : ℕ) → holds task s q ≡ true → IsUnder (entries q) cost
  forms : (q : ℕ) (form : Form) → slice_get task.subgoals q ≡ Some (subgoal.Form form) → (form_value form s ≤ℤ form_value form start) ⊎ Raised task start entries form s cost

under_some : (e : Entry) (c : ℕ) → IsUnder e c → (n : ℕ) × (e ≡ Some n) × (n ≤ c)
under_some None c h = absurd h
under_some (Some n) c h = (n, refl, h)

under_more : (e : Entry) (c d : ℕ) → c ≤ d → IsUnder e c → IsUnder e d
under_more None c d le h = h
under_more (Some n) c d le h = omega arith

under_at_most : (e : Entry) (m c : ℕ) → IsAtMost e (Some m) → m ≤ c → IsUnder e c
under_at_most None m c h le = h
under_at_most (Some n) m c h le = omega arith

larger_max : (a b : Entry) (m n : ℕ) → a ≡ Some m → b ≡ Some n → larger a b ≡ Some (max m n)
larger_max a b m n e f = rw (e, f) refl

-- where needs hold, their largest entry is paid
reach_under : (task : Parts) (entries : ℕ → Entry) (s : FlatState) (cost : ℕ) → ((q : ℕ) → holds task s q ≡ true → IsUnder (entries q) cost)
    → (needs : List ℕ) → list_all (holds task s) needs ≡ true → (r : ℕ) × (reach entries needs ≡ Some r) × (r ≤ cost)
reach_under task entries s cost under [] h = (0, refl, omega arith)
reach_under task entries s cost under (q ∷ qs) h =
    let parts = and_parts (holds task s q) (list_all (holds task s) qs) h in
    let here = under_some (entries q) cost (under q parts.0) in
    let rest = reach_under task entries s cost under qs parts.1 in
    (max here.0 rest.0, larger_max (entries q) (reach entries qs) here.0 rest.0 here.1 rest.1, both here.0 rest.0 here.2 rest.2)
  where
    both : (m n : ℕ) → m ≤ cost → n ≤ cost → max m n ≤ cost
    both m n h k = omega arith

up_first : (v v' d w : ℤ) → v' ≡ v +ℤ d → v ≤ℤ w → int_lt (pos 0) d ≡ true → v' ≤ℤ (w +ℤ pos (unsigned_abs d))
up_first v v' d w e le h = grind (arith, ints)

up_more : (v v' d w : ℤ) (n : ℕ) → v' ≡ v +ℤ d → v ≤ℤ (w +ℤ pos n) → int_lt (pos 0) d ≡ true → v' ≤ℤ (w +ℤ pos (n + unsigned_abs d))
up_more v v' d w n e le h = grind (arith, ints)

down_more : (v v' d w : ℤ) → v' ≡ v +ℤ d → v ≤ℤ w → int_lt (pos 0) d ≡ false → v' ≤ℤ w
down_more v v' d w e le h = grind (arith, ints)

above_zero : (d : ℤ) → int_lt (pos 0) d ≡ true → 0 < unsigned_abs d
above_zero d h = grind (arith, ints)

not_raised : (v w : ℤ) → v ≤ℤ w → int_le (pos 0) v ≡ true → int_le (pos 0) w ≡ false → ⊥
not_raised v w le h k = grind (arith, ints)

raised_enough : (v w : ℤ) (n : ℕ) → v ≤ℤ (w +ℤ pos n) → int_le (pos 0) v ≡ true → int_le (pos 0) w ≡ false → unsigned_abs w ≤ n
raised_enough v w n le h k = grind (arith, ints)

module _ (task : Parts) (start : FlatState) (entries : ℕ → Entry) (flat : IsFlat task) (is : IsTable task start entries) where
  -- a form that a run has made true is paid for
  form_under : (q : ℕ) (form : Form) (s : FlatState) (cost : ℕ) (e : Entry) → entries q ≡ e → slice_get task.subgoals q ≡ Some (subgoal.Form form) → int_le (pos 0) (form_value form start) ≡ false → int_le (pos 0) (form_value form s) ≡ true
      → Raised task start entries form s cost → IsUnder e cost
  form_under q form s cost None e at low high by = subst (λ x. IsAtMost x (Some (by.reached + share start form by.first))) e (is.bounded q (subgoal.Form form) at by.first by.first by.reached by.reached by.achiever by.achiever)
  form_under q form s cost (Some n) e at low high by =
      elim (cases_lt cost n) [
        | inr ge ↦ ge
        | inl lt ↦ absurd (not_below by.since by.amount (unsigned_abs (form_value form start)) (by.each by.since (unsigned_abs (form_value form start)) (slow lt)) (raised_enough (form_value form s) (form_value form start) by.amount by.up high low))
      ]
    where
      slow : cost < n → (u : FlatStep) (r : ℕ) → Achiever task entries (subgoal.Form form) u r → by.since * unsigned_abs (net u form) < unsigned_abs (form_value form start) * u.cost
      slow lt u r of =
          let most : n ≤ by.reached + share start form u = subst (λ x. IsAtMost x (Some (by.reached + share start form u))) e (is.bounded q (subgoal.Form form) at by.first u by.reached r by.achiever of) in
          let paid : by.reached + by.since ≤ cost = by.costs in
          below_over_up by.since (unsigned_abs (form_value form start) * u.cost) (unsigned_abs (net u form)) (above_zero (net u form) of.achieves) (omega arith)

  -- one more step
  module _ (n : ℕ) (step : FlatStep) (s : FlatState) (cost : ℕ) (at : slice_get task.steps n ≡ Some step) (met : meets task s step ≡ true) (comes : Comes task start entries s cost) where
    goes : next task n s ≡ Some (state_after step s)
    goes = ap (option_and_then (λ (x : FlatStep). cond (meets task s x) (Some (state_after x s)) None)) at ∙ ap (λ b. cond b (Some (state_after step s)) None) met

    reaches : (r : ℕ) × (reach entries step.needs ≡ Some r) × (r ≤ cost)
    reaches = reach_under task entries s cost comes.under step.needs met

    by : (goal : Subgoal) → achieves step goal ≡ true → Achiever task entries goal step reaches.0
    by goal h = record { number = n; at = at; reaches = reaches.1; achieves = h }

    forms : (q : ℕ) (form : Form) → slice_get task.subgoals q ≡ Some (subgoal.Form form) → (form_value form (state_after step s) ≤ℤ form_value form start) ⊎ Raised task start entries form (state_after step s) (cost + step.cost)
    forms q form of =
        let moved : form_value form (state_after step s) ≡ form_value form s +ℤ net step form =
        step_adds_net task n form s (state_after step s) flat comes.state goes ∙ ap (λ o. form_value form s +ℤ option_map_or (λ (x : FlatStep). net x form) o (pos 0)) at in
        let paid : reaches.0 ≤ cost = reaches.2 in
        elim (cases_Bool (int_lt (pos 0) (net step form))) [
          | inl h ↦ elim (comes.forms q form of) [
            | inl low ↦ inr record {
              first = step;
              reached = reaches.0;
              achiever = by (subgoal.Form form) h;
              since = step.cost;
              amount = unsigned_abs (net step form);
              costs = omega arith;
              up = up_first (form_value form s) (form_value form (state_after step s)) (net step form) (form_value form start) moved low h;
              each = λ k lack all. all step reaches.0 (by (subgoal.Form form) h);
            }
            | inr was ↦ let before : was.reached + was.since ≤ cost = was.costs in inr record {
              first = was.first;
              reached = was.reached;
              achiever = was.achiever;
              since = was.since + step.cost;
              amount = was.amount + unsigned_abs (net step form);
              costs = omega arith;
              up = up_more (form_value form s) (form_value form (state_after step s)) (net step form) (form_value form start) was.amount moved was.up h;
              each = λ k lack all. more_each k was.amount (unsigned_abs (net step form)) lack was.since step.cost (was.each k lack all) (all step reaches.0 (by (subgoal.Form form) h));
            }
          ]
          | inr h ↦ elim (comes.forms q form of) [
            | inl low ↦ inl (down_more (form_value form s) (form_value form (state_after step s)) (net step form) (form_value form start) moved low h)
            | inr was ↦ let before : was.reached + was.since ≤ cost = was.costs in inr record {
              first = was.first;
              reached = was.reached;
              achiever = was.achiever;
              since = was.since;
              amount = was.amount;
              costs = omega arith;
              up = down_more (form_value form s) (form_value form (state_after step s)) (net step form) (form_value form start +ℤ pos was.amount) moved was.up h;
              each = was.each;
            }
          ]
        ]

    fact_under : (q : ℕ) → (holds task s q ≡ true) ⊎ IsAtMost (entries q) (Some (step.cost + reaches.0)) → IsUnder (entries q) (cost + step.cost)
    fact_under q (inl kept) = under_more (entries q) cost (cost + step.cost) (omega arith) (comes.under q kept)
    fact_under q (inr most) = let paid : reaches.0 ≤ cost = reaches.2 in under_at_most (entries q) (step.cost + reaches.0) (cost + step.cost) most (omega arith)

    under_goal : (q : ℕ) (goal : Subgoal) → slice_get task.subgoals q ≡ Some goal → subgoal_holds (state_after step s) goal ≡ true → (holds task s q ≡ true) ⊎ (achieves step goal ≡ true) → IsUnder (entries q) (cost + step.cost)
    under_goal q (subgoal.Fact p) of h (inl kept) = fact_under q (inl kept)
    under_goal q (subgoal.Fact p) of h (inr a) = fact_under q (inr (is.bounded q (subgoal.Fact p) of step reaches.0 (by (subgoal.Fact p) a)))
    under_goal q (subgoal.NotFact p) of h (inl kept) = fact_under q (inl kept)
    under_goal q (subgoal.NotFact p) of h (inr a) = fact_under q (inr (is.bounded q (subgoal.NotFact p) of step reaches.0 (by (subgoal.NotFact p) a)))
    under_goal q (subgoal.Form form) of h came =
        elim (cases_Bool (holds task start q)) [
          | inl early ↦ subst (λ e. IsUnder e (cost + step.cost)) (sym (is.true_ones q early)) (omega arith)
          | inr not_yet ↦
              let low : int_le (pos 0) (form_value form start) ≡ false = sym (ap (λ o. option_map_or (subgoal_holds start) o false) of) ∙ not_yet in
              elim (forms q form of) [
                | inl same ↦ absurd (not_raised (form_value form (state_after step s)) (form_value form start) same h low)
                | inr was ↦ form_under q form (state_after step s) (cost + step.cost) (entries q) refl of low h was
              ]
        ]

    one_more : Comes task start entries (state_after step s) (cost + step.cost)
    one_more = record {
      state = state_of_after (length task.facts) (length task.values) (length task.subgoals) step s (step_there task n step flat at) comes.state;
      under = λ q h.
          let goal = map_or_true (subgoal_holds (state_after step s)) (slice_get task.subgoals q) h in
          under_goal q goal.0 goal.1 goal.2 (elim (kept_or_achieved task n q s (state_after step s) flat comes.state goes h) [
            | inl kept ↦ inl kept
            | inr made ↦ inr (sym (ap (λ o. option_map_or (achieves step) o false) goal.1) ∙ sym (by_step task n q step at) ∙ made)
          ]);
      forms = forms;
    }

  bounds_from : (numbers : List ℕ) (s t : FlatState) (cost : ℕ) → Comes task start entries s cost → run_from task numbers s ≡ Some t → (q : ℕ) → holds task t q ≡ true → IsUnder (entries q) (cost + cost_sum task numbers)
  bounds_from [] s t cost comes e q h = under_more (entries q) cost (cost + 0) (omega arith) (comes.under q (subst (λ u. holds task u q ≡ true) (sym (same_Some s t e)) h))
  bounds_from (n ∷ ns) s t cost comes e q h =
      option_and_then_some (run_from task ns) (next task n s) t e
      (λ u first rest. taken task n s u first
      (λ step at met gives.
      let costs : cost_of task n ≡ step.cost = ap (λ o. option_map_or (λ (x : FlatStep). x.cost) o 0) at in
      under_more (entries q) (cost + step.cost + cost_sum task ns) (cost + cost_sum task (n ∷ ns)) (omega arith)
      (bounds_from ns u t (cost + step.cost) (subst (λ v. Comes task start entries v (cost + step.cost)) gives (one_more n step s cost at met comes)) rest q h)))

pub tables_bound : (task : Parts) (s t : FlatState) (entries : ℕ → Entry) (numbers : List ℕ) → IsFlat task → IsStateOf task s → IsTable task s entries → run_from task numbers s ≡ Some t → (q : ℕ) → holds task t q ≡ true → IsUnder (entries q) (cost_sum task numbers)
tables_bound task s t entries numbers flat of is e q h =
    under_more (entries q) (0 + cost_sum task numbers) (cost_sum task numbers) (omega arith)
    (bounds_from task s entries flat is numbers s t 0 record {
      state = of;
      under = λ p here. subst (λ x. IsUnder x 0) (sym (is.true_ones p here)) (omega arith);
      forms = λ p form at. inl (same (form_value form s));
    } e q h)
  where
    same : (v : ℤ) → v ≤ℤ v
    same v = grind (arith, ints)

pub tables_bound_plans : (task : Parts) (s : FlatState) (entries : ℕ → Entry) (numbers : List ℕ) → IsFlat task → IsStateOf task s → IsTable task s entries → Leads task s numbers → IsUnder (reach entries task.goal) (cost_sum task numbers)
tables_bound_plans task s entries numbers flat of is leads =
    let reached = reach_under task entries leads.end (cost_sum task numbers) (tables_bound task s leads.end entries numbers flat of is leads.runs) task.goal leads.goal in
    subst (λ e. IsUnder e (cost_sum task numbers)) (sym reached.1) reached.2
