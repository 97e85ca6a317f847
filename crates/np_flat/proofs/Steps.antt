-- The state after a step: it is one of the task, and its values are not much larger.
use Rattle.std.proofs.Common.{◌≡◌, ◌≢◌, ℕ, ◌+◌, ◌^◌, ◌≤◌, ◌<◌, not, ℤ, pos, ◌+ℤ◌, unsigned_abs, List, [], ◌∷◌, length, get_or, All, refl, sym, ap, ◌∙◌, subst, inl, inr, arith}
use Rattle.std.specs.Prelude.{filter, map}
use Rattle.std.proofs.lemmas.Bool.{cases_eq}
use Rattle.std.proofs.lemmas.List.{get_or-set_same, get_or-set_other, get_or-map, length-map, length-set, get_or_default}
use Rattle.std.proofs.lemmas.List.Elements.{All-head, All-tail, All-filter, All-weaker}
use Rattle.np_flat.specs.declared.state.FlatState.{FlatState}
use Rattle.np_flat.specs.declared.parts.FlatStep.{FlatStep}
use Rattle.np_flat.specs.declared.parts.Parts.{Parts}
use Rattle.np_flat.specs.Flats.{IsAscending, AreBelow, AreWithinLimit, AreSmall, IsState, IsStateOf, IsStep, IsFlat}
use Rattle.np_flat.specs.States.{has, put_all, facts_after, value_at, changed, all_changed, state_after}
use Rattle.np_flat.proofs.Ascending.{above_first, ascending_rest, ascending_filter, ascending_put_all, All-put_all}
use Rattle.np_flat.proofs.Forms.{abs_sum, amounts_small}
use Rattle.np_flat.proofs.Changes.{length-all_changed}

-- the step of this number
pub step_is : (task : Parts) (xs : List FlatStep) (n : ℕ) (step : FlatStep) → IsFlat task → xs ≡ task.steps → n < length task.steps → step ≡ get_or xs n step → IsStep (length task.facts) (length task.values) (length task.subgoals) step
step_is task xs n step flat e h at = subst (IsStep (length task.facts) (length task.values) (length task.subgoals)) (sym (at ∙ ap (λ ys. get_or ys n step) e)) (flat.steps n step h)

-- it leads to a state of the task
pub state_of_after : (facts values subgoals : ℕ) (step : FlatStep) (s : FlatState) → IsStep facts values subgoals step → IsState facts values s → IsState facts values (state_after step s)
state_of_after facts values subgoals step s step_of of = record {
  facts_are = record {
    ascending = ascending_put_all step.adds (filter (λ p. not (has step.deletes p)) s.facts) (ascending_filter (λ p. not (has step.deletes p)) s.facts of.facts_are.ascending);
    within = All-put_all (λ n. n < facts) step.adds (filter (λ p. not (has step.deletes p)) s.facts) step_of.adds.within (All-filter (λ p. not (has step.deletes p)) (λ n. n < facts) s.facts of.facts_are.within);
  };
  count = length-all_changed step.changes s.values ∙ of.count;
}

-- a step that neither adds nor deletes facts leaves them as they are
pub facts_stay : (step : FlatStep) (facts : List ℕ) → step.adds ≡ [] → step.deletes ≡ [] → facts_after step facts ≡ facts
facts_stay step facts no_adds no_deletes =
    ap (λ ns. put_all ns (filter (λ p. not (has step.deletes p)) facts)) no_adds
    ∙ ap (λ ns. filter (λ p. not (has ns p)) facts) no_deletes
    ∙ all_stay facts
  where
    all_stay : (ps : List ℕ) → filter (λ p. not (has [] p)) ps ≡ ps
    all_stay [] = refl
    all_stay (p ∷ ps) = ap (λ qs. p ∷ qs) (all_stay ps)

-- later changes are on greater numbers
pub above_change : (c : ℕ × ℤ) (cs : List (ℕ × ℤ)) → IsAscending (map (λ a. a.0) (c ∷ cs)) → All (λ e. c.0 < e.0) cs
above_change c cs up k d h =
    subst (λ n. c.0 < n) (get_or-map (λ (a : ℕ × ℤ). a.0) cs k d d.0 h)
    (above_first c.0 (map (λ (a : ℕ × ℤ). a.0) cs) up k d.0 (subst (λ n. k < n) (sym (length-map cs (λ (a : ℕ × ℤ). a.0))) h))

-- a value that no change is on stays
pub value_kept : (changes : List (ℕ × ℤ)) (values : List ℤ) (n : ℕ) (d : ℤ) → All (λ c. n ≢ c.0) changes → get_or (all_changed changes values) n d ≡ get_or values n d
value_kept [] values n d others = refl
value_kept (c ∷ cs) values n d others =
    value_kept cs (changed values c) n d (All-tail (λ (e : ℕ × ℤ). n ≢ e.0) c cs others)
    ∙ get_or-set_other values c.0 n (value_at values c.0 +ℤ c.1) d (All-head (λ (e : ℕ × ℤ). n ≢ e.0) c cs others)

-- so does the one of the first change, after that change
pub first_kept : (c : ℕ × ℤ) (cs : List (ℕ × ℤ)) (values : List ℤ) (d : ℤ) → IsAscending (map (λ a. a.0) (c ∷ cs)) → c.0 < length values → get_or (all_changed cs (changed values c)) c.0 d ≡ value_at values c.0 +ℤ c.1
first_kept c cs values d up within =
    value_kept cs (changed values c) c.0 d (All-weaker (λ (e : ℕ × ℤ). c.0 < e.0) (λ (e : ℕ × ℤ). c.0 ≢ e.0) (λ e h. omega arith) cs (above_change c cs up))
    ∙ get_or-set_same values c.0 (value_at values c.0 +ℤ c.1) d within

-- what each value is after changes of ascending numbers: it stays, or one change is added to it
pub near_changed : (P Q : ℤ → Type 0) (most : ℕ) → ((v : ℤ) → P v → Q v) → ((v w : ℤ) → P v → unsigned_abs w ≤ most → Q (v +ℤ w))
    → (changes : List (ℕ × ℤ)) (values : List ℤ) → IsAscending (map (λ c. c.0) changes) → All (λ c. unsigned_abs c.1 ≤ most) changes → All P values → All Q (all_changed changes values)
near_changed P Q most stays adds changes values up of small k d h =
    let within : k < length values = subst (λ n. k < n) (length-all_changed changes values) h in
    near changes values up of within (small k d within)
  where
    near : (cs : List (ℕ × ℤ)) (vs : List ℤ) → IsAscending (map (λ c. c.0) cs) → All (λ c. unsigned_abs c.1 ≤ most) cs → k < length vs → P (get_or vs k d) → Q (get_or (all_changed cs vs) k d)
    near [] vs up of lt p = stays (get_or vs k d) p
    near (c ∷ cs) vs up of lt p =
        elim (cases_eq k c.0) [
          | inl e ↦
              let within : c.0 < length vs = subst (λ j. j < length vs) e lt in
              let same : get_or (all_changed cs (changed vs c)) k d ≡ value_at vs k +ℤ c.1 = subst (λ j. get_or (all_changed cs (changed vs c)) j d ≡ value_at vs j +ℤ c.1) (sym e) (first_kept c cs vs d up within) in
              let by : unsigned_abs c.1 ≤ most = All-head (λ (b : ℕ × ℤ). unsigned_abs b.1 ≤ most) c cs of in
              subst Q (sym same) (adds (value_at vs k) c.1 (subst P (get_or_default vs k d (pos 0) lt) p) by)
          | inr ne ↦
              near cs (changed vs c) (ascending_rest c.0 (map (λ (b : ℕ × ℤ). b.0) cs) up) (All-tail (λ (b : ℕ × ℤ). unsigned_abs b.1 ≤ most) c cs of)
              (subst (λ n. k < n) (sym (length-set vs c.0 (value_at vs c.0 +ℤ c.1))) lt)
              (subst P (sym (get_or-set_other vs c.0 k (value_at vs c.0 +ℤ c.1) d ne)) p)
        ]

-- the changes of a step are small
changes_small : (facts values subgoals : ℕ) (step : FlatStep) → IsStep facts values subgoals step → All (λ c. unsigned_abs c.1 ≤ 2 ^ 62) step.changes
changes_small facts values subgoals step of =
    All-weaker (λ (c : ℕ × ℤ). unsigned_abs c.1 < 2 ^ 62) (λ (c : ℕ × ℤ). unsigned_abs c.1 ≤ 2 ^ 62) (λ c h. omega arith) step.changes (amounts_small values (2 ^ 62) step.changes of.changes)

-- the values after a step are not much larger
pub near_after : (facts values subgoals size : ℕ) (step : FlatStep) (s : FlatState) → IsStep facts values subgoals step → All (λ v. unsigned_abs v ≤ size) s.values → All (λ v. unsigned_abs v ≤ size + 2 ^ 62) (state_after step s).values
near_after facts values subgoals size step s of small =
    near_changed (λ (v : ℤ). unsigned_abs v ≤ size) (λ (v : ℤ). unsigned_abs v ≤ size + 2 ^ 62) (2 ^ 62) (λ v h. omega arith) (λ v w h k. omega (arith, abs_sum v w)) step.changes s.values of.changes.numbers.ascending (changes_small facts values subgoals step of) small

pub below_after : (facts values subgoals size : ℕ) (step : FlatStep) (s : FlatState) → IsStep facts values subgoals step → AreBelow size s.values → AreBelow (size + 2 ^ 62) (state_after step s).values
below_after facts values subgoals size step s of small =
    near_changed (λ (v : ℤ). unsigned_abs v < size) (λ (v : ℤ). unsigned_abs v < size + 2 ^ 62) (2 ^ 62) (λ v h. omega arith) (λ v w h k. omega (arith, abs_sum v w)) step.changes s.values of.changes.numbers.ascending (changes_small facts values subgoals step of) small

-- what that says of the step of this number
module _ (task : Parts) (xs : List FlatStep) (n : ℕ) (step : FlatStep) (s after : FlatState)
    (flat : IsFlat task) (steps : xs ≡ task.steps) (within : n < length task.steps) (at : step ≡ get_or xs n step)
    (is : after ≡ state_after step s) where
  pub is_state : IsStateOf task s → IsStateOf task after
  is_state of =
      subst (IsStateOf task) (sym is) (state_of_after (length task.facts) (length task.values) (length task.subgoals) step s (step_is task xs n step flat steps within at) of)

  pub is_near : AreWithinLimit s.values → AreSmall after.values
  is_near small =
      let wide : All (λ v. unsigned_abs v ≤ 2 ^ 87) s.values = All-weaker (λ (v : ℤ). unsigned_abs v < 2 ^ 87) (λ (v : ℤ). unsigned_abs v ≤ 2 ^ 87) (λ v h. omega arith) s.values small in
      subst (λ (t : FlatState). AreSmall t.values) (sym is)
      (near_after (length task.facts) (length task.values) (length task.subgoals) (2 ^ 87) step s (step_is task xs n step flat steps within at) wide)
