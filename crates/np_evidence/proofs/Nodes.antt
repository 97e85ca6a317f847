-- What a search says of the flat states that its states are read as.
use Rattle.std.proofs.Common.{◌≡◌, ℕ, ◌+◌, ◌*◌, ◌^◌, ◌≤◌, ◌<◌, false, true, List, length, reverse, get_or, Some, None, slice_get, unsigned_abs, ⊎_elim, refl, sym, ap, ◌∙◌, subst, arith}
use Rattle.std.specs.Prelude.{IsTrue}
use Rattle.std.proofs.lemmas.List.{length-reverse}
use Rattle.std.proofs.lemmas.List.Elements.{All-weaker}
use Rattle.std.proofs.lemmas.Option.{slice_get_cases, slice_get_within}
use Rattle.np_state.specs.StateValues.{StateValue}
use Rattle.np_space.specs.Bounds.{IsAtMostCost, is_at_most, sum_of}
use Rattle.np_space.specs.declared.bound.Bound.{Bound}
use Rattle.np_space.specs.declared.bound.Bound.TheVariants.{AtLeast}
use Rattle.np_search.specs.declared.tree.Node.{Node}
use Rattle.np_search.specs.Frontiers.{IsKeptAt, f_value}
use Rattle.np_search.specs.Outcomes.{IsRight}
use Rattle.np_flat.specs.declared.parts.Parts.{Parts}
use Rattle.np_flat.specs.Flats.{IsFlat, IsStateOf, AreWithinLimit}
use Rattle.np_flat.specs.Plans.{cost_sum, Leads, Reaches}
use Rattle.np_blind.specs.Readings.{flat_of, state_of}
use Rattle.np_blind.specs.Spaces.{first_of, is_goal_at, next_of, IsBlind}
use Rattle.np_blind.proofs.Runs.{same_plans}
use Rattle.np_cert.specs.Valid.{is_small}
use Rattle.np_cert.specs.declared.certificate.Limit.TheVariants.{Number}
use Rattle.np_evidence.specs.Certified.{NoPlanBelow}
use Rattle.np_evidence.specs.Entries.{AreReached}
use Rattle.np_evidence.proofs.Bounds.{late, few_small}
use Rattle.np_evidence.proofs.EntryLists.{AreApart}
use Rattle.np_evidence.proofs.Runs.{IsFlatRun, flat_run, run_reaches, cost_small}

-- what a search of the task's space knows of its states and nodes
abbrev pub IsRightIn : Parts → List StateValue → List Node → Bound → ℕ → Type 0
IsRightIn task states nodes claim n = IsRight (next_of task) (is_goal_at task) (first_of task) (λ s j. IsBlind j) states nodes claim n

-- a value after few steps is within the limit
few_within : (value n steps : ℕ) → value < 2 ^ 62 * (1 + steps) → steps ≤ n → n ≤ 2 ^ 24 → value < 2 ^ 87
few_within value n steps h fewer few = omega arith

module _ (task : Parts) (flat : IsFlat task) (states : List StateValue) (nodes : List Node) (claim : Bound) (n : ℕ) (few : n ≤ 2 ^ 24) (right : IsRightIn task states nodes claim n) where
  -- few steps lead to a kept state
  pub record IsNodeRun (s : StateValue) (cost : ℕ) : Type 0 where
    pub steps : List ℕ
    pub run : IsFlatRun task steps s cost
    pub fewer : length steps ≤ n

  pub node_run : (i : ℕ) (s : StateValue) (node : Node) → IsKeptAt states nodes i s node → IsNodeRun s node.cost
  node_run i s node kept =
      let r = right.runs i s node kept in
      record { steps = reverse r.back; run = flat_run task (reverse r.back) s node.cost flat r.ran; fewer = omega (arith, r.few, length-reverse r.back) }

  pub kept_reaches : (i : ℕ) (s : StateValue) (node : Node) → IsKeptAt states nodes i s node → Reaches task (flat_of s) node.cost
  kept_reaches i s node kept = let r = node_run i s node kept in run_reaches task r.steps s node.cost r.run

  pub kept_state : (i : ℕ) (s : StateValue) (node : Node) → IsKeptAt states nodes i s node → IsStateOf task (flat_of s)
  kept_state i s node kept = (node_run i s node kept).run.below.state

  pub kept_within : (i : ℕ) (s : StateValue) (node : Node) → IsKeptAt states nodes i s node → AreWithinLimit (flat_of s).values
  kept_within i s node kept =
      let r = node_run i s node kept in
      All-weaker (λ v. unsigned_abs v < 2 ^ 62 * (1 + length r.steps)) (λ v. unsigned_abs v < 2 ^ 87)
      (λ v h. few_within (unsigned_abs v) n (length r.steps) h r.fewer few) (flat_of s).values r.run.below.values

  pub kept_small : (i : ℕ) (s : StateValue) (node : Node) → IsKeptAt states nodes i s node → IsTrue (is_small (Number node.cost))
  kept_small i s node kept =
      let r = node_run i s node kept in
      few_small node.cost n (length r.steps) (subst (λ (c : ℕ). c ≤ length r.steps * 2 ^ 32) (sym r.run.costs) (cost_small task r.steps flat)) r.fewer few

  -- a state that has a number has a node
  pub record HasNode (i : ℕ) (s : StateValue) : Type 0 where
    pub node : Node
    pub kept : IsKeptAt states nodes i s node

  pub has_node : (i : ℕ) (s : StateValue) → slice_get states i ≡ Some s → HasNode i s
  has_node i s there =
      ⊎_elim
      (λ (h : (x : Node) × (i < length nodes) × (slice_get nodes i ≡ Some x) × (get_or nodes i x ≡ x)). record { node = h.0; kept = record { state = there; found = h.2 } })
      (λ (h : (length nodes ≤ i) × (slice_get nodes i ≡ None)). let past = h.0 in absurd (omega (arith, past, slice_get_within states i s there, right.one_node)))
      (slice_get_cases nodes i).1

  -- no two states are read as one
  pub apart : AreApart states
  apart i j s t hs ht e =
      let one = has_node i s hs in
      let other = has_node j t ht in
      let same : s ≡ t = sym (node_run i s one.node one.kept).run.same ∙ ap (state_of task) e ∙ (node_run j t other.node other.kept).run.same in
      right.distinct.one_number i j t (hs ∙ ap Some same) ht

  pub are_reached : AreReached task states nodes
  are_reached = record {
    one_node = right.one_node;
    reached = λ i s there.
        let has = has_node i s there in
        let r = right.runs i s has.node has.kept in
        record { steps = reverse r.back; cost = has.node.cost; ran = r.ran };
  }

  -- with the bound 0, path cost and bound together are the path cost
  pub f_is : (i : ℕ) (s : StateValue) (node : Node) → IsKeptAt states nodes i s node → f_value node ≡ AtLeast node.cost
  f_is i s node kept =
      let zero_more : node.cost + 0 ≡ node.cost = omega arith in
      ap (sum_of (AtLeast node.cost)) (right.judged i s node kept).bound ∙ ap (λ (c : ℕ). AtLeast c) zero_more

  -- the path cost of a state that isn't expanded has reached the claim
  pub open_late : (i : ℕ) (s : StateValue) (node : Node) → IsKeptAt states nodes i s node → node.expanded ≡ false → IsAtMostCost claim node.cost
  open_late i s node kept fresh = late claim node.cost (ap (is_at_most claim) (sym (f_is i s node kept)) ∙ right.frontier.claimed i s node kept fresh)

  -- each plan costs at least the path cost of an expanded state
  pub expanded_due : (i : ℕ) (s : StateValue) (node : Node) → IsKeptAt states nodes i s node → node.expanded ≡ true → NoPlanBelow task node.cost
  expanded_due i s node kept expanded = λ numbers leads.
      subst (λ (b : Bound). IsAtMostCost b (cost_sum task numbers)) (f_is i s node kept)
      (right.due i node kept.found expanded numbers (cost_sum task numbers) ((same_plans task flat numbers (cost_sum task numbers)).1 (leads, refl)))

  -- and at least the claim
  pub plans_cost : (numbers : List ℕ) → Leads task task.start numbers → IsAtMostCost claim (cost_sum task numbers)
  plans_cost numbers leads = right.cheapest numbers (cost_sum task numbers) ((same_plans task flat numbers (cost_sum task numbers)).1 (leads, refl))
