-- The certificate of the expanded nodes of a search is valid, and can be written.
use Rattle.std.proofs.Common.{◌≡◌, ℕ, ◌+◌, ◌*◌, ◌^◌, ◌≤◌, ◌<◌, true, cond, [], List, length, IsTrue, Some, unsigned_abs, sym, ap, ◌∙◌, subst, inr, arith}
use Rattle.std.specs.Option.{option_map}
use Rattle.std.proofs.lemmas.List.Elements.{All-nil, All-weaker}
use Rattle.np_state.specs.StateValues.{StateValue}
use Rattle.np_space.specs.declared.bound.Bound.{Bound}
use Rattle.np_search.specs.declared.tree.Node.{Node}
use Rattle.np_search.specs.Frontiers.{IsKeptAt}
use Rattle.np_flat.specs.declared.state.FlatState.{FlatState}
use Rattle.np_flat.specs.declared.parts.Parts.{Parts}
use Rattle.np_flat.specs.Flats.{IsFlat, IsStateOf}
use Rattle.np_flat.specs.States.{next}
use Rattle.np_flat.specs.Plans.{cost_of}
use Rattle.np_flat.proofs.Runs.{small_next}
use Rattle.np_blind.specs.Readings.{flat_of, state_of}
use Rattle.np_blind.specs.Spaces.{first_of, next_of}
use Rattle.np_blind.proofs.Readings.{flat_back}
use Rattle.np_cert.specs.declared.certificate.Limit.{Limit}
use Rattle.np_cert.specs.declared.certificate.Limit.TheVariants.{Number}
use Rattle.np_cert.specs.Text.{IsWritten, IsWrittenEntry, IsWrittenProof}
use Rattle.np_cert.specs.Valid.{at_most, after_cost, is_small, bound_at, IsFitting, IsJustified, IsValidProof, IsValid}
use Rattle.np_evidence.specs.Certified.{less}
use Rattle.np_evidence.specs.Entries.{entry_of, entries_of, certificate_of}
use Rattle.np_evidence.proofs.Bounds.{limit_of, step_bounded, start_bounded, less_small, limit_written}
use Rattle.np_evidence.proofs.EntryLists.{entries_all, no_repeat}
use Rattle.np_evidence.proofs.EntryBounds.{bound_kept}
use Rattle.np_evidence.proofs.Nodes.{IsRightIn, node_run, kept_state, kept_within, apart, open_late}

-- a value within the limit can be written
value_written : (v : ℕ) → v < 2 ^ 87 → v < 10 ^ 38
value_written v h = omega arith

-- so can the number of a fact
fact_written : (p facts : ℕ) → p < facts → facts ≤ 2 ^ 14 → p < 2 ^ 32
fact_written p facts h few = omega arith

module _ (task : Parts) (flat : IsFlat task) (states : List StateValue) (nodes : List Node) (claim : Bound) (n : ℕ) (few : n ≤ 2 ^ 24) (right : IsRightIn task states nodes claim n)
    (small : IsTrue (is_small (limit_of claim))) where
  -- the bound of a kept state
  bound_is : (i : ℕ) (s : StateValue) (node : Node) → IsKeptAt states nodes i s node
      → bound_at (entries_of (limit_of claim) states nodes) (flat_of s) ≡ cond node.expanded (less (limit_of claim) node.cost) (Number 0)
  bound_is i s node kept = bound_kept (limit_of claim) states nodes (apart task flat states nodes claim n few right) i s node kept.state kept.found

  -- a step leads from a kept state to a state of the task
  after_state : (i : ℕ) (s : StateValue) (node : Node) → IsKeptAt states nodes i s node → (step : ℕ) (after : FlatState) → next task step (flat_of s) ≡ Some after → IsStateOf task after
  after_state i s node kept step after goes =
      let r = node_run task flat states nodes claim n few right i s node kept in
      (small_next task (2 ^ 62 * (1 + length r.steps)) step (flat_of s) after flat r.run.below goes).state

  -- the bound of an entry is at most what each step costs with the bound after it
  steps_bounded : (i : ℕ) (s : StateValue) (node : Node) → IsKeptAt states nodes i s node → node.expanded ≡ true → (step : ℕ) (after : FlatState) → next task step (flat_of s) ≡ Some after
      → IsTrue (at_most (less (limit_of claim) node.cost) (after_cost (cost_of task step) (bound_at (entries_of (limit_of claim) states nodes) after)))
  steps_bounded i s node kept expanded step after goes =
      let of : IsStateOf task after = after_state i s node kept step after goes in
      let leads : next_of task s step ≡ Some (state_of task after, cost_of task step) = ap (option_map {U = StateValue × ℕ} (λ (t : FlatState). (state_of task t, cost_of task step))) goes in
      let w = (right.frontier.closed i s node kept expanded).after step (state_of task after) (cost_of task step) leads in
      let is : bound_at (entries_of (limit_of claim) states nodes) after ≡ cond w.node.expanded (less (limit_of claim) w.node.cost) (Number 0) =
      ap (bound_at (entries_of (limit_of claim) states nodes)) (sym (flat_back task after of)) ∙ bound_is w.at (state_of task after) w.node w.kept in
      subst (λ (l : Limit). IsTrue (at_most (less (limit_of claim) node.cost) (after_cost (cost_of task step) l))) (sym is)
      (step_bounded claim node.cost (cost_of task step) w.node.cost w.node.expanded w.cheap (open_late task flat states nodes claim n few right w.at (state_of task after) w.node w.kept))

  entry_fits : (i : ℕ) (s : StateValue) (node : Node) → IsKeptAt states nodes i s node → IsFitting task (entry_of (limit_of claim) s node.cost)
  entry_fits i s node kept = record {
    state = kept_state task flat states nodes claim n few right i s node kept;
    values = kept_within task flat states nodes claim n few right i s node kept;
    bound = less_small (limit_of claim) node.cost small;
  }

  entry_justified : (i : ℕ) (s : StateValue) (node : Node) → IsKeptAt states nodes i s node → node.expanded ≡ true
      → IsJustified task [] (entries_of (limit_of claim) states nodes) (entry_of (limit_of claim) s node.cost)
  entry_justified i s node kept expanded = record {
    fitting = entry_fits i s node kept;
    supported = inr (record {
      no_goal = (right.frontier.closed i s node kept expanded).no_goal;
      steps = steps_bounded i s node kept expanded;
    });
  }

  start_claimed : IsTrue (at_most (limit_of claim) (bound_at (entries_of (limit_of claim) states nodes) task.start))
  start_claimed =
      let w = right.frontier.start in
      let is : bound_at (entries_of (limit_of claim) states nodes) task.start ≡ cond w.node.expanded (less (limit_of claim) w.node.cost) (Number 0) =
      ap (bound_at (entries_of (limit_of claim) states nodes)) (sym (flat_back task task.start flat.start)) ∙ bound_is w.at (first_of task) w.node w.kept in
      subst (λ (l : Limit). IsTrue (at_most (limit_of claim) l)) (sym is)
      (start_bounded claim w.node.cost w.node.expanded w.cheap (open_late task flat states nodes claim n few right w.at (first_of task) w.node w.kept))

  pub certificate_valid : IsValid task (certificate_of (limit_of claim) states nodes)
  certificate_valid = record {
    proofs = All-nil (IsValidProof task);
    distinct = λ number r.
        no_repeat (limit_of claim) states nodes (apart task flat states nodes claim n few right) r.earlier number r.first r.second r.before r.first_is r.second_is r.same;
    justified = entries_all (IsJustified task [] (entries_of (limit_of claim) states nodes)) (limit_of claim) states nodes entry_justified;
    claimed = record { small = small; bounded = start_claimed };
  }

  entry_written : (i : ℕ) (s : StateValue) (node : Node) → IsKeptAt states nodes i s node → node.expanded ≡ true → IsWrittenEntry (entry_of (limit_of claim) s node.cost)
  entry_written i s node kept expanded =
      let fits = entry_fits i s node kept in
      record {
        facts = All-weaker (λ p. p < length task.facts) (λ p. p < 2 ^ 32) (λ p h. fact_written p (length task.facts) h flat.few_facts) (flat_of s).facts fits.state.facts_are.within;
        values = All-weaker (λ v. unsigned_abs v < 2 ^ 87) (λ v. unsigned_abs v < 10 ^ 38) (λ v h. value_written (unsigned_abs v) h) (flat_of s).values fits.values;
        bound = limit_written (less (limit_of claim) node.cost) fits.bound;
        reason = tt;
      }

  pub certificate_written : IsWritten (certificate_of (limit_of claim) states nodes)
  certificate_written = record {
    claim = limit_written (limit_of claim) small;
    proofs = All-nil IsWrittenProof;
    entries = entries_all IsWrittenEntry (limit_of claim) states nodes entry_written;
  }
