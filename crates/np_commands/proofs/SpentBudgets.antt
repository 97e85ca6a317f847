-- A budget that was spent on the states of a flat task was spent on as many states of the task.
use Rattle.std.proofs.Common.{◌≡◌, ℕ, zero, suc, ◌<◌, ◌≤◌, ◌⊎◌, inl, inr, pos, refl, sym, ap, ◌∙◌, subst, List, [], ◌∷◌, length, map, get_or, All, Contains, Some, slice_get, option_map, arith}
use Rattle.std.proofs.lemmas.Bool.{cases_lt}
use Rattle.std.proofs.lemmas.List.Elements.{All-head, All-tail}
use Rattle.std.proofs.lemmas.Option.{none-some, same_Some, slice_get-map, slice_get-get_or}
use Rattle.np_frac.specs.Fractions.{Fraction, whole}
use Rattle.np_model.specs.declared.task.TaskParts.{TaskParts}
use Rattle.np_model.specs.States.{State}
use Rattle.np_model.specs.Tasks.{IsTask}
use Rattle.np_model.specs.Plans.{Reaches, is_goal}
use Rattle.np_flat.specs.declared.state.FlatState.{FlatState}
use Rattle.np_flat.specs.declared.parts.Parts.{Parts}
use Rattle.np_flat.specs.States as flat_states
use Rattle.np_flat.specs.Plans as flat_plans
use Rattle.np_cert.specs.declared.certificate.Limit.{Limit}
use Rattle.np_cert.specs.declared.certificate.Entry.{Entry}
use Rattle.np_cert.specs.Valid.{IsRepeated}
use Rattle.np_scale.specs.Same.{StandsFor}
use Rattle.np_scale.specs.Scaling.{IsFlatTaskOf}
use Rattle.np_scale.proofs.SameRuns.{same_runs}
use Rattle.np_scale.proofs.StandsForOne.{stands_for_one}
use Rattle.np_evidence.specs.Certified.{NoPlanBelow, IsExpandedEntry, IsSpentOn}
use Rattle.np_evidence.proofs.Cover.{contains_placed, placed_contained, further_cover}
use Rattle.np_commands.specs.Solutions.{AreDistinct, IsReachedNoGoal, IsSpent}
use Rattle.np_commands.proofs.NamedBounds.{whole_at_most, none_below}

-- a state by names that a flat state stands for is reached at the same cost, and the goal holds in both or in none
record IsNamed (task : TaskParts) (flat : Parts) (f : FlatState) (cost : ℕ) : Type 0 where
  state : State
  stands : StandsFor flat state f
  reached : Reaches task state (whole (pos cost))
  goal : is_goal task state ≡ flat_states.is_goal flat f

-- the state at this place is that of the entry there
record IsOfEntry (task : TaskParts) (flat : Parts) (entries : List Entry) (i : ℕ) (s : State) : Type 0 where
  entry : Entry
  there : slice_get entries i ≡ Some entry
  stands : StandsFor flat s entry.state
  reached : IsReachedNoGoal task s

-- the states by names of the entries
record AreOfEntries (task : TaskParts) (flat : Parts) (entries : List Entry) : Type 0 where
  states : List State
  count : length states ≡ length entries
  each : (i : ℕ) (s : State) → slice_get states i ≡ Some s → IsOfEntry task flat entries i s

-- one more in front
with_entry : (task : TaskParts) (flat : Parts) (e : Entry) (entries : List Entry) (s : State) → StandsFor flat s e.state → IsReachedNoGoal task s → AreOfEntries task flat entries → AreOfEntries task flat (e ∷ entries)
with_entry task flat e entries s stands reached rest = record {
  states = s ∷ rest.states;
  count = ap suc rest.count;
  each = each;
}
  where
    each : (i : ℕ) (u : State) → slice_get (s ∷ rest.states) i ≡ Some u → IsOfEntry task flat (e ∷ entries) i u
    each zero u h = subst (IsOfEntry task flat (e ∷ entries) 0) (same_Some s u h) (record { entry = e; there = refl; stands = stands; reached = reached })
    each (suc i) u h = let r = rest.each i u h in record { entry = r.entry; there = r.there; stands = r.stands; reached = r.reached }

module _ (task : TaskParts) (flat : Parts) (t : IsTask task) (of : IsFlatTaskOf task flat) where
  named : (f : FlatState) (cost : ℕ) → flat_plans.Reaches flat f cost → IsNamed task flat f cost
  named f cost reached =
      let r = (same_runs task flat t of).from_flat reached.numbers f reached.runs in
      record {
        state = r.state;
        stands = r.same.stands;
        reached = record { steps = r.steps; runs = r.same.runs; costs = r.same.costs ∙ ap (λ c. Some (whole (pos c))) (sym reached.costs) };
        goal = r.same.goal;
      }

  of_entries : (claim : Limit) (entries : List Entry) → All (IsExpandedEntry flat claim) entries → AreOfEntries task flat entries
  of_entries claim [] all = record { states = []; count = refl; each = λ i s h. absurd (none-some s h) }
  of_entries claim (e ∷ entries) all =
      let expanded = All-head (IsExpandedEntry flat claim) e entries all in
      let n : IsNamed task flat e.state expanded.cost = named e.state expanded.cost expanded.reached in
      with_entry task flat e entries n.state n.stands
      (record { cost = whole (pos expanded.cost); reached = n.reached; due = none_below task flat t of expanded.cost expanded.due; no_goal = n.goal ∙ expanded.no_goal })
      (of_entries claim entries (All-tail (IsExpandedEntry flat claim) e entries all))

  module _ (claim : Limit) (entries : List Entry) (all : All (IsExpandedEntry flat claim) entries) (once : (number : ℕ) → IsRepeated entries number → ⊥) where
    their : AreOfEntries task flat entries
    their = of_entries claim entries all

    -- a later place has another state
    later : (i j : ℕ) (s : State) → slice_get their.states i ≡ Some s → slice_get their.states j ≡ Some s → i < j → ⊥
    later i j s hi hj before =
        let a = their.each i s hi in
        let b = their.each j s hj in
        once j (record {
          earlier = i;
          before = before;
          first = a.entry;
          second = b.entry;
          first_is = a.there;
          second_is = b.there;
          same = stands_for_one flat s a.entry.state b.entry.state a.stands b.stands;
        })

    distinct : AreDistinct their.states
    distinct i j s hi hj = by (cases_lt i j) (cases_lt j i)
      where
        by : (i < j) ⊎ (j ≤ i) → (j < i) ⊎ (i ≤ j) → i ≡ j
        by (inl less) other = absurd (later i j s hi hj less)
        by (inr most) (inl less) = absurd (later j i s hj hi less)
        by (inr most) (inr least) = omega (arith, most, least)

    -- a state by names is that of an entry only where its flat state is
    among_entries : (s : State) (f : FlatState) → StandsFor flat s f → Contains their.states s → Contains (map (λ e. e.state) entries) f
    among_entries s f stands there =
        let a = their.each there.0 s (placed_contained their.states s there) in
        let same : a.entry.state ≡ f = stands_for_one flat s a.entry.state f a.stands stands in
        contains_placed (map (λ (e : Entry). e.state) entries) there.0 f
        (slice_get-map (λ (e : Entry). e.state) entries there.0 ∙ ap (option_map (λ (e : Entry). e.state)) a.there ∙ ap Some same)

    -- a list that holds every state that can be reached holds these
    all_held : (held : List State) → ((s : State) (cost : Fraction) → Reaches task s cost → Contains held s) → All (Contains held) their.states
    all_held held holds k d lt =
        let a = their.each k (get_or their.states k d) (slice_get-get_or their.states k d lt) in
        holds (get_or their.states k d) a.reached.cost a.reached.reached

    pub spent : (nodes bound : ℕ) → NoPlanBelow flat bound → IsSpentOn flat nodes bound entries → IsSpent task nodes bound
    spent nodes bound none on =
        let n : IsNamed task flat on.further on.further_cost = named on.further on.further_cost on.further_reached in
        let new : Contains their.states n.state → ⊥ = λ there. on.further_new (among_entries n.state on.further n.stands there) in
        record {
          none_cheaper = none_below task flat t of bound none;
          states = their.states;
          count = their.count ∙ on.count;
          distinct = distinct;
          reached = λ k d lt. (their.each k (get_or their.states k d) (slice_get-get_or their.states k d lt)).reached;
          further = n.state;
          further_within = record { cost = whole (pos on.further_cost); reached = n.reached; cheap = whole_at_most on.further_cost bound on.further_near };
          further_new = new;
          further_no_goal = n.goal ∙ on.further_no_goal;
          no_small_space = λ held holds.
              subst (λ m. m < length held) (their.count ∙ on.count)
              (further_cover n.state their.states held distinct new (holds n.state (whole (pos on.further_cost)) n.reached) (all_held held holds));
        }
