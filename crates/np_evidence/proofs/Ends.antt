-- What the three ends of a search come to.
use Rattle.std.proofs.Common.{◌≡◌, ℕ, ℤ, ◌^◌, ◌≤◌, ◌<◌, All, Contains, IsTrue, List, length, map, reverse, Option, Some, None, slice_get, Vec, Global, option_map, ⊎_elim, refl, sym, ap, ◌∙◌, subst, true≢false, arith}
use Rattle.std.proofs.lemmas.Bool.{cases_lt}
use Rattle.std.proofs.lemmas.List.{length-map, length-reverse, reverse-reverse}
use Rattle.std.proofs.lemmas.List.Elements.{All-map}
use Rattle.std.proofs.lemmas.Option.{none-some, same_Some, slice_get-map}
use Rattle.np_state.specs.StateValues.{StateValue}
use Rattle.np_space.specs.declared.bound.Bound.{Bound}
use Rattle.np_space.specs.declared.bound.Bound.TheVariants.{AtLeast, NoPlan}
use Rattle.np_search.specs.declared.tree.Node.{Node}
use Rattle.np_search.specs.declared.tree.Tree.{Tree}
use Rattle.np_search.specs.Outcomes.{IsCheapestAt, IsSpentAt}
use Rattle.np_flat.specs.declared.state.FlatState.{FlatState}
use Rattle.np_flat.specs.declared.parts.Parts.{Parts}
use Rattle.np_flat.specs.Flats.{IsFlat}
use Rattle.np_flat.specs.Plans.{Reaches}
use Rattle.np_blind.specs.Readings.{flat_of}
use Rattle.np_blind.specs.Spaces.{first_of, is_goal_at, next_of, IsBlind}
use Rattle.np_cert.specs.declared.certificate.Limit.{Limit}
use Rattle.np_cert.specs.declared.certificate.Limit.TheVariants.{Number, Absent}
use Rattle.np_cert.specs.declared.certificate.Entry.{Entry}
use Rattle.np_cert.specs.declared.certificate.Certificate.{Certificate}
use Rattle.np_cert.specs.Layout.{certificate_text}
use Rattle.np_cert.specs.Valid.{is_small}
use Rattle.np_evidence.specs.declared.outcome.End.TheVariants as end
use Rattle.np_evidence.specs.Certified.{IsCertifiedBy, IsSpentOn}
use Rattle.np_evidence.specs.Entries.{entries_of, certificate_of}
use Rattle.np_evidence.specs.Outcomes.{IsCheapest, IsOutcomeOf}
use Rattle.np_evidence.specs.Searches.{HasWayBack, IsWayTo}
use Rattle.np_evidence.proofs.Certificates.{certified}
use Rattle.np_evidence.proofs.Cover.{AreOnce, placed_contained, further_cover}
use Rattle.np_evidence.proofs.EntryLists.{entry_from, entries_all, entries_count, no_repeat}
use Rattle.np_evidence.proofs.Nodes.{IsRightIn, kept_reaches, kept_small, apart, f_is, plans_cost}
use Rattle.np_evidence.proofs.Runs.{IsFlatRun, flat_run}
use Rattle.np_evidence.proofs.WaysBack.{one_way}

-- a goal that a search of the task's space found
abbrev pub IsGoalIn : Parts → List StateValue → List Node → ℕ → ℕ → Type 0
IsGoalIn task states nodes i n = IsCheapestAt (next_of task) (is_goal_at task) (first_of task) (λ s j. IsBlind j) states nodes i n

-- and its end at a spent budget
abbrev pub IsSpentIn : Parts → List StateValue → List Node → ℕ → ℕ → Type 0
IsSpentIn task states nodes bound n = IsSpentAt (next_of task) (is_goal_at task) (first_of task) (λ s j. IsBlind j) states nodes (AtLeast bound) n

-- an entry of which a state is
record IsOfEntry (entries : List Entry) (k : ℕ) (t : FlatState) : Type 0 where
  e : Entry
  there : slice_get entries k ≡ Some e
  is : e.state ≡ t

of_entry : (entries : List Entry) (k : ℕ) (t : FlatState) → slice_get (map (λ (e : Entry). e.state) entries) k ≡ Some t → IsOfEntry entries k t
of_entry entries k t h = by (slice_get entries k) refl (sym (slice_get-map (λ (e : Entry). e.state) entries k) ∙ h)
  where
    by : (o : Option Entry) → slice_get entries k ≡ o → option_map (λ (e : Entry). e.state) o ≡ Some t → IsOfEntry entries k t
    by None is f = absurd (none-some t f)
    by (Some e) is f = record { e = e; there = is; is = same_Some e.state t f }

module _ (task : Parts) (flat : IsFlat task) (states : List StateValue) (nodes : List Node) (n : ℕ) (few : n ≤ 2 ^ 24) where
  -- the way back from any state is short
  pub has_way : (claim : Bound) → IsRightIn task states nodes claim n → (i : ℕ) (s : StateValue) (node : Node) → slice_get states i ≡ Some s → slice_get nodes i ≡ Some node → HasWayBack nodes i n
  has_way claim right i s node hs hn = let r = right.runs i s node (record { state = hs; found = hn }) in record { back = r.back; way = r.way; few = r.few }

  -- a cheapest plan
  plan_ended : (i : ℕ) (c : IsGoalIn task states nodes i n) (steps : List ℕ) → IsWayTo nodes i steps → IsCheapest task n steps c.cost
  plan_ended i c steps way =
      let at = c.at in
      let r = c.right.runs i at.s at.node at.kept in
      let same : reverse r.back ≡ steps = ap reverse (one_way nodes i r.back (reverse steps) r.way way) ∙ reverse-reverse steps in
      let run : IsFlatRun task steps at.s at.node.cost = subst (λ (ss : List ℕ). IsFlatRun task ss at.s at.node.cost) same (flat_run task (reverse r.back) at.s at.node.cost flat r.ran) in
      record {
        leads = record { end = flat_of at.s; runs = run.runs; goal = at.at_goal };
        costs = sym at.cost_is ∙ run.costs;
        none_cheaper = plans_cost task flat states nodes (AtLeast c.cost) n few c.right;
        few = let long = ap length same in omega (arith, r.few, length-reverse r.back, long);
      }

  goal_small : (i : ℕ) (c : IsGoalIn task states nodes i n) → IsTrue (is_small (Number c.cost))
  goal_small i c = subst (λ (k : ℕ). IsTrue (is_small (Number k))) c.at.cost_is (kept_small task flat states nodes (AtLeast c.cost) n few c.right i c.at.s c.at.node c.at.kept)

  -- a spent budget
  module _ (bound : ℕ) (spent : IsSpentIn task states nodes bound n) where
    near : spent.spent.node.cost ≡ bound
    near =
        let e : AtLeast spent.spent.node.cost ≡ AtLeast bound =
        sym (f_is task flat states nodes (AtLeast bound) n few spent.right spent.spent.at spent.spent.s spent.spent.node spent.spent.kept) ∙ spent.spent.due in
        cc

    spent_small : IsTrue (is_small (Number bound))
    spent_small =
        subst (λ (k : ℕ). IsTrue (is_small (Number k))) near
        (kept_small task flat states nodes (AtLeast bound) n few spent.right spent.spent.at spent.spent.s spent.spent.node spent.spent.kept)

    abbrev entries : List Entry
    entries = entries_of (Number bound) states nodes

    abbrev reached : List FlatState
    reached = map (λ (e : Entry). e.state) entries

    further_new : Contains reached (flat_of spent.spent.s) → ⊥
    further_new there =
        let o = of_entry entries there.0 (flat_of spent.spent.s) (placed_contained reached (flat_of spent.spent.s) there) in
        let f = entry_from (Number bound) states nodes there.0 o.e o.there in
        let place : f.i ≡ spent.spent.at =
        apart task flat states nodes (AtLeast bound) n few spent.right f.i spent.spent.at f.s spent.spent.s f.kept.state spent.spent.kept.state (ap (λ (e : Entry). e.state) f.is ∙ o.is) in
        let same : f.node ≡ spent.spent.node = same_Some f.node spent.spent.node (sym f.kept.found ∙ ap (slice_get nodes) place ∙ spent.spent.kept.found) in
        true≢false (sym f.expanded ∙ ap (λ (x : Node). x.expanded) same ∙ spent.spent.fresh)

    once : AreOnce reached
    once i j t hi hj =
        let one = of_entry entries i t hi in
        let other = of_entry entries j t hj in
        let no = no_repeat (Number bound) states nodes (apart task flat states nodes (AtLeast bound) n few spent.right) in
        ⊎_elim
        (λ (lt : i < j). absurd (no i j one.e other.e lt one.there other.there (one.is ∙ sym other.is)))
        (λ (le : j ≤ i). ⊎_elim
        (λ (lt : j < i). absurd (no j i other.e one.e lt other.there one.there (other.is ∙ sym one.is)))
        (λ (ge : i ≤ j). omega (arith, le, ge))
        (cases_lt j i))
        (cases_lt i j)

    all_held : (held : List FlatState) → ((s : FlatState) (cost : ℕ) → Reaches task s cost → Contains held s) → All (Contains held) reached
    all_held held holds =
        All-map (Contains held) (λ (e : Entry). e.state) entries
        (entries_all (λ (e : Entry). Contains held e.state) (Number bound) states nodes
        (λ i s node kept expanded. holds (flat_of s) node.cost (kept_reaches task flat states nodes (AtLeast bound) n few spent.right i s node kept)))

    spent_on : IsSpentOn task n bound entries
    spent_on = record {
      count = entries_count (Number bound) states nodes spent.right.one_node ∙ spent.spent.spent;
      further = flat_of spent.spent.s;
      further_cost = spent.spent.node.cost;
      further_reached = kept_reaches task flat states nodes (AtLeast bound) n few spent.right spent.spent.at spent.spent.s spent.spent.node spent.spent.kept;
      further_near = omega (arith, near);
      further_new = further_new;
      further_no_goal = spent.spent.no_goal;
      no_small_space = λ held holds.
          let first =
          holds (flat_of spent.spent.s) spent.spent.node.cost
          (kept_reaches task flat states nodes (AtLeast bound) n few spent.right spent.spent.at spent.spent.s spent.spent.node spent.spent.kept) in
          let more : length reached < length held = further_cover (flat_of spent.spent.s) reached held once further_new first (all_held held holds) in
          let many : length reached ≡ length entries = length-map entries (λ (e : Entry). e.state) in
          let count : length entries ≡ n = entries_count (Number bound) states nodes spent.right.one_node ∙ spent.spent.spent in
          omega (arith, more, many, count);
    }

module _ (task : Parts) (flat : IsFlat task) (n : ℕ) (few : n ≤ 2 ^ 24) (tree : Tree ℤ) where
  -- bytes that are the text of a certificate
  in_text : (claim : Limit) (c : Certificate) (bytes : List ℕ) → bytes ≡ certificate_text c → IsCertifiedBy task n claim (certificate_text c) c → IsCertifiedBy task n claim bytes c
  in_text claim c bytes written by = subst (λ (text : List ℕ). IsCertifiedBy task n claim text c) (sym written) by

  -- what is said of an outcome with the text of this certificate
  pub goal_outcome : (i : ℕ) (c : IsGoalIn task tree.states tree.nodes.items i n) (steps : Vec ℕ Global) → IsWayTo tree.nodes.items i steps.items → (cost : ℕ) → c.cost ≡ cost
      → (text : Vec ℕ Global) → text.items ≡ certificate_text (certificate_of (Number cost) tree.states tree.nodes.items)
      → IsOutcomeOf task n (record { end = end.Plan steps cost; text = text })
  goal_outcome i c steps way cost is text written =
      subst (λ (k : ℕ). text.items ≡ certificate_text (certificate_of (Number k) tree.states tree.nodes.items) → IsOutcomeOf task n (record { end = end.Plan steps k; text = text })) is
      (λ written. record {
        certificate = certificate_of (Number c.cost) tree.states tree.nodes.items;
        ends = plan_ended task flat tree.states tree.nodes.items n few i c steps.items way;
        certified = in_text (Number c.cost) (certificate_of (Number c.cost) tree.states tree.nodes.items) text.items written
            (certified task flat tree.states tree.nodes.items (AtLeast c.cost) n few c.right (goal_small task flat tree.states tree.nodes.items n few i c));
      })
      written

  pub empty_outcome : IsRightIn task tree.states tree.nodes.items NoPlan n → (text : Vec ℕ Global) → text.items ≡ certificate_text (certificate_of Absent tree.states tree.nodes.items)
      → IsOutcomeOf task n (record { end = end.NoPlan; text = text })
  empty_outcome right text written = record {
    certificate = certificate_of Absent tree.states tree.nodes.items;
    ends = plans_cost task flat tree.states tree.nodes.items NoPlan n few right;
    certified = in_text Absent (certificate_of Absent tree.states tree.nodes.items) text.items written
        (certified task flat tree.states tree.nodes.items NoPlan n few right refl);
  }

  pub spent_outcome : (bound : ℕ) → IsSpentIn task tree.states tree.nodes.items bound n → (text : Vec ℕ Global) → text.items ≡ certificate_text (certificate_of (Number bound) tree.states tree.nodes.items)
      → IsOutcomeOf task n (record { end = end.Spent bound; text = text })
  spent_outcome bound spent text written = record {
    certificate = certificate_of (Number bound) tree.states tree.nodes.items;
    ends = (plans_cost task flat tree.states tree.nodes.items (AtLeast bound) n few spent.right, spent_on task flat tree.states tree.nodes.items n few bound spent);
    certified = in_text (Number bound) (certificate_of (Number bound) tree.states tree.nodes.items) text.items written
        (certified task flat tree.states tree.nodes.items (AtLeast bound) n few spent.right (spent_small task flat tree.states tree.nodes.items n few bound spent));
  }
