-- What the code reads and writes when it takes a step.
use Rattle.std.proofs.Common.{◌≡◌, ℕ, ◌+◌, ◌^◌, ◌<◌, ◌≤◌, Bool, true, false, List, [], ◌∷◌, ◌++◌, Option, Some, length, get_or, slice_get, refl, sym, ap, subst, ◌∙◌, arith}
use Rattle.std.proofs.lemmas.Bool.Decides.{when_true, when_false}
use Rattle.std.proofs.lemmas.Option.{same_Some, slice_get_read, slice_get_within}
use Rattle.np_frac.specs.Fractions.{Fraction}
use Rattle.np_state.specs.StateValues.{StateValue}
use Rattle.np_state.specs.States.{value_of}
use Rattle.np_state.specs.Interning.{IsNumberOf, IsAdded, IsFound as IsThere}
use Rattle.np_state.specs.declared.state.State.{State}
use Rattle.np_space.specs.Runs.{Next, IsReachedWithin}
use Rattle.np_space.specs.Successors.{successor_of}
use Rattle.np_space.specs.declared.judged.Judged.{Judged}
use Rattle.np_search.specs.declared.tree.Node.{Node}
use Rattle.np_search.specs.Opens.{Entries}
use Rattle.np_search.specs.Frontiers.{IsKeptAt}
use Rattle.np_search.specs.Outcomes.{expanded_count}
use Rattle.np_search.specs.Spaces.{IsSameSpace}
use Rattle.np_search.specs.Changes.{IsNarrow, IsNarrowAt, IsLowered, IsPushed, IsFound}
use Rattle.np_search.specs.Trees.{IsTree, IsUnderWay}
use Rattle.np_search.proofs.Places.{get_beside, get_at_push}
use Rattle.np_search.proofs.Runs.{reached_longer, reached_weaker}
use Rattle.np_search.proofs.Steps.{IsTaken}
use Rattle.np_search.proofs.Adding.{taken_new}
use Rattle.np_search.proofs.Lowering.{taken_known}
use Rattle.np_search.proofs.Spaces.{tree_kept}

-- what a space answers about a step is the step
pub step_goes : {C : Type 0} (value : C → Fraction) (next : Next StateValue) (s said : StateValue) (step : ℕ) (o : Option (State C × ℕ)) (state : State C) (price : ℕ) → said ≡ s → successor_of value o ≡ next said step → o ≡ Some (state, price) → next s step ≡ Some (value_of value state, price)
step_goes value next s said step o state price same answer is = ap (λ (x : StateValue). next x step) (sym same) ∙ sym answer ∙ ap (successor_of value) is

-- the element that is read
pub read_node : (nodes : List Node) (at : ℕ) (known read : Node) → slice_get nodes at ≡ Some known → read ≡ get_or nodes at read → read ≡ known
read_node nodes at known read there e = same_Some read known (sym (slice_get_read nodes (length nodes) at read refl (slice_get_within nodes at known there) e) ∙ there)

module _ (next : Next StateValue) (goal : StateValue → Bool) (first : StateValue) (fits : StateValue → Judged → Type 0) (states : List StateValue) (nodes : List Node) (list : Entries) (but : Option ℕ) (t : IsTree next goal first fits states nodes list but) (few : expanded_count nodes ≤ 2 ^ 24) where
  n_few : t.n ≤ 2 ^ 24
  n_few = let h = t.counted in omega (arith, few, h)

  -- a kept state is reached by few steps
  pub kept_reached : (i : ℕ) (s : StateValue) (node : Node) → IsKeptAt states nodes i s node → IsReachedWithin next first (2 ^ 24) s
  kept_reached i s node k =
      let near = (t.sound i s node k).near in
      let h = n_few in
      reached_weaker next first near.depth (2 ^ 24) s (omega (arith, near.few, h)) near.reached

  pub kept_narrow : (i : ℕ) (s : StateValue) (node : Node) → IsKeptAt states nodes i s node → IsNarrow node
  kept_narrow i s node k =
      let sound = t.sound i s node k in
      let few = sound.near.few in
      let cheap = sound.near.cheap in
      let h = n_few in
      record { small = sound.small; cost = omega (arith, few, cheap, h) }

  -- so is the state after one more step, at a small cost
  pub after_reached : (i : ℕ) (s : StateValue) (node : Node) (step : ℕ) (after : StateValue) (price : ℕ) → IsKeptAt states nodes i s node → node.expanded ≡ true → next s step ≡ Some (after, price) → IsReachedWithin next first (2 ^ 24) after
  after_reached i s node step after price k e goes =
      let near = (t.sound i s node k).near in
      let fewer : near.depth < t.n = near.fewer e in
      let h = n_few in
      reached_weaker next first (near.depth + 1) (2 ^ 24) after (omega (arith, fewer, h)) (reached_longer next first near.depth s step after price near.reached goes)

  pub after_cheap : (i : ℕ) (s : StateValue) (node : Node) (price : ℕ) → IsKeptAt states nodes i s node → node.expanded ≡ true → price < 2 ^ 32 → node.cost + price ≤ 2 ^ 57
  after_cheap i s node price k e small =
      let near = (t.sound i s node k).near in
      let fewer : near.depth < t.n = near.fewer e in
      let cheap = near.cheap in
      let h = n_few in
      omega (arith, fewer, cheap, h, small)

  -- a number of a state is a node's
  pub number_narrow : (i : ℕ) (s : StateValue) → slice_get states i ≡ Some s → IsNarrowAt nodes i
  number_narrow i s there =
      let h = get_beside states nodes i s (sym t.one_node) there in
      record { node = h.0; found = h.1; narrow = kept_narrow i s h.0 (record { state = there; found = h.1 }) }

-- a state that was there
pub known_there : (states new : List StateValue) (s : StateValue) (i : ℕ) (b : Bool) → b ≡ false → IsNumberOf states new s i b → IsThere states new s i
known_there states new s i b e h = when_false (IsAdded states new s i) (IsThere states new s i) e h

pub new_added : (states new : List StateValue) (s : StateValue) (i : ℕ) (b : Bool) → b ≡ true → IsNumberOf states new s i b → IsAdded states new s i
new_added states new s i b e h = when_true (IsAdded states new s i) (IsThere states new s i) e h

pub added_is : (states new : List StateValue) (s said : StateValue) (i : ℕ) → IsAdded states new s i → slice_get new i ≡ Some said → s ≡ said
added_is states new s said i a there = same_Some s said (sym (ap (slice_get new) a.number ∙ ap (λ (xs : List StateValue). slice_get xs (length states)) a.last ∙ get_at_push states s) ∙ there)

-- a step to a state that was there
pub taken_found : (next : Next StateValue) (goal : StateValue → Bool) (first : StateValue) (fits : StateValue → Judged → Type 0) (states new : List StateValue) (nodes more : List Node) (before list : Entries) (at step : ℕ) → IsTree next goal first fits states nodes before (Some at) → (u : IsUnderWay next goal states nodes before at step) (after : StateValue) (price : ℕ) → next u.s step ≡ Some (after, price) → (read : Node) → read ≡ u.node → (v : ℕ) → IsThere states new after v → IsLowered nodes more before list v (at, step) (read.cost + price) → IsTaken next goal first fits states new nodes more before list at step
taken_found next goal first fits states new nodes more before list at step t u after price goes read same v there l =
    subst (λ (ss : List StateValue). IsTaken next goal first fits states ss nodes more before list at step) (sym there.same)
    (taken_known next goal first fits states nodes more before list at step t u after price goes v there.there
    (subst (λ (x : Node). IsLowered nodes more before list v (at, step) (x.cost + price)) same l))

module _ {S : Type 0} (first : S → StateValue) (goal : S → StateValue → Bool) (count : S → ℕ) (next_of : S → Next StateValue) (fits : S → StateValue → Judged → Type 0) (old new : S) (same : IsSameSpace first goal count next_of fits old new) where
  -- a step to a state that wasn't there, which the space judged
  pub taken_added : (states more_states : List StateValue) (nodes more : List Node) (before list : Entries) (at step : ℕ) → IsTree (next_of old) (goal old) (first old) (fits old) states nodes before (Some at) → (u : IsUnderWay (next_of old) (goal old) states nodes before at step) (after said : StateValue) (price : ℕ) → next_of old u.s step ≡ Some (after, price) → price < 2 ^ 32 → (read : Node) → read ≡ u.node → (v : ℕ) → IsAdded states more_states after v → after ≡ said → (node : Node) → IsFound (next_of new) (goal new) (fits new) said (Some (at, step)) (read.cost + price) node → IsPushed nodes more before list node → IsTaken (next_of new) (goal new) (first new) (fits new) states more_states nodes more before list at step
  taken_added states more_states nodes more before list at step t u after said price goes small read is v added judged node found pushed =
      let under : IsUnderWay (next_of new) (goal new) states nodes before at step = record {
        s = u.s;
        node = u.node;
        kept = u.kept;
        expanded = u.expanded;
        no_goal = ap (λ (f : StateValue → Bool). f u.s) same.same_goal ∙ u.no_goal;
        absent = u.absent;
        taken = λ k x cost lt e. u.taken k x cost lt (ap (λ (f : Next StateValue). f u.s k) (sym same.same_next) ∙ e);
      }
      in
      let said_found : IsFound (next_of new) (goal new) (fits new) after (Some (at, step)) (u.node.cost + price) node =
      subst (λ (x : StateValue). IsFound (next_of new) (goal new) (fits new) x (Some (at, step)) (u.node.cost + price) node) (sym judged)
      (subst (λ (x : Node). IsFound (next_of new) (goal new) (fits new) said (Some (at, step)) (x.cost + price) node) is found)
      in
      subst (λ (ss : List StateValue). IsTaken (next_of new) (goal new) (first new) (fits new) states ss nodes more before list at step) (sym added.last)
      (subst (λ (ns : List Node). IsTaken (next_of new) (goal new) (first new) (fits new) states (states ++ after ∷ []) nodes ns before list at step) (sym pushed.last)
      (taken_new (next_of new) (goal new) (first new) (fits new) states nodes before list at step
      (tree_kept first goal count next_of fits old new same states nodes before (Some at) t)
      under after price (ap (λ (f : Next StateValue). f u.s step) same.same_next ∙ goes) small node said_found added.absent pushed.put))
