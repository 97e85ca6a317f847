-- The way back from a node by the parents.
use Rattle.std.proofs.Common.{◌≡◌, ℕ, ◌-◌, ◌<◌, ◌≤◌, List, [], ◌∷◌, ◌++◌, length, Some, slice_get, refl, sym, ap, ◌∙◌, subst, arith}
use Rattle.std.proofs.lemmas.List.{append_assoc}
use Rattle.std.proofs.lemmas.Option.{same_Some, none-some, slice_get_within, some_pair_parts}
use Rattle.np_search.specs.declared.tree.Node.{Node}
use Rattle.np_search.specs.Outcomes.{IsWayBack}
use Rattle.np_evidence.specs.Searches.{HasWayBack}

-- a node whose way back is known
record IsThere (nodes : List Node) (i : ℕ) : Type 0 where
  node : Node
  found : slice_get nodes i ≡ Some node

way_there : (nodes : List Node) (i : ℕ) (back : List ℕ) → IsWayBack nodes i back → IsThere nodes i
way_there nodes i [] way = record { node = way.0; found = way.1 }
way_there nodes i (step ∷ back) way = record { node = way.0; found = way.2 }

-- so the node is within the list
pub way_within : (nodes : List Node) (i n : ℕ) → HasWayBack nodes i n → i < length nodes
way_within nodes i n has = let there = way_there nodes i has.back has.way in slice_get_within nodes i there.node there.found

-- the steps so far, and then any way back from here
pub record IsGathered (nodes : List Node) (start at : ℕ) (steps : List ℕ) : Type 0 where
  pub whole : (back : List ℕ) → IsWayBack nodes at back → IsWayBack nodes start (steps ++ back)

pub gathered_none : (nodes : List Node) (at : ℕ) → IsGathered nodes at at []
gathered_none nodes at = record { whole = λ back way. way }

pub gathered_more : (nodes : List Node) (start at parent step : ℕ) (steps : List ℕ) (node : Node) → slice_get nodes at ≡ Some node → node.parent ≡ Some (parent, step)
    → IsGathered nodes start at steps → IsGathered nodes start parent (steps ++ step ∷ [])
gathered_more nodes start at parent step steps node found is g = record {
  whole = λ back way. subst (IsWayBack nodes start) (sym (append_assoc steps (step ∷ []) back)) (g.whole (step ∷ back) (node, parent, found, is, way));
}

-- one step less is left after a step
pub way_less : (nodes : List Node) (at parent step n : ℕ) (node : Node) → slice_get nodes at ≡ Some node → node.parent ≡ Some (parent, step) → HasWayBack nodes at n → HasWayBack nodes parent (n - 1)
way_less nodes at parent step n node found is has = by has.back has.way has.few
  where
    by : (back : List ℕ) → IsWayBack nodes at back → length back ≤ n → HasWayBack nodes parent (n - 1)
    by [] way few =
        let same : node ≡ way.0 = same_Some node way.0 (sym found ∙ way.1) in
        absurd (none-some (parent, step) (sym (ap (λ (x : Node). x.parent) same ∙ way.2) ∙ is))
    by (k ∷ back) way few =
        let same : node ≡ way.0 = same_Some node way.0 (sym found ∙ way.2) in
        let link = some_pair_parts parent way.1 step k (sym is ∙ ap (λ (x : Node). x.parent) same ∙ way.3) in
        record { back = back; way = subst (λ (j : ℕ). IsWayBack nodes j back) (sym link.0) way.4; few = omega (arith, few) }

-- where no step is left, it is the way
pub way_ended : (nodes : List Node) (at n : ℕ) → n ≡ 0 → HasWayBack nodes at n → IsWayBack nodes at []
way_ended nodes at n none has = by has.back has.way has.few
  where
    by : (back : List ℕ) → IsWayBack nodes at back → length back ≤ n → IsWayBack nodes at []
    by [] way few = way
    by (k ∷ back) way few = absurd (omega arith)

-- a node has one way back
pub one_way : (nodes : List Node) (i : ℕ) (one other : List ℕ) → IsWayBack nodes i one → IsWayBack nodes i other → one ≡ other
one_way nodes i [] [] a b = refl
one_way nodes i [] (k ∷ other) a b =
    let same : a.0 ≡ b.0 = same_Some a.0 b.0 (sym a.1 ∙ b.2) in
    absurd (none-some (b.1, k) (sym a.2 ∙ ap (λ (x : Node). x.parent) same ∙ b.3))
one_way nodes i (k ∷ one) [] a b =
    let same : b.0 ≡ a.0 = same_Some b.0 a.0 (sym b.1 ∙ a.2) in
    absurd (none-some (a.1, k) (sym b.2 ∙ ap (λ (x : Node). x.parent) same ∙ a.3))
one_way nodes i (k ∷ one) (m ∷ other) a b =
    let same : a.0 ≡ b.0 = same_Some a.0 b.0 (sym a.2 ∙ b.2) in
    let link = some_pair_parts a.1 b.1 k m (sym a.3 ∙ ap (λ (x : Node). x.parent) same ∙ b.3) in
    ap (λ (s : ℕ). s ∷ one) link.1
    ∙ ap (λ (ss : List ℕ). m ∷ ss) (one_way nodes b.1 one other (subst (λ (j : ℕ). IsWayBack nodes j one) link.0 a.4) b.4)
