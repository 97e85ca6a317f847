-- The bounds of a graph are ones, since the distances are.
use Rattle.std.proofs.Common.{◌≡◌, ℕ, zero, suc, ◌+◌, ◌<◌, Bool, true, false, ◌&&◌, ℤ, pos, List, [], ◌∷◌, length, map, get_or, Option, Some, None, refl, sym, ap, ◌∙◌, subst, arith, true≢false}
use Rattle.std.specs.Prelude.{slice_get, if◌then◌else◌}
use Rattle.std.specs.List.{list_all}
use Rattle.std.specs.Option.{option_map, option_and_then}
use Rattle.std.specs.Ordering.{int_eq}
use Rattle.std.proofs.lemmas.Bool.{leb-true, le-leb}
use Rattle.std.proofs.lemmas.Bool.Decides.{Decides-int_eq}
use Rattle.std.proofs.lemmas.Option.{some_pair_parts, none-some, slice_get-get_or}
use Rattle.np_frac.specs.Fractions.{Fraction, whole}
use Rattle.np_frac.specs.Field.{whole_num}
use Rattle.np_state.specs.StateValues.{StateValue}
use Rattle.np_space.specs.Runs.{run}
use Rattle.np_space.specs.Bounds.{IsBoundAt, IsAtMostCost, is_at_most, sum_of}
use Rattle.np_space.specs.declared.bound.Bound.{Bound}
use Rattle.np_space.specs.declared.bound.Bound.TheVariants.{AtLeast, NoPlan}
use Rattle.np_cases.specs.Graphs.{at_place, place_of, along, next_along, is_at, bound_of, bound_at, is_short, is_below, IsGraph}

-- what is at most a bound of a cost is at most the cost
pub cheaper : (b c : Bound) (cost : ℕ) → is_at_most b c ≡ true → IsAtMostCost c cost → IsAtMostCost b cost
cheaper b NoPlan cost e h = absurd h
cheaper NoPlan (AtLeast n) cost e h = absurd (true≢false (sym e))
cheaper (AtLeast m) (AtLeast n) cost e h = omega (arith, leb-true m n e)

-- a cost and a bound of another
more : (price cost : ℕ) (b : Bound) → IsAtMostCost b cost → IsAtMostCost (sum_of (AtLeast price) b) (price + cost)
more price cost NoPlan h = h
more price cost (AtLeast n) h = omega arith

both_of : (a b : Bool) → (a && b) ≡ true → (a ≡ true) × (b ≡ true)
both_of true b e = (refl, e)
both_of false b e = absurd (cc)

-- what all pass, the one of a number passes
pub at_all : {X : Type 0} (p : X → Bool) (xs : List X) (n : ℕ) (x : X) → list_all p xs ≡ true → slice_get xs n ≡ Some x → p x ≡ true
at_all p [] n x all at = absurd (none-some x at)
at_all p (y ∷ ys) zero x all at = let e : y ≡ x = cc in subst (λ z. p z ≡ true) e (both_of (p y) (list_all p ys) all).0
at_all p (y ∷ ys) (suc n) x all at = at_all p ys n x (both_of (p y) (list_all p ys) all).1 at

-- a bound of the table is at most the distance
pub below_all : (distances rows : List (ℤ × Option ℕ)) (z : ℤ) → list_all (is_below distances) rows ≡ true → is_at_most (bound_at rows z) (bound_at distances z) ≡ true
below_all distances [] z all = least (bound_at distances z)
  where
    least : (b : Bound) → is_at_most (AtLeast 0) b ≡ true
    least NoPlan = refl
    least (AtLeast n) = le-leb 0 n (omega arith)
below_all distances (row ∷ rows) z all = by (int_eq row.0 z) refl (both_of (is_below distances row) (list_all (is_below distances) rows) all) (below_all distances rows z)
  where
    by : (b : Bool) → int_eq row.0 z ≡ b → (is_below distances row ≡ true) × (list_all (is_below distances) rows ≡ true) → (list_all (is_below distances) rows ≡ true → is_at_most (bound_at rows z) (bound_at distances z) ≡ true)
        → is_at_most (if b then bound_of row.1 else bound_at rows z) (bound_at distances z) ≡ true
    by true e parts rest = subst (λ (y : ℤ). is_at_most (bound_of row.1) (bound_at distances y) ≡ true) ((Decides-int_eq row.0 z).0 e) parts.0
    by false e parts rest = rest parts.1

module _ (edges : List (ℤ × ℤ × ℕ)) (goal : ℤ) (bounds distances : List (ℤ × Option ℕ)) (graph : IsGraph edges goal bounds distances) where
  -- a plan's first edge, and the rest of it
  from_edge : (s end : StateValue) (n : ℕ) (ns : List ℕ) (e : ℤ × ℤ × ℕ) (cost : ℕ) → slice_get edges n ≡ Some e → ((t : StateValue) (rest : ℕ) → run (next_along edges) ns t ≡ Some (end, rest) → IsAtMostCost (bound_at distances (place_of t)) rest)
      → option_and_then (λ (t : StateValue × ℕ). option_map {U = StateValue × ℕ} (λ (x : StateValue × ℕ). (x.0, t.1 + x.1)) (run (next_along edges) ns t.0)) (along s e) ≡ Some (end, cost) → IsAtMostCost (bound_at distances (place_of s)) cost
  from_edge s end n ns e cost at rest ran = by (int_eq e.0 (place_of s)) refl ran
    where
      last : (o : Option (StateValue × ℕ)) → run (next_along edges) ns (at_place e.1) ≡ o → int_eq e.0 (place_of s) ≡ true → option_map {U = StateValue × ℕ} (λ (x : StateValue × ℕ). (x.0, e.2 + x.1)) o ≡ Some (end, cost) → IsAtMostCost (bound_at distances (place_of s)) cost
      last None r here f = absurd (none-some (end, cost) f)
      last (Some x) r here f =
          let parts = some_pair_parts x.0 end (e.2 + x.1) cost f in
          let left : IsAtMostCost (bound_at distances e.1) x.1 = subst (λ (z : ℤ). IsAtMostCost (bound_at distances z) x.1) (whole_num e.1) (rest (at_place e.1) x.1 (r ∙ ap (λ (t : StateValue). Some (t, x.1)) parts.0)) in
          let through : IsAtMostCost (bound_at distances e.0) (e.2 + x.1) =
          cheaper (bound_at distances e.0) (sum_of (AtLeast e.2) (bound_at distances e.1)) (e.2 + x.1) (at_all (is_short distances) edges n e graph.short at) (more e.2 x.1 (bound_at distances e.1) left) in
          subst (λ (c : ℕ). IsAtMostCost (bound_at distances (place_of s)) c) parts.1 (subst (λ (z : ℤ). IsAtMostCost (bound_at distances z) (e.2 + x.1)) ((Decides-int_eq e.0 (place_of s)).0 here) through)

      by : (b : Bool) → int_eq e.0 (place_of s) ≡ b → option_and_then (λ (t : StateValue × ℕ). option_map {U = StateValue × ℕ} (λ (x : StateValue × ℕ). (x.0, t.1 + x.1)) (run (next_along edges) ns t.0)) (if b then Some (at_place e.1, e.2) else None) ≡ Some (end, cost)
          → IsAtMostCost (bound_at distances (place_of s)) cost
      by true here f = last (run (next_along edges) ns (at_place e.1)) refl here f
      by false here f = absurd (none-some (end, cost) f)

  -- each plan costs at least the distance
  far : (ns : List ℕ) (s end : StateValue) (cost : ℕ) → run (next_along edges) ns s ≡ Some (end, cost) → is_at goal end ≡ true → IsAtMostCost (bound_at distances (place_of s)) cost
  far [] s end cost ran at_goal =
      let parts = some_pair_parts s end 0 cost ran in
      let here : place_of s ≡ goal = ap place_of parts.0 ∙ (Decides-int_eq (place_of end) goal).0 at_goal in
      cheaper (bound_at distances (place_of s)) (AtLeast 0) cost (ap (λ (z : ℤ). is_at_most (bound_at distances z) (AtLeast 0)) here ∙ graph.at_goal) (omega arith)
  far (n ∷ ns) s end cost ran at_goal =
      by (slice_get edges n) refl ran (λ t rest r. far ns t end rest r at_goal)
    where
      by : (o : Option (ℤ × ℤ × ℕ)) → slice_get edges n ≡ o → option_and_then (λ (t : StateValue × ℕ). option_map {U = StateValue × ℕ} (λ (x : StateValue × ℕ). (x.0, t.1 + x.1)) (run (next_along edges) ns t.0)) (option_and_then (along s) o) ≡ Some (end, cost)
          → ((t : StateValue) (rest : ℕ) → run (next_along edges) ns t ≡ Some (end, rest) → IsAtMostCost (bound_at distances (place_of t)) rest) → IsAtMostCost (bound_at distances (place_of s)) cost
      by None e f rest = absurd (none-some (end, cost) f)
      by (Some edge) e f rest = from_edge s end n ns edge cost e rest f

  pub is_bound : (s : StateValue) (z : ℤ) (b : Bound) → z ≡ place_of s → b ≡ bound_at bounds z → IsBoundAt (next_along edges) (is_at goal) s b
  is_bound s z b here e = record {
    least = λ steps cost plan. cheaper b (bound_at distances (place_of s)) cost (ap (λ (c : Bound). is_at_most c (bound_at distances (place_of s))) (e ∙ ap (bound_at bounds) here) ∙ below_all distances bounds (place_of s) graph.below) (far steps s plan.end cost plan.ran plan.at_goal);
  }

-- the first cell
pub first_some : (zs : List ℤ) (z x : ℤ) → Some z ≡ slice_get zs 0 → whole x ≡ whole z → x ≡ (get_or (map whole zs) 0 (whole (pos 0))).num
first_some [] z x at e = absurd (none-some z (sym at))
first_some (y ∷ ys) z x at e = let same : z ≡ y = cc in sym (whole_num x) ∙ ap (λ (f : Fraction). f.num) (e ∙ ap whole same)

pub first_none : (zs : List ℤ) → None ≡ slice_get zs 0 → pos 0 ≡ (get_or (map whole zs) 0 (whole (pos 0))).num
first_none [] at = sym (whole_num (pos 0))
first_none (y ∷ ys) at = absurd (none-some y at)

-- what an edge leads to
pub edge_taken : (edges : List (ℤ × ℤ × ℕ)) (s after : StateValue) (n : ℕ) (cost : ℕ) → n < length edges → int_eq (get_or edges n (pos 0, pos 0, 0)).0 (place_of s) ≡ true → after ≡ at_place (get_or edges n (pos 0, pos 0, 0)).1 → cost ≡ (get_or edges n (pos 0, pos 0, 0)).2 → Some (after, cost) ≡ next_along edges s n
edge_taken edges s after n cost within here is price =
    (λ i. Some (is i, price i))
    ∙ sym
    (ap (option_and_then (along s)) (slice_get-get_or edges n (pos 0, pos 0, 0) within)
    ∙ ap (λ b. if b then Some (at_place (get_or edges n (pos 0, pos 0, 0)).1, (get_or edges n (pos 0, pos 0, 0)).2) else None) here)
