-- No plan costs less than what the frontier claims.
use Rattle.std.proofs.Common.{◌≡◌, ℕ, ◌+◌, ◌≤◌, Bool, true, false, List, [], ◌∷◌, Option, Some, None, refl, sym, ap, subst, ◌∙◌, true≢false, arith}
use Rattle.std.specs.Option.{option_and_then, option_map}
use Rattle.std.proofs.lemmas.Bool.{leb-true}
use Rattle.std.proofs.lemmas.Option.{some_pair_parts}
use Rattle.np_state.specs.StateValues.{StateValue}
use Rattle.np_space.specs.Runs.{Next, run, IsPlan}
use Rattle.np_space.specs.Bounds.{IsAtMostCost, is_at_most, sum_of}
use Rattle.np_space.specs.declared.bound.Bound.{Bound}
use Rattle.np_space.specs.declared.bound.Bound.TheVariants.{AtLeast, NoPlan}
use Rattle.np_search.specs.declared.tree.Node.{Node}
use Rattle.np_search.specs.Frontiers.{IsKeptWithin, IsFrontier}

-- the first step of a run, and the rest
pub record IsFirstStep {S : Type 0} (next : Next S) (s : S) (step : ℕ) (steps : List ℕ) (end : S) (cost : ℕ) : Type 0 where
  pub after : S
  pub price : ℕ
  pub left : ℕ
  pub goes : next s step ≡ Some (after, price)
  pub rest : run next steps after ≡ Some (end, left)
  pub sum : cost ≡ price + left

pub first_step : {S : Type 0} (next : Next S) (s : S) (step : ℕ) (steps : List ℕ) (end : S) (cost : ℕ) → run next (step ∷ steps) s ≡ Some (end, cost) → IsFirstStep next s step steps end cost
first_step {S} next s step steps end cost ran = by (next s step) refl ran
  where
    more : (t : S) (price : ℕ) → next s step ≡ Some (t, price) → (o : Option (S × ℕ)) → run next steps t ≡ o → option_map {U = S × ℕ} (λ (e : S × ℕ). (e.0, price + e.1)) o ≡ Some (end, cost) → IsFirstStep next s step steps end cost
    more t price goes None rest e = absurd (cc)
    more t price goes (Some p) rest e =
        let parts = some_pair_parts p.0 end (price + p.1) cost e in
        record { after = t; price = price; left = p.1; goes = goes; rest = rest ∙ ap (λ (x : S). Some (x, p.1)) parts.0; sum = sym parts.1 }

    by : (o : Option (S × ℕ)) → next s step ≡ o → option_and_then (λ (t : S × ℕ). option_map {U = S × ℕ} (λ (e : S × ℕ). (e.0, t.1 + e.1)) (run next steps t.0)) o ≡ Some (end, cost) → IsFirstStep next s step steps end cost
    by None goes e = absurd (cc)
    by (Some p) goes e = more p.0 p.1 goes (run next steps p.0) refl e

zero_and : (n : ℕ) → 0 + n ≡ n
zero_and n = omega arith

-- a claim that an unexpanded state supports is at most the cost of each plan through it
supported : (claim bound : Bound) (g k cost : ℕ) → is_at_most claim (sum_of (AtLeast g) bound) ≡ true → IsAtMostCost bound cost → g ≤ k → IsAtMostCost claim (k + cost)
supported claim NoPlan g k cost e h cheap = absurd h
supported NoPlan (AtLeast n) g k cost e h cheap = absurd (true≢false (sym e))
supported (AtLeast m) (AtLeast n) g k cost e h cheap = omega (arith, leb-true m (g + n) e)

module _ (next : Next StateValue) (goal : StateValue → Bool) (first : StateValue) (states : List StateValue) (nodes : List Node) (claim : Bound) (frontier : IsFrontier next goal first states nodes claim) where
  -- through a state that isn't expanded
  through_open : (steps : List ℕ) (s end : StateValue) (k cost : ℕ) (kept : IsKeptWithin states nodes s k) → kept.node.expanded ≡ false → run next steps s ≡ Some (end, cost) → goal end ≡ true → IsAtMostCost claim (k + cost)
  through_open steps s end k cost kept waits ran at_goal =
      supported claim kept.node.judged.bound kept.node.cost k cost (frontier.claimed kept.at s kept.node kept.kept waits)
      ((frontier.bounds kept.at s kept.node kept.kept).least steps cost (record { end = end; ran = ran; at_goal = at_goal }))
      kept.cheap

  -- from a state that is kept at k, a plan and k together cost at least the claim
  pub from_kept : (steps : List ℕ) (s end : StateValue) (k cost : ℕ) → IsKeptWithin states nodes s k → run next steps s ≡ Some (end, cost) → goal end ≡ true → IsAtMostCost claim (k + cost)
  from_kept [] s end k cost kept ran at_goal = by kept.node.expanded refl
    where
      by : (b : Bool) → kept.node.expanded ≡ b → IsAtMostCost claim (k + cost)
      by true e =
          let here : s ≡ end = (some_pair_parts s end 0 cost ran).0 in
          absurd (true≢false (sym at_goal ∙ ap goal (sym here) ∙ (frontier.closed kept.at s kept.node kept.kept e).no_goal))
      by false e = through_open [] s end k cost kept e ran at_goal
  from_kept (step ∷ steps) s end k cost kept ran at_goal =
      let parts = first_step next s step steps end cost ran in
      by parts kept.node.expanded refl (λ here. from_kept steps parts.after end (kept.node.cost + parts.price) parts.left here parts.rest at_goal)
    where
      weaker : (b : Bound) (m n : ℕ) → m ≤ n → IsAtMostCost b m → IsAtMostCost b n
      weaker NoPlan m n h p = p
      weaker (AtLeast l) m n h p = omega arith

      by : (parts : IsFirstStep next s step steps end cost) (b : Bool) → kept.node.expanded ≡ b → (IsKeptWithin states nodes parts.after (kept.node.cost + parts.price) → IsAtMostCost claim (kept.node.cost + parts.price + parts.left)) → IsAtMostCost claim (k + cost)
      by parts true e more =
          let closed = frontier.closed kept.at s kept.node kept.kept e in
          weaker claim (kept.node.cost + parts.price + parts.left) (k + cost) (omega (arith, parts.sum, kept.cheap)) (more (closed.after step parts.after parts.price parts.goes))
      by parts false e more = through_open (step ∷ steps) s end k cost kept e ran at_goal

  -- no plan costs less than the claim
  pub no_cheaper : (steps : List ℕ) (cost : ℕ) → IsPlan next goal first steps cost → IsAtMostCost claim cost
  no_cheaper steps cost plan = subst (IsAtMostCost claim) (zero_and cost) (from_kept steps first plan.end 0 cost frontier.start plan.ran plan.at_goal)
