-- What no plan of a flat task costs, no plan of the task costs.
use Rattle.std.proofs.Common.{◌≡◌, ℕ, ◌≤◌, pos, true, int_cmp, is_le, sym, ap, ◌∙◌, subst, List, arith}
use Rattle.std.proofs.lemmas.Int.{ints}
use Rattle.std.proofs.lemmas.Bool.Decides.{nat_tests}
use Rattle.np_frac.specs.Fractions.{Fraction, whole}
use Rattle.np_frac.specs.Order.{whole_cmp}
use Rattle.np_model.specs.declared.task.Step.{Step}
use Rattle.np_model.specs.declared.task.TaskParts.{TaskParts}
use Rattle.np_model.specs.Tasks.{IsTask}
use Rattle.np_model.specs.Plans.{IsPlan, IsAtMost, IsUnsolvable, NoPlanBelow}
use Rattle.np_flat.specs.declared.parts.Parts.{Parts}
use Rattle.np_flat.specs.Plans as flat_plans
use Rattle.np_scale.specs.Scaling.{IsFlatTaskOf}
use Rattle.np_scale.proofs.SameRuns.{same_plans, plans_cost_whole}
use Rattle.np_evidence.specs.Certified as flat_bounds
use Rattle.np_evidence.specs.Outcomes.{HasNoPlan}

-- whole numbers keep their order
pub whole_at_most : (m n : ℕ) → m ≤ n → IsAtMost (whole (pos m)) (whole (pos n))
whole_at_most m n l = ap is_le (whole_cmp (pos m) (pos n)) ∙ not_above m n l
  where
    not_above : (m n : ℕ) → m ≤ n → is_le (int_cmp (pos m) (pos n)) ≡ true
    not_above m n l = grind (arith, ints, nat_tests)

-- a plan by names is one by number, whose cost is a whole number
record IsNumbered (flat : Parts) (steps : List Step) (cost : Fraction) : Type 0 where
  number : ℕ
  is : cost ≡ whole (pos number)
  plan : flat_plans.IsPlan flat steps number

module _ (task : TaskParts) (flat : Parts) (t : IsTask task) (of : IsFlatTaskOf task flat) where
  numbered : (steps : List Step) (cost : Fraction) → IsPlan task steps cost → IsNumbered flat steps cost
  numbered steps cost plan =
      let c = plans_cost_whole task flat t of steps cost plan in
      record {
        number = c.number;
        is = c.is;
        plan = (same_plans task flat t of steps c.number).0 (subst (IsPlan task steps) c.is plan);
      }

  pub none_below : (bound : ℕ) → flat_bounds.NoPlanBelow flat bound → NoPlanBelow task (whole (pos bound))
  none_below bound none = λ steps cost plan.
      let p : IsNumbered flat steps cost = numbered steps cost plan in
      subst (IsAtMost (whole (pos bound))) (sym p.is)
      (whole_at_most bound p.number (subst (λ (n : ℕ). bound ≤ n) (sym p.plan.costs) (none p.plan.numbers p.plan.leads)))

  pub unsolvable : HasNoPlan flat → IsUnsolvable task
  unsolvable none = λ steps cost plan.
      let p : IsNumbered flat steps cost = numbered steps cost plan in
      none p.plan.numbers p.plan.leads
