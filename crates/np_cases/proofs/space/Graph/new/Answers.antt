use Rattle.std.proofs.Common.{◌∙◌, sym, ap, arith}
use Rattle.np_space.specs.Bounds.{is_at_most}
use Rattle.np_space.specs.declared.bound.Bound.TheVariants.{AtLeast}
use Rattle.np_cases.proofs.space.Graph.new.Goals as goal

pub invariant_of-result : goal.invariant_of-result
invariant_of-result c = record {
  checked = record {
    few = omega arith;
    at_goal = ap (λ b. is_at_most b (AtLeast 0)) (sym c.bound_at.ensures.value) ∙ sym c.is_at_most.ensures ∙ c.if-not-is_at_most.false;
    short = sym c.if-not-all_short.ensures;
    below = sym c.if-not-all_below.ensures;
  };
}
