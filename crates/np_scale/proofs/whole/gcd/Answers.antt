use Rattle.std.proofs.Common.{◌≡◌, ◌∙◌, ◌<◌, ap, sym, subst, ℕ}
use Rattle.np_frac.specs.Gcd.{gcd, gcd-step, gcd-zero, gcd_pos}
use Rattle.np_scale.proofs.whole.gcd.Goals as goal

pub loop-y-preserved : goal.loop-y-preserved
loop-y-preserved c = gcd-step c.loop-y.x c.loop-y.y ∙ c.loop-y.invariant

pub returns : goal.returns
returns c =
    let e : c.loop-y.x ≡ gcd c.args.m c.args.n = sym (ap (gcd c.loop-y.x) c.loop-y-test.false ∙ gcd-zero c.loop-y.x) ∙ c.loop-y.invariant in
    record {
      value = e;
      positive = subst (λ (n : ℕ). 0 < n) (sym e) (gcd_pos c.args.m c.args.n c.requires);
    }
