use Rattle.std.proofs.Common.{◌≡◌, ◌≤◌, ◌*◌, ◌-◌, ◌^◌, ◌+ℤ◌, unsigned_abs, drop}
use Rattle.np_flat.specs.Achieving.{net_terms}
use Rattle.np_flat.proofs.net.net_terms.Given as goal

abbrev pub invariant-loop-value : goal.invariant-loop-value
invariant-loop-value l = record {
  value : l.sum +ℤ net_terms l.changes (drop l.value-index l.terms) ≡ net_terms l.changes l.terms;
  small : unsigned_abs l.sum ≤ l.value-index * ((2 ^ 31 - 1) * 2 ^ 62);
}
