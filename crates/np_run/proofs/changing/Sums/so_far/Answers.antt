use Rattle.std.proofs.Common.{◌∙◌, sym, ap}
use Rattle.np_run.specs.Changing.{sum_so_far}
use Rattle.np_run.proofs.Summing.{looked_up}
use Rattle.np_run.proofs.changing.Sums.so_far.Goals as goal

pub returns : goal.returns
returns c =
    rw (c.unwrap_or.ensures, c.zero.ensures, c.copied.ensures, c.get.ensures.value)
    (sym (looked_up c.self.inside.map.entries c.args.term.now) ∙ ap (λ xs. sum_so_far xs c.args.term.now) c.self.view_is)
