use Rattle.std.proofs.Common.{◌∙◌, sym, ap, List, Ok, Result}
use Rattle.indexmap.specs.IndexMap.{insert_entry}
use Rattle.np_frac.specs.Fractions.{Fraction}
use Rattle.np_model.specs.declared.task.Term.{Term}
use Rattle.np_model.specs.Ground.{same_term}
use Rattle.np_run.specs.declared.halt.Lack.{Lack}
use Rattle.np_run.proofs.Summing.{put_in}
use Rattle.np_run.proofs.changing.Sums.take_in.Goals as goal

abbrev ok : List (Term × Fraction) → Result (List (Term × Fraction)) Lack
ok xs = Ok xs

pub returns : goal.returns
returns c =
    rw (← c.so_far.ensures, c.in_ok-sum.ensures)
    (ap ok
    (sym (put_in c.args.self.now c.args.term c.in_ok-sum.sum)
    ∙ ap (λ xs. insert_entry same_term xs c.args.term c.in_ok-sum.sum) (sym c.self.view_is)
    ∙ sym c.in_ok-insert.ensures.entries))
