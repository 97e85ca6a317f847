use Rattle.np_flat.specs.Readers.{rows}
use Rattle.np_relax.proofs.Files.{filed_more}
use Rattle.np_relax.proofs.needing.Needing.new.Goals as goal

pub loop-step-preserved : goal.loop-step-preserved
loop-step-preserved c = filed_more c.args.flat.now (rows c.loop-step.rows.items) (rows c.file.new.table.items) c.needs.result.now c.loop-step.step c.needs.ensures.within c.needs.ensures.needs c.loop-step.invariant c.in_ok-file.ensures
