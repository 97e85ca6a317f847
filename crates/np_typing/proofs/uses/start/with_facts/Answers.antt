use Rattle.std.proofs.Common.{refl}
use Rattle.np_typing.proofs.UsesAnswers.{handed}
use Rattle.np_typing.proofs.uses.start.with_facts.Goals as goal

pub returns-in_err-put_all : goal.returns-in_err-put_all
returns-in_err-put_all c = λ before h. handed _ _ c.from_residual.result c.in_err-put_all.field-0.0 c.from_residual.ensures.1 (c.in_err-put_all.ensures before h)

pub returns : goal.returns
returns c = λ before h. let e = c.in_ok-put_all.ensures before h in (e.0, (e.1, refl, refl))
