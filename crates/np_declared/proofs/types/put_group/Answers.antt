use Rattle.std.proofs.Common.{refl}
use Rattle.np_declared.proofs.SupertypeLaws.{untyped_more}
use Rattle.np_declared.proofs.types.put_group.Goals as goal

pub returns-in-None : goal.returns-in-None
returns-in-None c = rw c.in-None.is (λ before h. (refl, untyped_more c.args.supertypes.now before c.args.group.now.words h))
