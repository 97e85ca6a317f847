use Rattle.std.proofs.Common.{◌∙◌, subst}
use Rattle.np_flat.specs.Flats.{IsFlat}
use Rattle.np_blind.proofs.Steps.{is_small, goal_is}
use Rattle.np_blind.proofs.space.BlindSpaceSpace.is_goal.Goals as goal

pub all_hold-requires-clause-state : goal.all_hold-requires-clause-state
all_hold-requires-clause-state c =
    is_small c.args.self.now c.parts-parts.result.now c.args.s.now (c.parts-parts.ensures.parts ∙ c.self.view_is) (subst IsFlat c.self.view_is c.parts-parts.ensures.kept) c.requires

pub returns : goal.returns
returns c =
    c.all_hold.ensures
    ∙ goal_is c.args.self.now c.parts-parts.result.now c.args.s.now (c.parts-parts.ensures.parts ∙ c.self.view_is) (subst IsFlat c.self.view_is c.parts-parts.ensures.kept) c.requires c.as_slice.result.now c.as_slice.ensures
