use Rattle.std.proofs.Common.{sym, ◌∙◌, subst}
use Rattle.np_flat.specs.Flats.{IsFlat}
use Rattle.np_blind.proofs.Steps.{is_small, adds_within, deletes_within, changes_are, within_limit, next_none, next_some}
use Rattle.np_blind.proofs.space.BlindSpaceSpace.next.Goals as goal

pub all_hold-requires-clause-state : goal.all_hold-requires-clause-state
all_hold-requires-clause-state c = is_small c.args.self.now c.parts-parts.result.now c.args.s.now (c.parts-parts.ensures.parts ∙ c.self.view_is) (subst IsFlat c.self.view_is c.parts-parts.ensures.kept) c.requires.reached

pub returns-then-not-all_hold-clause-successor : goal.returns-then-not-all_hold-clause-successor
returns-then-not-all_hold-clause-successor c = next_none c.args.self.now c.parts-parts.result.now c.args.s.now (c.parts-parts.ensures.parts ∙ c.self.view_is) (subst IsFlat c.self.view_is c.parts-parts.ensures.kept) c.requires.reached c.args.step c.as_slice.result.now c.index-as_slice-step.result c.as_slice.ensures c.requires.step c.index-as_slice-step.is c.as_slice-2.result.now c.as_slice-2.ensures (sym c.if-not-all_hold.true ∙ c.all_hold.ensures)

pub after-requires-clause-adds : goal.after-requires-clause-adds
after-requires-clause-adds c = adds_within c.args.self.now c.parts-parts.result.now c.args.s.now (c.parts-parts.ensures.parts ∙ c.self.view_is) (subst IsFlat c.self.view_is c.parts-parts.ensures.kept) c.requires.reached c.args.step c.as_slice.result.now c.index-as_slice-step.result c.as_slice.ensures c.requires.step c.index-as_slice-step.is

pub after-requires-clause-deletes : goal.after-requires-clause-deletes
after-requires-clause-deletes c = deletes_within c.args.self.now c.parts-parts.result.now c.args.s.now (c.parts-parts.ensures.parts ∙ c.self.view_is) (subst IsFlat c.self.view_is c.parts-parts.ensures.kept) c.requires.reached c.args.step c.as_slice.result.now c.index-as_slice-step.result c.as_slice.ensures c.requires.step c.index-as_slice-step.is

pub after-requires-clause-changes : goal.after-requires-clause-changes
after-requires-clause-changes c = changes_are c.args.self.now c.parts-parts.result.now c.args.s.now (c.parts-parts.ensures.parts ∙ c.self.view_is) (subst IsFlat c.self.view_is c.parts-parts.ensures.kept) c.requires.reached c.args.step c.as_slice.result.now c.index-as_slice-step.result c.as_slice.ensures c.requires.step c.index-as_slice-step.is

pub after-requires-clause-within : goal.after-requires-clause-within
after-requires-clause-within c = within_limit c.args.self.now c.parts-parts.result.now c.args.s.now (c.parts-parts.ensures.parts ∙ c.self.view_is) (subst IsFlat c.self.view_is c.parts-parts.ensures.kept) c.requires.reached c.args.step c.as_slice.result.now c.index-as_slice-step.result c.as_slice.ensures c.requires.step c.index-as_slice-step.is

pub returns-clause-successor : goal.returns-clause-successor
returns-clause-successor c =
    next_some c.args.self.now c.parts-parts.result.now c.args.s.now (c.parts-parts.ensures.parts ∙ c.self.view_is) (subst IsFlat c.self.view_is c.parts-parts.ensures.kept) c.requires.reached c.args.step c.as_slice.result.now c.index-as_slice-step.result c.as_slice.ensures c.requires.step c.index-as_slice-step.is c.as_slice-2.result.now _ c.as_slice-2.ensures (sym c.if-not-all_hold.false ∙ c.all_hold.ensures) c.in_ok-after.ensures
