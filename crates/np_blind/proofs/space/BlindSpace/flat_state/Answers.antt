use Rattle.std.proofs.Common.{◌∙◌, ap, subst, length}
use Rattle.np_flat.specs.declared.parts.Parts.{Parts}
use Rattle.np_flat.specs.Flats.{IsFlat}
use Rattle.np_blind.proofs.FlatStates.{count_is, flat_is, reading_is, state_is}
use Rattle.np_blind.proofs.space.BlindSpace.flat_state.Goals as goal

pub numbers_of-requires : goal.numbers_of-requires
numbers_of-requires c =
    c.len-count.ensures
    ∙ ap (λ (p : Parts). length p.facts) (c.parts.ensures.parts ∙ c.self.view_is)
    ∙ count_is c.args.self.now c.args.s.now (subst IsFlat c.self.view_is c.parts.ensures.kept) c.requires

pub returns-clause-flat : goal.returns-clause-flat
returns-clause-flat c = flat_is c.from_vec.result c.in_ok-values.values c.args.s.now (c.from_vec.ensures ∙ c.in_ok-facts.ensures) (c.in_ok-values.ensures ∙ c.as_slice.ensures.value)

pub returns-clause-reading : goal.returns-clause-reading
returns-clause-reading c = reading_is c.from_vec.result c.in_ok-values.values c.args.s.now (c.from_vec.ensures ∙ c.in_ok-facts.ensures) (c.in_ok-values.ensures ∙ c.as_slice.ensures.value) c.args.self.now (subst IsFlat c.self.view_is c.parts.ensures.kept) c.requires

pub returns-clause-state_of : goal.returns-clause-state_of
returns-clause-state_of c = state_is c.from_vec.result c.in_ok-values.values c.args.s.now (c.from_vec.ensures ∙ c.in_ok-facts.ensures) (c.in_ok-values.ensures ∙ c.as_slice.ensures.value) c.args.self.now (subst IsFlat c.self.view_is c.parts.ensures.kept) c.requires
