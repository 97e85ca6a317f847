use Rattle.std.proofs.Common.{◌≡◌, take, drop}
use Rattle.std.specs.List.{flat_map}
use Rattle.np_names.specs.declared.fault.Source.TheVariants.{Domain as InDomain}
use Rattle.np_typing.specs.LookUps.{scope_from}
use Rattle.np_typing.specs.Rules.{section_use_faults}
use Rattle.np_typing.specs.TaskOf.{section_actions}
use Rattle.np_typing.proofs.uses.actions.actions_of.Given as goal

-- no fault so far, and the actions so far
abbrev pub invariant-loop-section : goal.invariant-loop-section
invariant-loop-section l = record {
  left : flat_map (section_use_faults (scope_from InDomain l.tables)) l.domain.sections ≡ flat_map (section_use_faults (scope_from InDomain l.tables)) (drop l.section-index l.domain.sections);
  so_far : l.all ≡ flat_map (section_actions (scope_from InDomain l.tables)) (take l.section-index l.domain.sections);
}
