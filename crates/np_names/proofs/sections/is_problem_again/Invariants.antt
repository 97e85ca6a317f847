use Rattle.std.proofs.Common.{◌≡◌, drop}
use Rattle.std.specs.List.{list_any}
use Rattle.np_names.specs.Sections.{same_problem_section}
use Rattle.np_names.proofs.sections.is_problem_again.Given as goal

-- it is among those that are left
abbrev pub invariant-loop-other : goal.invariant-loop-other
invariant-loop-other l = list_any (same_problem_section l.section) l.before ≡ list_any (same_problem_section l.section) (drop l.other-index l.before)
