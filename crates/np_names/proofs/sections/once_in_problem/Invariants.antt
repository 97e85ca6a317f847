use Rattle.std.proofs.Common.{◌≡◌, [], drop, take}
use Rattle.np_names.specs.Names.{each_after}
use Rattle.np_names.specs.Sections.{if_again, same_problem_section}
use Rattle.np_names.proofs.sections.once_in_problem.Given as goal

-- those that come again are among those that are left
abbrev pub invariant-loop-number : goal.invariant-loop-number
invariant-loop-number l =
    each_after (if_again same_problem_section) [] l.sections ≡ each_after (if_again same_problem_section) (take l.number l.sections) (drop l.number l.sections)
