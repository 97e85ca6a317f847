-- SCAFFOLDING. What the commands tell, as the code has them.
use Rattle.std.specs.Borrow.{Bor}
use Rattle.std.specs.Prelude.{ℕ, List, Option}
use Rattle.std.specs.Option.{option_map}
use Rattle.np_answers.specs.declared.words.Inputs.{Inputs as InputWords}
use Rattle.np_answers.specs.declared.words.Solve.{Solve as SolveWords}
use Rattle.np_answers.specs.declared.words.Check.{Check as CheckWords}
use Rattle.np_answers.specs.declared.words.Run.{Run as RunWords}
use Rattle.np_answers.specs.declared.words.Command.{Command as CommandWords}
use Rattle.np_answers.specs.declared.words.Command.TheVariants as words
use Rattle.np_answers.specs.Words.{Inputs, Solve, Check, Run, Command, solving, checking, running, listing}

abbrev pub told_inputs : InputWords → Inputs
told_inputs inputs = record { domain = inputs.domain.now; problem = inputs.problem.now }

abbrev pub told_solve : SolveWords → Solve
told_solve command = record {
  inputs = told_inputs command.inputs;
  plan = command.plan.now;
  certificate = command.certificate.now;
  nodes = command.nodes;
}

abbrev pub told_plan : Option (Bor (List ℕ)) → Option (List ℕ)
told_plan plan = option_map (λ name. name.now) plan

abbrev pub told_check : CheckWords → Check
told_check command = record { inputs = told_inputs command.inputs; certificate = command.certificate.now; plan = told_plan command.plan }

abbrev pub told_run : RunWords → Run
told_run command = record { inputs = told_inputs command.inputs; plan = command.plan.now }

abbrev pub told : CommandWords → Command
told (words.Solve command) = solving (told_solve command)
told (words.Check command) = checking (told_check command)
told (words.Run command) = running (told_run command)
told (words.List inputs) = listing (told_inputs inputs)
