-- The task of a well-formed pair keeps what every task keeps.
use Rattle.std.specs.Prelude.{◌≡◌, []}
use Rattle.np_model.specs.Tasks.{IsTask}
use Rattle.np_syntax.specs.declared.domain.Domain.{Domain}
use Rattle.np_problem.specs.declared.problem.Problem.{Problem}
use Rattle.np_typing.specs.Rules.{all_faults}
use Rattle.np_typing.specs.TaskOf.{task_of}
use Rattle.np_typing.specs.Typing.{IsSpelledPair}
use Rattle.np_typing.proofs.keeping.DeclaredParts.{breaks_no_rule}
use Rattle.np_typing.proofs.keeping.DeclaredAll.{declarations_kept}
use Rattle.np_typing.proofs.keeping.UsedActions.{used_actions}
use Rattle.np_typing.proofs.keeping.UsedProblems.{used_goal, used_metric, used_atoms, used_distinct_atoms, used_values, used_distinct_terms}

pub keeps : (domain : Domain) (problem : Problem) → IsSpelledPair domain problem → all_faults domain problem ≡ [] → IsTask (task_of domain problem)
keeps domain problem pair none =
    let declarations = declarations_kept domain problem pair none in
    let rules = breaks_no_rule domain problem none in
    record {
      short = declarations.short;
      named = declarations.named;
      types = declarations.types;
      objects = declarations.objects;
      predicates = declarations.predicates;
      functions = declarations.functions;
      fixed_predicates = declarations.fixed_predicates;
      fixed_functions = declarations.fixed_functions;
      actions = used_actions domain problem pair rules;
      atoms = used_atoms domain problem rules;
      distinct_atoms = used_distinct_atoms domain problem;
      values = used_values domain problem rules;
      distinct_terms = used_distinct_terms domain problem rules;
      goal = used_goal domain problem pair rules;
      metric = used_metric domain problem pair rules;
    }
