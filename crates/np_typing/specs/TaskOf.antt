-- The task that a domain and a problem stand for.
use Rattle.std.specs.Prelude.{List, [], ◌∷◌, fold, Option, None, Some}
use Rattle.std.specs.List.{flat_map}
use Rattle.np_model.specs.declared.task.Action.{Action}
use Rattle.np_model.specs.declared.task.Sum.{Sum}
use Rattle.np_model.specs.declared.task.TaskParts.{TaskParts}
use Rattle.np_words.specs.declared.word.Word.{Word}
use Rattle.np_words.specs.declared.word.Group.{Group}
use Rattle.np_conditions.specs.declared.condition.Condition.{Condition}
use Rattle.np_conditions.specs.declared.effect.Effect.{Effect}
use Rattle.np_syntax.specs.declared.domain.Domain.{Domain}
use Rattle.np_syntax.specs.declared.domain.DomainSection.{DomainSection}
use Rattle.np_syntax.specs.declared.domain.DomainSection.TheVariants as d
use Rattle.np_problem.specs.declared.problem.Fact.{Fact}
use Rattle.np_problem.specs.declared.problem.Problem.{Problem}
use Rattle.np_problem.specs.declared.problem.ProblemSection.{ProblemSection}
use Rattle.np_problem.specs.declared.problem.ProblemSection.TheVariants as p
use Rattle.np_names.specs.declared.fault.Source.{Source}
use Rattle.np_names.specs.declared.fault.Source.TheVariants.{Domain as InDomain, Problem as InProblem}
use Rattle.np_names.specs.Names.{given}
use Rattle.np_declared.specs.Types.{types_of}
use Rattle.np_names.specs.Declarations.{all_types}
use Rattle.np_typing.specs.Scopes.{Scope, with_parameters}
use Rattle.np_declared.specs.Symbols.{if_given, objects_of, predicates_of, functions_of}
use Rattle.np_typing.specs.Resolved.{sum_of, conditions_of, effects_of}
use Rattle.np_typing.specs.Facts.{atoms_of, values_of}

-- what is declared, where no variable is bound
abbrev pub scope_of : Source → Domain → Problem → Scope
scope_of source domain problem = record {
  source = source;
  types = types_of (all_types domain);
  objects = objects_of domain problem;
  predicates = predicates_of domain;
  functions = functions_of domain;
  variables = [];
  variable_types = [];
}

-- ---- actions

abbrev pub action_of : Scope → Word → Option (List Group) → Option Condition → Option Effect → Action
action_of scope w groups c e =
    let inside = with_parameters scope (given groups) in
    record { name = w.text; parameters = inside.variable_types; needs = if_given (conditions_of inside) c; effects = if_given (effects_of inside) e }

abbrev pub section_actions : Scope → DomainSection → List Action
section_actions scope (d.Action place w groups c e) = action_of scope w groups c e ∷ []
section_actions scope _ = []

-- ---- the problem

abbrev pub section_facts : ProblemSection → List Fact
section_facts (p.Init place facts) = facts
section_facts _ = []

abbrev pub section_goals : ProblemSection → List Condition
section_goals (p.Goal place c) = c ∷ []
section_goals _ = []

-- the metric, where a section may say another
abbrev pub metric_with : Scope → Option Sum → ProblemSection → Option Sum
metric_with scope before (p.Metric place v) = Some (sum_of scope v)
metric_with scope before _ = before

-- ---- the task

abbrev pub task_of : Domain → Problem → TaskParts
task_of domain problem =
    let outside = scope_of InProblem domain problem in
    let facts = flat_map section_facts problem.sections in
    record {
      types = outside.types;
      objects = outside.objects;
      predicates = outside.predicates;
      functions = outside.functions;
      actions = flat_map (section_actions (scope_of InDomain domain problem)) domain.sections;
      atoms = atoms_of outside facts;
      values = values_of outside facts;
      goal = flat_map (conditions_of outside) (flat_map section_goals problem.sections);
      metric = fold (metric_with outside) None problem.sections;
    }
