-- The task of what both texts use.
use Rattle.std.proofs.Common.{◌≡◌, List, [], ◌++◌, fold, None, sym, ap, ◌∙◌}
use Rattle.std.specs.List.{flat_map}
use Rattle.np_model.specs.declared.task.Action.{Action}
use Rattle.np_model.specs.declared.task.TaskParts.{TaskParts}
use Rattle.np_syntax.specs.declared.domain.Domain.{Domain}
use Rattle.np_problem.specs.declared.problem.Problem.{Problem}
use Rattle.np_names.specs.declared.fault.Source.{Source}
use Rattle.np_names.specs.declared.fault.Source.TheVariants.{Domain as InDomain, Problem as InProblem}
use Rattle.np_names.specs.declared.fault.TypeFault.{TypeFault}
use Rattle.np_declared.specs.declared.tables.Tables.{Tables}
use Rattle.np_names.specs.Answers.{IsFirst}
use Rattle.np_names.proofs.Answering.{first_in, first_after, none_more}
use Rattle.np_typing.specs.declared.uses.start.Start.{Start}
use Rattle.np_typing.specs.Facts.{atoms_of, values_of}
use Rattle.np_declared.specs.LookUps.{HasTables}
use Rattle.np_typing.specs.LookUps.{HasStart, scope_from}
use Rattle.np_names.specs.Names.{each_after}
use Rattle.np_typing.specs.Resolved.{conditions_of}
use Rattle.np_typing.specs.Rules.{section_use_faults, problem_section_use_faults, use_faults, problem_use_faults}
use Rattle.np_typing.specs.TaskOf.{section_actions, section_facts, section_goals, metric_with, scope_of, task_of}

module _ (domain : Domain) (problem : Problem) (tables : Tables) (h : HasTables domain problem tables) where
  -- what the tables declare is what the two texts do
  pub scope_is : (source : Source) → scope_from source tables ≡ scope_of source domain problem
  scope_is source = λ i. record {
    source = source;
    types = h.types_are i;
    objects = h.objects_are i;
    predicates = h.predicates_are i;
    functions = h.functions_are i;
    variables = [];
    variable_types = [];
  }

  -- faults in the scope of the tables are those of the two texts
  pub uses_like : flat_map (section_use_faults (scope_from InDomain tables)) domain.sections ≡ use_faults domain problem
  uses_like = ap (λ scope. flat_map (section_use_faults scope) domain.sections) (scope_is InDomain)

  pub problem_uses_like : each_after (problem_section_use_faults (scope_from InProblem tables)) [] problem.sections ≡ problem_use_faults domain problem
  problem_uses_like = ap (λ scope. each_after (problem_section_use_faults scope) [] problem.sections) (scope_is InProblem)

  abbrev domain_uses : List TypeFault
  domain_uses = flat_map (section_use_faults (scope_from InDomain tables)) domain.sections

  abbrev problem_uses : List TypeFault
  problem_uses = each_after (problem_section_use_faults (scope_from InProblem tables)) [] problem.sections

  split : use_faults domain problem ++ problem_use_faults domain problem ≡ domain_uses ++ problem_uses
  split = ap (λ fs. fs ++ problem_use_faults domain problem) (sym uses_like) ∙ ap (λ fs. domain_uses ++ fs) (sym problem_uses_like)

  -- the first fault of the domain's uses is the first of all, and after them that of the problem's
  pub first_of_uses : (fault : TypeFault) → IsFirst domain_uses fault → IsFirst (use_faults domain problem ++ problem_use_faults domain problem) fault
  first_of_uses = first_in (use_faults domain problem ++ problem_use_faults domain problem) domain_uses problem_uses split

  pub first_of_problem_uses : domain_uses ≡ [] → (fault : TypeFault) → IsFirst problem_uses fault → IsFirst (use_faults domain problem ++ problem_use_faults domain problem) fault
  first_of_problem_uses none fault h = rw split (first_after domain_uses problem_uses fault none h)

  pub no_use_fault : domain_uses ≡ [] → problem_uses ≡ [] → use_faults domain problem ++ problem_use_faults domain problem ≡ []
  no_use_fault none none_either = split ∙ none_more domain_uses problem_uses none none_either

  -- and what is made in it is their task
  pub used_task : (actions : List Action) (start : Start) → actions ≡ flat_map (section_actions (scope_from InDomain tables)) domain.sections
      → HasStart (scope_from InProblem tables) problem.sections start
      → (let parts : TaskParts = record {
        types = tables.types;
        objects = tables.objects;
        predicates = tables.predicates;
        functions = tables.functions;
        actions = actions;
        atoms = start.facts.atoms.keys;
        values = start.facts.values.entries;
        goal = start.goal;
        metric = start.metric;
      } in
      parts ≡ task_of domain problem)
  used_task actions start a s =
      let scope = scope_is InProblem in
      let all_actions = a ∙ ap (λ x. flat_map (section_actions x) domain.sections) (scope_is InDomain) in
      let atoms = s.facts.atoms ∙ ap (λ x. atoms_of x (flat_map section_facts problem.sections)) scope in
      let values = s.facts.values ∙ ap (λ x. values_of x (flat_map section_facts problem.sections)) scope in
      let goal = s.goal ∙ ap (λ x. flat_map (conditions_of x) (flat_map section_goals problem.sections)) scope in
      let metric = s.metric ∙ ap (λ x. fold (metric_with x) None problem.sections) scope in
      λ i. record {
        types = h.types_are i;
        objects = h.objects_are i;
        predicates = h.predicates_are i;
        functions = h.functions_are i;
        actions = all_actions i;
        atoms = atoms i;
        values = values i;
        goal = goal i;
        metric = metric i;
      }
