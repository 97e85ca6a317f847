-- What the code's tables stand for, and what sections of a problem gave so far.
use Rattle.std.specs.Prelude.{◌≡◌, List, [], fold, None}
use Rattle.std.specs.List.{flat_map}
use Rattle.np_problem.specs.declared.problem.Fact.{Fact}
use Rattle.np_problem.specs.declared.problem.ProblemSection.{ProblemSection}
use Rattle.np_names.specs.declared.fault.Source.{Source}
use Rattle.np_declared.specs.declared.tables.Tables.{Tables}
use Rattle.np_typing.specs.declared.uses.facts.Facts.{Facts}
use Rattle.np_typing.specs.declared.uses.start.Start.{Start}
use Rattle.np_typing.specs.Scopes.{Scope}
use Rattle.np_typing.specs.Resolved.{conditions_of}
use Rattle.np_typing.specs.Facts.{atoms_of, values_of}
use Rattle.np_typing.specs.TaskOf.{section_facts, section_goals, metric_with}

-- the scope of a text where no variable is bound
abbrev pub scope_from : Source → Tables → Scope
scope_from source tables = record {
  source = source;
  types = tables.types;
  objects = tables.objects;
  predicates = tables.predicates;
  functions = tables.functions;
  variables = [];
  variable_types = [];
}

-- ---- the start

-- what facts say
pub record HasFacts (scope : Scope) (before : List Fact) (all : Facts) : Type 0 where
  pub atoms : all.atoms.keys ≡ atoms_of scope before
  pub values : all.values.entries ≡ values_of scope before

-- what sections of a problem say
pub record HasStart (scope : Scope) (before : List ProblemSection) (all : Start) : Type 0 where
  pub facts : HasFacts scope (flat_map section_facts before) all.facts
  pub goal : all.goal ≡ flat_map (conditions_of scope) (flat_map section_goals before)
  pub metric : all.metric ≡ fold (metric_with scope) None before
