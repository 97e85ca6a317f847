-- A problem without faults: its facts, its goal and its metric.
use Rattle.std.proofs.Common.{◌≡◌, ◌^◌, ◌<◌, true, List, [], ◌∷◌, ◌++◌, map, flat_map, fold, Option, None, IfSome, All, IsTrue, refl, sym, ap₂, ◌∙◌, arith}
use Rattle.std.specs.List.{AllByRecursion}
use Rattle.std.proofs.lemmas.List.Elements.{recursion_from_All, All-from_recursion}
use Rattle.np_model.specs.declared.task.Cond.{Cond}
use Rattle.np_model.specs.declared.task.Sum.{Sum}
use Rattle.np_model.specs.declared.task.TaskParts.{TaskParts}
use Rattle.np_model.specs.Tasks.{AreDistinct, is_sum, is_condition, is_ground_atom, is_ground_term}
use Rattle.np_syntax.specs.declared.domain.Domain.{Domain}
use Rattle.np_problem.specs.declared.problem.Problem.{Problem}
use Rattle.np_problem.specs.declared.problem.ProblemSection.{ProblemSection}
use Rattle.np_problem.specs.declared.problem.ProblemSection.TheVariants as p
use Rattle.np_problem.specs.ProblemText.{IsSection}
use Rattle.np_names.specs.declared.fault.Source.TheVariants.{Problem as InProblem}
use Rattle.np_names.specs.Names.{each_after}
use Rattle.np_typing.specs.Scopes.{Scope}
use Rattle.np_typing.specs.Facts.{fact_faults}
use Rattle.np_typing.specs.Resolved.{conditions_of}
use Rattle.np_typing.specs.Rules.{problem_section_use_faults}
use Rattle.np_typing.specs.TaskOf.{section_facts, section_goals, metric_with, scope_of, task_of}
use Rattle.np_typing.specs.Typing.{IsSpelledPair}
use Rattle.np_typing.proofs.keeping.DeclaredParts.{BreaksNoRule}
use Rattle.np_typing.proofs.keeping.DeclaredLists.{flat_map_more}
use Rattle.np_typing.proofs.keeping.DeclaredLengths.{problem_section_size, problem_sections_short}
use Rattle.np_typing.proofs.keeping.UsedLists.{both_none, each_append, each_after_append, each_after_none}
use Rattle.np_typing.proofs.keeping.UsedSymbols.{Agrees}
use Rattle.np_typing.proofs.keeping.UsedFacts.{atoms_distinct, atoms_fit, values_fit, terms_distinct}
use Rattle.np_typing.proofs.keeping.UsedLevels.{metric_fits, goal_fits}

-- it has few parts
abbrev pub IsShortSection : ProblemSection → Type 0
IsShortSection s = problem_section_size s < 2 ^ 31

-- ---- what the sections stand for

module _ (scope : Scope) (task : TaskParts) (agrees : Agrees scope task []) where
  -- after some sections it has no fault
  abbrev HasNone : ProblemSection → Type 0
  HasNone s = (front : List ProblemSection) × (problem_section_use_faults scope front s ≡ [])

  section_facts_none : (before : List ProblemSection) (s : ProblemSection) → problem_section_use_faults scope before s ≡ []
      → each_after (fact_faults scope) (flat_map section_facts before) (section_facts s) ≡ []
  section_facts_none before (p.Domain place w) h = refl
  section_facts_none before (p.Requirements place words) h = refl
  section_facts_none before (p.Objects place gs) h = refl
  section_facts_none before (p.Init place facts) h = h
  section_facts_none before (p.Goal place c) h = refl
  section_facts_none before (p.Metric place v) h = refl

  pub facts_none : (before ss : List ProblemSection) → each_after (problem_section_use_faults scope) before ss ≡ []
      → each_after (fact_faults scope) (flat_map section_facts before) (flat_map section_facts ss) ≡ []
  facts_none before [] h = refl
  facts_none before (s ∷ ss) h =
      let q = both_none (problem_section_use_faults scope before s) (each_after (problem_section_use_faults scope) (before ++ s ∷ []) ss) h in
      each_after_append (fact_faults scope) (flat_map section_facts before) (section_facts s) (flat_map section_facts ss)
      ∙ ap₂ (λ front others. front ++ each_after (fact_faults scope) others (flat_map section_facts ss)) (section_facts_none before s q.0) (sym (flat_map_more section_facts before s))
      ∙ facts_none (before ++ s ∷ []) ss q.1

  abbrev Fits : Cond → Type 0
  Fits c = is_condition task [] c ≡ true

  pub goals_fit : (ss : List ProblemSection) → AllByRecursion IsSection ss → AllByRecursion IsShortSection ss → AllByRecursion HasNone ss
      → AllByRecursion Fits (flat_map (conditions_of scope) (flat_map section_goals ss))
  goals_fit [] is short none = tt
  goals_fit (s ∷ ss) is short none = by s is.0 short.0 none.0 (goals_fit ss is.1 short.1 none.1)
    where
      by : (t : ProblemSection) → IsSection t → IsShortSection t → HasNone t → AllByRecursion Fits (flat_map (conditions_of scope) (flat_map section_goals ss))
          → AllByRecursion Fits (flat_map (conditions_of scope) (section_goals t ++ flat_map section_goals ss))
      by (p.Domain place w) i few g rest = rest
      by (p.Requirements place words) i few g rest = rest
      by (p.Objects place gs) i few g rest = rest
      by (p.Init place facts) i few g rest = rest
      by (p.Goal place c) i few g rest =
          each_append Fits (conditions_of scope c) _ (goal_fits scope task [] agrees c i (omega (arith, few)) g.1) rest
      by (p.Metric place v) i few g rest = rest

  abbrev IsMetric : Sum → Type 0
  IsMetric m = is_sum task [] m ≡ true

  pub metric_is_sum : (ss : List ProblemSection) (before : Option Sum) → AllByRecursion IsSection ss → AllByRecursion IsShortSection ss → AllByRecursion HasNone ss
      → IfSome before IsMetric → IfSome (fold (metric_with scope) before ss) IsMetric
  metric_is_sum [] before is short none h = h
  metric_is_sum (s ∷ ss) before is short none h = metric_is_sum ss (metric_with scope before s) is.1 short.1 none.1 (by s is.0 short.0 none.0)
    where
      by : (t : ProblemSection) → IsSection t → IsShortSection t → HasNone t → IfSome (metric_with scope before t) IsMetric
      by (p.Domain place w) i few g = h
      by (p.Requirements place words) i few g = h
      by (p.Objects place gs) i few g = h
      by (p.Init place facts) i few g = h
      by (p.Goal place c) i few g = h
      by (p.Metric place v) i few g = metric_fits scope task [] agrees v i (omega (arith, few)) g.1

-- ---- of the whole problem

module _ (domain : Domain) (problem : Problem) where
  abbrev outside : Scope
  outside = scope_of InProblem domain problem

  abbrev task : TaskParts
  task = task_of domain problem

  agrees : Agrees outside task []
  agrees = record { types = refl; objects = refl; predicates = refl; functions = refl; given = refl; as_many = refl }

  is_problem : IsSpelledPair domain problem → AllByRecursion IsSection problem.sections
  is_problem pair = recursion_from_All IsSection problem.sections pair.is_problem.1

  are_short : IsSpelledPair domain problem → AllByRecursion IsShortSection problem.sections
  are_short pair = recursion_from_All IsShortSection problem.sections (problem_sections_short domain problem pair)

  has_none : BreaksNoRule domain problem → AllByRecursion (λ s. (front : List ProblemSection) × (problem_section_use_faults outside front s ≡ [])) problem.sections
  has_none rules = each_after_none (problem_section_use_faults outside) [] problem.sections rules.problem_uses_fit

  no_facts_faults : BreaksNoRule domain problem → each_after (fact_faults outside) [] (flat_map section_facts problem.sections) ≡ []
  no_facts_faults rules = facts_none outside task agrees [] problem.sections rules.problem_uses_fit

  pub used_goal : IsSpelledPair domain problem → BreaksNoRule domain problem → All (λ c. IsTrue (is_condition (task_of domain problem) [] c)) (task_of domain problem).goal
  used_goal pair rules =
      All-from_recursion (λ c. IsTrue (is_condition task [] c)) task.goal (goals_fit outside task agrees problem.sections (is_problem pair) (are_short pair) (has_none rules))

  pub used_metric : IsSpelledPair domain problem → BreaksNoRule domain problem → IfSome (task_of domain problem).metric (λ m. IsTrue (is_sum (task_of domain problem) [] m))
  used_metric pair rules = metric_is_sum outside task agrees problem.sections None (is_problem pair) (are_short pair) (has_none rules) tt

  pub used_atoms : BreaksNoRule domain problem → All (λ a. IsTrue (is_ground_atom (task_of domain problem) a)) (task_of domain problem).atoms
  used_atoms rules = All-from_recursion (λ a. IsTrue (is_ground_atom task a)) task.atoms (atoms_fit outside task agrees (flat_map section_facts problem.sections) (no_facts_faults rules))

  pub used_distinct_atoms : AreDistinct (task_of domain problem).atoms
  used_distinct_atoms = atoms_distinct outside (flat_map section_facts problem.sections)

  pub used_values : BreaksNoRule domain problem → All (λ v. IsTrue (is_ground_term (task_of domain problem) v.0)) (task_of domain problem).values
  used_values rules = All-from_recursion (λ v. IsTrue (is_ground_term task v.0)) task.values (values_fit outside task agrees (flat_map section_facts problem.sections) (no_facts_faults rules))

  pub used_distinct_terms : BreaksNoRule domain problem → AreDistinct (map (λ v. v.0) (task_of domain problem).values)
  used_distinct_terms rules = terms_distinct outside (flat_map section_facts problem.sections) (no_facts_faults rules)
