use Rattle.std.proofs.Common.{◌≡◌, List, inl, inr, refl, sym, ap, ◌∙◌}
use Rattle.std.specs.List.{flat_map}
use Rattle.np_problem.specs.declared.problem.Fact.{Fact}
use Rattle.np_problem.specs.declared.problem.ProblemSection.TheVariants as p
use Rattle.np_typing.specs.Rules.{problem_section_use_faults}
use Rattle.np_typing.specs.TaskOf.{section_facts}
use Rattle.np_typing.proofs.UsesAnswers.{answers_same}
use Rattle.np_typing.proofs.UsesStart.{with_init, with_condition, with_sum, with_other}
use Rattle.np_typing.proofs.uses.start.take_in.Goals as goal

pub returns-in-Init : goal.returns-in-Init
returns-in-Init c = λ before h.
    let place = c.in-Init.field-0 in
    let facts = c.as_slice.result.now in
    let is : c.args.section.now ≡ p.Init place facts = c.in-Init.is ∙ ap (λ (fs : List Fact). p.Init place fs) (sym c.as_slice.ensures) in
    answers_same _ _ _ _ c.with_facts.result (ap (problem_section_use_faults c.args.scope.now before) is)
    (λ all e. with_init c.args.scope.now before c.args.section.now place facts c.args.start all is h e)
    (c.with_facts.ensures (flat_map section_facts before) h.facts)

pub returns-in-Goal : goal.returns-in-Goal
returns-in-Goal c = λ before h.
    answers_same _ _ _ _ c.with_goal.result (ap (problem_section_use_faults c.args.scope.now before) c.in-Goal.is)
    (λ all e. with_condition c.args.scope.now before c.args.section.now c.in-Goal.field-0 c.in-Goal.part c.args.start all c.in-Goal.is h e)
    c.with_goal.ensures

pub returns-in-Metric : goal.returns-in-Metric
returns-in-Metric c = λ before h.
    answers_same _ _ _ _ c.with_metric.result (ap (problem_section_use_faults c.args.scope.now before) c.in-Metric.is)
    (λ all e. with_sum c.args.scope.now before c.args.section.now c.in-Metric.field-0 c.in-Metric.part c.args.start all c.in-Metric.is h e)
    c.with_metric.ensures

pub returns-in-Domain : goal.returns-in-Domain
returns-in-Domain c = λ before h.
    elim c.in-Domain.is [
      | inl e ↦ (
        ap (problem_section_use_faults c.args.scope.now before) e.2,
        with_other c.args.scope.now before c.args.section.now (p.Domain e.0 e.1) c.args.start e.2 refl refl refl h,
      )
      | inr f ↦ elim f [
        | inl e ↦ (
          ap (problem_section_use_faults c.args.scope.now before) e.2,
          with_other c.args.scope.now before c.args.section.now (p.Requirements e.0 e.1) c.args.start e.2 refl refl refl h,
        )
        | inr e ↦ (
          ap (problem_section_use_faults c.args.scope.now before) e.2,
          with_other c.args.scope.now before c.args.section.now (p.Objects e.0 e.1) c.args.start e.2 refl refl refl h,
        )
      ]
    ]
