-- What a search of a flat task comes to, as the work on its task.
use Rattle.std.proofs.Common.{◌≡◌, ℕ, ◌≤◌, ◌^◌, List, refl, sym, subst}
use Rattle.np_model.specs.declared.task.TaskParts.{TaskParts}
use Rattle.np_model.specs.Tasks.{IsTask}
use Rattle.np_flat.specs.declared.parts.Parts.{Parts}
use Rattle.np_cert.specs.declared.certificate.Limit.{Limit}
use Rattle.np_scale.specs.Scaling.{IsFlatTaskOf}
use Rattle.np_evidence.specs.declared.outcome.End.{End}
use Rattle.np_evidence.specs.declared.outcome.End.TheVariants.{Plan, NoPlan, Spent as SpentAt}
use Rattle.np_evidence.specs.declared.outcome.Outcome.{Outcome}
use Rattle.np_evidence.specs.Certified.{IsCertifiedBy}
use Rattle.np_evidence.specs.Outcomes.{claim_after, IsTrueEnd, IsOutcomeOf}
use Rattle.np_answers.specs.declared.answer.solve.SolveAnswer.{SolveAnswer}
use Rattle.np_commands.specs.declared.solve.Work.{Work}
use Rattle.np_commands.specs.Solving.{claim_of, IsTrueOfTask, IsWorkOn}
use Rattle.np_commands.specs.Steps.{ArePlanned, IsPrinted, answer_of}
use Rattle.np_commands.proofs.NamedBounds.{unsolvable}
use Rattle.np_commands.proofs.NamedPlans.{are_steps, cheapest}
use Rattle.np_commands.proofs.SpentBudgets.{spent}

module _ (task : TaskParts) (flat : Parts) (t : IsTask task) (of : IsFlatTaskOf task flat) (nodes : ℕ) (few : nodes ≤ 2 ^ 24)
    (outcome : Outcome) (is : IsOutcomeOf flat nodes outcome) where
  same_claim : (e : End) → claim_after e ≡ claim_of (answer_of nodes e)
  same_claim (Plan numbers cost) = refl
  same_claim NoPlan = refl
  same_claim (SpentAt bound) = refl

  planned : (e : End) → IsTrueEnd flat nodes is.certificate.entries e → ArePlanned task flat e
  planned (Plan numbers cost) ends = are_steps task flat t of nodes numbers.items cost ends
  planned NoPlan ends = tt
  planned (SpentAt bound) ends = tt

  true_answer : (e : End) → IsTrueEnd flat nodes is.certificate.entries e → (text : List ℕ) → IsPrinted task flat e text → IsTrueOfTask task flat nodes text is.certificate.entries (answer_of nodes e)
  true_answer (Plan numbers cost) ends text printed = cheapest task flat t of nodes numbers.items cost ends few text printed
  true_answer NoPlan ends text printed = unsolvable task flat t of ends
  true_answer (SpentAt bound) ends text printed = record {
    whole_budget = refl;
    spent = spent task flat t of (claim_after outcome.end) is.certificate.entries is.certified.expanded is.certified.valid.distinct nodes bound ends.0 ends.1;
    spent_flat = ends.1;
  }

  pub are_planned : ArePlanned task flat outcome.end
  are_planned = planned outcome.end is.ends

  pub work_is : (work : Work) → work.certificate.items ≡ outcome.text.items → IsPrinted task flat outcome.end work.plan.items → work.answer ≡ answer_of nodes outcome.end → IsWorkOn task flat nodes work
  work_is work text printed answers = record {
    certified = record {
      certificate = is.certificate;
      by = subst (λ (a : SolveAnswer). IsCertifiedBy flat nodes (claim_of a) work.certificate.items is.certificate) (sym answers)
          (subst (λ (bytes : List ℕ). IsCertifiedBy flat nodes (claim_of (answer_of nodes outcome.end)) bytes is.certificate) (sym text)
          (subst (λ (l : Limit). IsCertifiedBy flat nodes l outcome.text.items is.certificate) (same_claim outcome.end) is.certified));
    };
    true_answer = subst (IsTrueOfTask task flat nodes work.plan.items is.certificate.entries) (sym answers)
        (true_answer outcome.end is.ends work.plan.items printed);
  }
