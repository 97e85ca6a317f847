-- That `check` says yes to a valid certificate, and with a plan whose cost is the claim, where nothing fails and memory is there.
use Rattle.std.proofs.Common.{◌≡◌, ℕ, ◌⊎◌, inr, List, Option, Some, None, refl, sym, subst}
use Rattle.np_typing.specs.TaskOf.{task_of}
use Rattle.np_cert.specs.declared.certificate.Limit.{Limit}
use Rattle.np_cert.specs.declared.certificate.Limit.TheVariants.{Number}
use Rattle.np_answers.specs.declared.answer.check.CheckAnswer.{CheckAnswer}
use Rattle.np_answers.specs.declared.answer.check.CheckAnswer.TheVariants.{Yes, YesPlan}
use Rattle.np_answers.specs.declared.answer.Answer.TheVariants.{Checked}
use Rattle.np_answers.specs.Words.{Check, checking}
use Rattle.np_commands.specs.Checking.{IsValidClaim}
use Rattle.np_commands.proofs.Judging.{valid_claim}
use Rattle.np_planner.specs.CheckAnswers.{IsRightCheck, IsTrueBeside, HoldsValid, HoldsOptimal}
use Rattle.np_planner.specs.Promises.{Call, Says, IsAnswered, HadNoFault}
use Rattle.np_planner.proofs.Exactness.{exact_of}

module _ (call : Call) (status : ℕ) (answered : IsAnswered call status) (command : Check) (words_are : call.command ≡ Some (checking command)) (healthy : HadNoFault call (checking command)) where
  -- a true answer to what is there comes
  module _ (claim : Limit) (valid : HoldsValid command claim call.before) (answer : CheckAnswer)
      (true_answer : IsTrueBeside (task_of valid.domain valid.problem) valid.flat valid.certificate command.plan call.before answer) where
    right : IsRightCheck command answer call.before
    right = record {
      domain = valid.domain;
      problem = valid.problem;
      pair = valid.pair;
      flat = valid.flat;
      is_flat = valid.is_flat;
      certificate = valid.certificate;
      written = valid.written;
      true_answer = true_answer;
    }

  module _ (claim : Limit) (valid : HoldsValid command claim call.before) where
    -- the claim of a valid certificate is true of the files' task
    claimed : IsValidClaim (task_of valid.domain valid.problem) valid.flat valid.certificate claim
    claimed = valid_claim valid.flat valid.certificate claim valid.claim_is valid.valid (task_of valid.domain valid.problem) valid.pair.is_task valid.is_flat

    comes_alone : command.plan ≡ None → ((status ≡ 0) × Says call (Checked (Yes claim))) ⊎ (status ≡ 7)
    comes_alone none =
        exact_of call status answered (checking command) (Checked (Yes claim)) words_are
        (record {
          of_files = tt;
          files = valid.files;
          told = valid.told;
          right =
              inr (inr (inr (
                refl,
                right claim valid (Yes claim)
                    (subst (λ (o : Option (List ℕ)). IsTrueBeside (task_of valid.domain valid.problem) valid.flat valid.certificate o call.before (Yes claim)) (sym none) claimed),
              )));
        })
        healthy

  comes_beside : (cost : ℕ) → HoldsOptimal command cost call.before → ((status ≡ 0) × Says call (Checked (YesPlan cost))) ⊎ (status ≡ 7)
  comes_beside cost holds =
      let valid = holds.valid in
      let plan = holds.plan in
      exact_of call status answered (checking command) (Checked (YesPlan cost)) words_are
      (record {
        of_files = tt;
        files = valid.files;
        told = valid.told;
        right =
            inr (inr (inr (
              refl,
              right (Number cost) valid (YesPlan cost)
                  (subst (λ (o : Option (List ℕ)). IsTrueBeside (task_of valid.domain valid.problem) valid.flat valid.certificate o call.before (YesPlan cost)) (sym plan.named)
                  (record { steps = plan.steps; held = plan.held; of_steps = record { claim = claimed (Number cost) valid; is_plan = plan.is_plan } })),
            )));
      })
      healthy

-- `check` on a valid certificate says yes, or memory runs out
pub comes : (call : Call) (status : ℕ) → IsAnswered call status → (command : Check) (claim : Limit) → call.command ≡ Some (checking command) → command.plan ≡ None → HoldsValid command claim call.before → HadNoFault call (checking command)
    → ((status ≡ 0) × Says call (Checked (Yes claim))) ⊎ (status ≡ 7)
comes call status answered command claim words_are none valid healthy = comes_alone call status answered command words_are healthy claim valid none

-- and with a plan whose cost is the claim
pub plan_comes : (call : Call) (status : ℕ) → IsAnswered call status → (command : Check) (cost : ℕ) → call.command ≡ Some (checking command) → HoldsOptimal command cost call.before → HadNoFault call (checking command)
    → ((status ≡ 0) × Says call (Checked (YesPlan cost))) ⊎ (status ≡ 7)
plan_comes call status answered command cost words_are holds healthy = comes_beside call status answered command words_are healthy cost holds
