-- From what the steps of `check` come to, to what its answer says.
use Rattle.std.proofs.Common.{◌≡◌, ℕ, inl, inr, List, Option, None, Some, refl, sym, ◌∙◌, subst}
use Rattle.np_io.specs.Seen.{SeenShelf}
use Rattle.np_model.specs.declared.task.Step.{Step}
use Rattle.np_model.specs.declared.task.TaskParts.{TaskParts}
use Rattle.np_typing.specs.TaskOf.{task_of}
use Rattle.np_flat.specs.declared.parts.Parts.{Parts}
use Rattle.np_scale.specs.Scaling.{IsFlatTaskOf}
use Rattle.np_cert.specs.declared.certificate.Certificate.{Certificate}
use Rattle.np_answers.specs.declared.answer.Answer.{Answer}
use Rattle.np_answers.specs.declared.answer.Answer.TheVariants.{Checked, OutOfMemory}
use Rattle.np_answers.specs.Words.{Check, checking}
use Rattle.np_commands.specs.Checking.{IsJudgedAlone, IsJudgedBeside}
use Rattle.np_planner.specs.GivenFiles.{HoldsCertificate, IsWithoutCertificate, HoldsPlan, IsWithoutPlan}
use Rattle.np_planner.specs.CheckAnswers.{IsWithoutNamed, IsTrueBeside, IsCheckAnswer}
use Rattle.np_planner.specs.RightAnswers.{IsRightTo}
use Rattle.np_planner.specs.TaskSteps.{HoldsFlatAs}
use Rattle.np_planner.specs.GivenSteps.{IsCheckedBeside}
use Rattle.np_planner.proofs.TaskEnds.{flat_for}

module _ (command : Check) (old : SeenShelf) (task : TaskParts) (flat : Parts) (of : HoldsFlatAs command.inputs old task flat) where
  -- the certificate can't be had
  uncertified_for : (new : SeenShelf) (answer : Answer) → IsWithoutCertificate command.certificate old new answer → IsRightTo (checking command) old new answer
  uncertified_for new answer is = inr (inl (flat_for command.inputs old task flat of (λ t f. IsWithoutCertificate command.certificate old new answer) is))

  module _ (c : Certificate) (written : HoldsCertificate command.certificate old c) where
    -- its flat task, by the names of the files
    named_flat : IsFlatTaskOf (task_of of.held.domain of.held.problem) flat
    named_flat = subst (λ (t : TaskParts). IsFlatTaskOf t flat) of.held.task_is of.is_flat

    -- the answer to the certificate alone
    judged_for : command.plan ≡ None → (answer : Answer) → IsJudgedAlone flat c answer → IsCheckAnswer command old old answer
    judged_for alone (Checked answer) is = (
      refl,
      record {
        domain = of.held.domain;
        problem = of.held.problem;
        pair = of.held.pair;
        flat = flat;
        is_flat = named_flat;
        certificate = c;
        written = written;
        true_answer = subst (λ (plan : Option (List ℕ)). IsTrueBeside (task_of of.held.domain of.held.problem) flat c plan old answer) (sym alone)
            (is (task_of of.held.domain of.held.problem) of.held.pair.is_task named_flat);
      },
    )
    judged_for alone OutOfMemory is = refl
    judged_for alone answer is = absurd is

    module _ (name : List ℕ) (named : command.plan ≡ Some name) (new : SeenShelf) where
      -- the plan can't be had
      unplanned : (answer : Answer) → IsWithoutPlan task name old new answer → IsRightTo (checking command) old new answer
      unplanned answer is =
          inr (inr (inl (flat_for command.inputs old task flat of (λ t f. IsWithoutNamed command t old new answer)
          (record { certificate = c; written = written; name = name; named = named; without = is }))))

      -- the answer to the certificate and the steps
      beside : new ≡ old → (steps : List Step) → HoldsPlan task name old steps → (answer : Answer) → IsJudgedBeside flat c steps answer → IsCheckAnswer command old new answer
      beside same steps held (Checked answer) is = (
        same,
        record {
          domain = of.held.domain;
          problem = of.held.problem;
          pair = of.held.pair;
          flat = flat;
          is_flat = named_flat;
          certificate = c;
          written = written;
          true_answer = subst (λ (plan : Option (List ℕ)). IsTrueBeside (task_of of.held.domain of.held.problem) flat c plan old answer) (sym named)
              (record {
                steps = steps;
                held = subst (λ (t : TaskParts). HoldsPlan t name old steps) of.held.task_is held;
                of_steps = is (task_of of.held.domain of.held.problem) of.held.pair.is_task named_flat;
              });
        },
      )
      beside same steps held OutOfMemory is = same
      beside same steps held answer is = absurd is

      checked_for : (answer : Answer) → IsCheckedBeside task flat c name old new answer → IsRightTo (checking command) old new answer
      checked_for answer (inl without) = unplanned answer without
      checked_for answer (inr done) = inr (inr (inr (beside done.0 done.1.steps done.1.held answer done.1.of_steps)))

pub uncertified : (command : Check) (old after new : SeenShelf) (task : TaskParts) (flat : Parts) → (after ≡ old) × HoldsFlatAs command.inputs old task flat
    → (answer : Answer) → IsWithoutCertificate command.certificate after new answer → IsRightTo (checking command) old new answer
uncertified command old after new task flat (same, of) answer is =
    uncertified_for command old task flat of new answer (subst (λ (s : SeenShelf). IsWithoutCertificate command.certificate s new answer) same is)

pub judged : (command : Check) (old after last : SeenShelf) (task : TaskParts) (flat : Parts) → (after ≡ old) × HoldsFlatAs command.inputs old task flat
    → (c : Certificate) → (last ≡ after) × HoldsCertificate command.certificate after c → command.plan ≡ None → (answer : Answer) → IsJudgedAlone flat c answer → IsRightTo (checking command) old last answer
judged command old after last task flat (first, of) c (second, written) alone answer is =
    inr (inr (inr (subst (λ (s : SeenShelf). IsCheckAnswer command old s answer) (sym (second ∙ first))
    (judged_for command old task flat of c (subst (λ (s : SeenShelf). HoldsCertificate command.certificate s c) first written) alone answer is))))

pub checked : (command : Check) (old after last new : SeenShelf) (task : TaskParts) (flat : Parts) → (after ≡ old) × HoldsFlatAs command.inputs old task flat
    → (c : Certificate) → (last ≡ after) × HoldsCertificate command.certificate after c → (name : List ℕ) → command.plan ≡ Some name
    → (answer : Answer) → IsCheckedBeside task flat c name last new answer → IsRightTo (checking command) old new answer
checked command old after last new task flat (first, of) c (second, written) name named answer is =
    checked_for command old task flat of c (subst (λ (s : SeenShelf). HoldsCertificate command.certificate s c) first written) name named new answer
    (subst (λ (s : SeenShelf). IsCheckedBeside task flat c name s new answer) (second ∙ first) is)

-- the steps of the plan were judged beside the certificate
pub judged_beside : (task : TaskParts) (flat : Parts) (c : Certificate) (name : List ℕ) (old new : SeenShelf) (steps : List Step) → (new ≡ old) × HoldsPlan task name old steps
    → (answer : Answer) → IsJudgedBeside flat c steps answer → IsCheckedBeside task flat c name old new answer
judged_beside task flat c name old new steps (same, held) answer is = inr (same, record { steps = steps; held = held; of_steps = is })
