-- From what the steps of `solve` come to, to what its answer says.
use Rattle.std.proofs.Common.{◌≡◌, ℕ, inl, inr, false, List, Option, Some, None, sym, ◌∙◌, subst}
use Rattle.std.specs.Str.{bytes_eq}
use Rattle.np_io.specs.Seen.{SeenShelf}
use Rattle.np_io.specs.Files.{Files, Changes, HasPut, HasPutPrefix}
use Rattle.np_io.specs.Counts.{Rose, OnlyAt}
use Rattle.np_cert.specs.declared.certificate.Limit.TheVariants.{Number}
use Rattle.np_model.specs.declared.task.TaskParts.{TaskParts}
use Rattle.np_syntax.specs.declared.domain.Domain.{Domain}
use Rattle.np_problem.specs.declared.problem.Problem.{Problem}
use Rattle.np_typing.specs.TaskOf.{task_of}
use Rattle.np_flat.specs.declared.parts.Parts.{Parts}
use Rattle.np_scale.specs.Scaling.{IsFlatTaskOf}
use Rattle.np_evidence.specs.Certified.{IsCertified}
use Rattle.np_answers.specs.declared.answer.File.TheVariants as file
use Rattle.np_answers.specs.declared.answer.solve.SolveAnswer.{SolveAnswer}
use Rattle.np_answers.specs.declared.answer.solve.SolveAnswer.TheVariants.{Optimal}
use Rattle.np_answers.specs.declared.answer.Answer.{Answer}
use Rattle.np_answers.specs.declared.answer.Answer.TheVariants.{Solved, CannotWrite, OutOfMemory}
use Rattle.np_commands.specs.declared.solve.Work.{Work}
use Rattle.np_commands.specs.Solving.{claim_of, IsTrueOfTask, IsWorkOn}
use Rattle.np_answers.specs.Words.{Solve}
use Rattle.np_planner.specs.Shelves.{IsFaultless, WriteFailed, HasPutBoth, HasPutFirst}
use Rattle.np_planner.specs.TaskFiles.{HoldsTask}
use Rattle.np_planner.specs.SolveAnswers.{HasPutFor, IsRightSolve, OnlyCertified, IsSolveAnswer}
use Rattle.np_planner.specs.TaskSteps.{HoldsFlatAs}
use Rattle.np_planner.specs.SolveSteps.{WasPut, IsNotPut, Concludes, Finishes}

-- two changes, one after the other
both_change : (a b c : Option Files) (P Q R : Files → Files → Type 0) → ((x y z : Files) → P x y → Q y z → R x z) → Changes a b P → Changes b c Q → Changes a c R
both_change None None None P Q R f p q = q
both_change None None (Some z) P Q R f p q = absurd q
both_change None (Some y) c P Q R f p q = absurd p
both_change (Some x) None c P Q R f p q = absurd p
both_change (Some x) (Some y) None P Q R f p q = absurd q
both_change (Some x) (Some y) (Some z) P Q R f p q = f x y z p q

-- nothing failed in the one nor in the other
both_faultless : (a b c : SeenShelf) → IsFaultless a b → IsFaultless b c → IsFaultless a c
both_faultless a b c first second = record { reads = second.reads ∙ first.reads; writes = second.writes ∙ first.writes }

-- where nothing had failed before, one write failed in all
failed_since : (name : List ℕ) (a b c : SeenShelf) → IsFaultless a b → WriteFailed name b c → WriteFailed name a c
failed_since name a b c first second = record {
  rose = subst (λ (counts : List ℕ → ℕ). Rose (counts name) (c.write_faults name)) first.writes second.rose;
  writes = subst (λ (counts : List ℕ → ℕ). OnlyAt name counts c.write_faults) first.writes second.writes;
  reads = second.reads ∙ first.reads;
}

module _ (command : Solve) (apart : bytes_eq command.plan command.certificate ≡ false) (certificate plan : List ℕ) where
  -- a plan that is put leaves the certificate
  put_both : (x y z : Files) → HasPut command.certificate certificate x y → HasPut command.plan plan y z → HasPutBoth command.certificate certificate command.plan plan x z
  put_both x y z first second = record {
    certificate_there = second.others command.certificate apart ∙ first.there;
    plan_there = second.there;
    others = λ other c p. second.others other p ∙ first.others other c;
  }

  put_first : (x y z : Files) → HasPut command.certificate certificate x y → HasPutPrefix command.plan plan y z → HasPutFirst command.certificate certificate command.plan plan x z
  put_first x y z first second = record {
    certificate_there = second.others command.certificate apart ∙ first.there;
    kept = second.kept;
    plan_there = second.there;
    others = λ other c p. second.others other p ∙ first.others other c;
  }

module _ (command : Solve) (apart : bytes_eq command.plan command.certificate ≡ false) (old : SeenShelf) (d : Domain) (p : Problem) (pair : HoldsTask command.inputs old d p) (flat : Parts) (is_flat : IsFlatTaskOf (task_of d p) flat) where
  -- a certificate that could not be put
  not_certified : (work : Work) → IsWorkOn (task_of d p) flat command.nodes work → (new : SeenShelf) (answer : Answer) → IsNotPut file.Certificate command.certificate work.certificate.items old new answer → IsSolveAnswer command old new answer
  not_certified work is new (CannotWrite f) (same, cut) =
      subst (λ f. IsSolveAnswer command old new (CannotWrite f)) (sym same)
      (record { domain = d; problem = p; pair = pair; flat = flat; is_flat = is_flat; answer = work.answer; certificate = work.certificate.items; certified = is.certified; plan = work.plan.items; true_answer = is.true_answer; prefix = cut.prefix; failed = cut.failed })
  not_certified work is new OutOfMemory same = inl same
  not_certified work is new answer unput = absurd unput

  module _ (text plan : List ℕ) (between new : SeenShelf) (put : WasPut command.certificate text old between) where
    -- after the certificate was put nothing else was
    answered : (own : SolveAnswer) (certified : IsCertified flat command.nodes (claim_of own) text) → IsTrueOfTask (task_of d p) flat command.nodes plan certified.certificate.entries own
        → Changes old.files between.files (HasPutFor command text plan own) → (answer : Answer) → answer ≡ Solved own → new ≡ between → IsSolveAnswer command old new answer
    answered own certified true_answer there answer said same =
        subst (λ (a : Answer). IsSolveAnswer command old new a) (sym said) (subst (λ (s : SeenShelf). IsRightSolve command own old s) (sym same)
        (record { domain = d; problem = p; pair = pair; flat = flat; is_flat = is_flat; certificate = text; certified = certified; plan = plan; true_answer = true_answer; put = there; faultless = put.faultless }))

    module _ (cost : ℕ) (certified : IsCertified flat command.nodes (Number cost) text) (true_answer : IsTrueOfTask (task_of d p) flat command.nodes plan certified.certificate.entries (Optimal cost)) where
      planned : WasPut command.plan plan between new → IsRightSolve command (Optimal cost) old new
      planned second = record {
        domain = d;
        problem = p;
        pair = pair;
        flat = flat;
        is_flat = is_flat;
        certificate = text;
        certified = certified;
        plan = plan;
        true_answer = true_answer;
        put = both_change old.files between.files new.files (HasPut command.certificate text) (HasPut command.plan plan) (HasPutBoth command.certificate text command.plan plan) (put_both command apart text plan) put.there second.there;
        faultless = both_faultless old between new put.faultless second.faultless;
      }

      -- a plan that could not be put
      not_planned : (answer : Answer) → IsNotPut file.Plan command.plan plan between new answer → IsSolveAnswer command old new answer
      not_planned (CannotWrite f) (same, cut) =
          subst (λ f. IsSolveAnswer command old new (CannotWrite f)) (sym same)
          (record {
            domain = d;
            problem = p;
            pair = pair;
            flat = flat;
            is_flat = is_flat;
            plan = plan;
            cost = cost;
            cheapest = true_answer;
            certificate = text;
            certified = certified;
            prefix = both_change old.files between.files new.files (HasPut command.certificate text) (HasPutPrefix command.plan plan) (HasPutFirst command.certificate text command.plan plan) (put_first command apart text plan) put.there cut.prefix;
            failed = failed_since command.plan old between new put.faultless cut.failed;
          })
      not_planned OutOfMemory same =
          inr (subst (OnlyCertified command old) (sym same)
          (record { domain = d; problem = p; pair = pair; flat = flat; is_flat = is_flat; plan = plan; cost = cost; cheapest = true_answer; certificate = text; certified = certified; put = put.there; faultless = put.faultless }))
      not_planned answer unput = absurd unput

    -- after the certificate was put
    concluded : (own : SolveAnswer) (certified : IsCertified flat command.nodes (claim_of own) text) → IsTrueOfTask (task_of d p) flat command.nodes plan certified.certificate.entries own
        → (answer : Answer) → Concludes command.plan plan own between new answer → IsSolveAnswer command old new answer
    concluded (Optimal cost) certified true_answer answer (inl done) = subst (λ (a : Answer). IsSolveAnswer command old new a) (sym done.0) (planned cost certified true_answer done.1)
    concluded (Optimal cost) certified true_answer answer (inr unput) = not_planned cost certified true_answer answer unput
    concluded own certified true_answer answer done = answered own certified true_answer put.there answer done.0 done.1

  finished_from : (work : Work) → IsWorkOn (task_of d p) flat command.nodes work → (new : SeenShelf) (answer : Answer) → Finishes command work old new answer → IsSolveAnswer command old new answer
  finished_from work is new answer (inl unput) = not_certified work is new answer unput
  finished_from work is new answer (inr done) = concluded work.certificate.items work.plan.items done.between new done.put work.answer is.certified is.true_answer answer done.concludes

-- after the work on the task of the files
pub finished : (command : Solve) → bytes_eq command.plan command.certificate ≡ false → (old after : SeenShelf) (task : TaskParts) (flat : Parts) → (after ≡ old) × HoldsFlatAs command.inputs old task flat
    → (work : Work) → IsWorkOn task flat command.nodes work → (new : SeenShelf) (answer : Answer) → Finishes command work after new answer → IsSolveAnswer command old new answer
finished command apart old after task flat (same, of) work is new answer done =
    finished_from command apart old of.held.domain of.held.problem of.held.pair flat (subst (λ (t : TaskParts). IsFlatTaskOf t flat) of.held.task_is of.is_flat) work
    (subst (λ (t : TaskParts). IsWorkOn t flat command.nodes work) of.held.task_is is) new answer (subst (λ (s : SeenShelf). Finishes command work s new answer) same done)
