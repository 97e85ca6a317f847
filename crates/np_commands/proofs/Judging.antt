-- From what the steps of `check` come to, to what its answer says.
use Rattle.std.proofs.Common.{◌≡◌, List, refl, subst}
use Rattle.np_model.specs.declared.task.Step.{Step}
use Rattle.np_model.specs.declared.task.TaskParts.{TaskParts}
use Rattle.np_model.specs.Tasks.{IsTask}
use Rattle.np_flat.specs.declared.parts.Parts.{Parts}
use Rattle.np_flat.specs.Flats.{IsFlat}
use Rattle.np_bind.proofs.BoundIsBound.{bound_is_bound}
use Rattle.np_scale.specs.Scaling.{IsFlatTaskOf}
use Rattle.np_scale.proofs.FlatIsFlat.{flat_is_flat}
use Rattle.np_cert.specs.declared.certificate.Limit.{Limit}
use Rattle.np_cert.specs.declared.certificate.Limit.TheVariants.{Number}
use Rattle.np_cert.specs.declared.certificate.Certificate.{Certificate}
use Rattle.np_cert.specs.Valid.{IsValid}
use Rattle.np_check.proofs.ClaimBounds.{claim_bounds}
use Rattle.np_answers.specs.declared.answer.check.CheckAnswer.TheVariants.{Yes, YesPlan, No}
use Rattle.np_answers.specs.declared.answer.check.Fault.TheVariants.{Stuck, NoGoal, OtherCost}
use Rattle.np_answers.specs.declared.answer.Answer.{Answer}
use Rattle.np_answers.specs.declared.answer.Answer.TheVariants.{Checked, OutOfMemory}
use Rattle.np_commands.specs.Checking.{IsValidClaim, IsTrueClaim, IsJudgedAlone, IsJudgedBeside}
use Rattle.np_commands.specs.Steps.{IsCompared}
use Rattle.np_commands.proofs.Claims.{claim_by_names}
use Rattle.np_commands.proofs.PlanEnds.{plan_by_names, no_goal_by_names, stuck_by_names}

-- the flat task of a task is one
is_flat : (task : TaskParts) (flat : Parts) → IsTask task → IsFlatTaskOf task flat → IsFlat flat
is_flat task flat well of = flat_is_flat of.bound flat (bound_is_bound task of.bound well of.binds) of.scales

module _ (flat : Parts) (c : Certificate) where
  -- the claim of a valid certificate is true of the plans of each task with this flat task
  pub valid_claim : (claim : Limit) → c.claim ≡ claim → IsValid flat c → (task : TaskParts) → IsTask task → IsFlatTaskOf task flat → IsValidClaim task flat c claim
  valid_claim claim claim_is valid task well of = record {
    claim_is = claim_is;
    valid = valid;
    true_claim = subst (λ (l : Limit). IsTrueClaim l task) claim_is (claim_by_names task flat well of c.claim (claim_bounds flat c (is_flat task flat well of) valid));
  }

  -- so the answer is yes
  pub valid_alone : IsValid flat c → IsJudgedAlone flat c (Checked (Yes c.claim))
  valid_alone valid = λ task well of. valid_claim c.claim refl valid task well of

  module _ (steps : List Step) where
    -- what the steps come to on the flat task beside the claim is true of them by names
    pub compared_beside : IsValid flat c → (answer : Answer) → IsCompared flat c.claim steps answer → IsJudgedBeside flat c steps answer
    compared_beside valid (Checked (YesPlan cost)) (claim_is, is) = λ task well of.
        record { claim = valid_claim (Number cost) claim_is valid task well of; is_plan = plan_by_names task flat well of steps cost is }
    compared_beside valid (Checked (No (Stuck number))) is = λ task well of.
        record { valid = valid; ends_flat = is; ends = stuck_by_names task flat well of steps number is }
    compared_beside valid (Checked (No NoGoal)) is = λ task well of.
        record { valid = valid; ends_flat = is; ends = no_goal_by_names task flat well of steps is }
    compared_beside valid (Checked (No (OtherCost cost number))) (claim_is, other, is) = λ task well of.
        record { claim_is = claim_is; valid = valid; is_plan = plan_by_names task flat well of steps cost is; other = other }
    compared_beside valid (Checked (No fault)) is = absurd is
    compared_beside valid (Checked answer) is = absurd is
    compared_beside valid OutOfMemory is = tt
    compared_beside valid answer is = absurd is
