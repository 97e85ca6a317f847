-- One answer at most is true of a certificate, and of a certificate and the steps of a plan.
use Rattle.std.proofs.Common.{◌≡◌, ℕ, pos, List, Option, Some, None, refl, sym, ap, ◌∙◌}
use Rattle.std.proofs.lemmas.Option.{same_Some}
use Rattle.np_frac.specs.Fractions.{Fraction, whole}
use Rattle.np_model.specs.declared.task.Step.{Step}
use Rattle.np_model.specs.declared.task.TaskParts.{TaskParts}
use Rattle.np_model.specs.Plans.{IsPlan}
use Rattle.np_model.proofs.Runs.{one_cost}
use Rattle.np_run.specs.declared.answers.RunEnd.{RunEnd}
use Rattle.np_run.specs.declared.answers.RunEnd.TheVariants as run
use Rattle.np_run.specs.RunAnswers.{IsAnswer}
use Rattle.np_flat.specs.declared.parts.Parts.{Parts}
use Rattle.np_cert.specs.declared.certificate.Limit.TheVariants.{Number}
use Rattle.np_cert.specs.declared.certificate.Certificate.{Certificate}
use Rattle.np_cert.specs.Valid.{IsValid}
use Rattle.np_check.specs.declared.verdict.Verdict.{Verdict}
use Rattle.np_check.specs.declared.verdict.Verdict.TheVariants as verdict
use Rattle.np_check.specs.Verdicts.{IsVerdict}
use Rattle.np_check.specs.declared.plan_end.PlanEnd.TheVariants as plan
use Rattle.np_check.proofs.OneVerdict.{one_verdict, fault_is_no_yes}
use Rattle.np_answers.specs.declared.answer.check.CheckAnswer.{CheckAnswer}
use Rattle.np_answers.specs.declared.answer.check.CheckAnswer.TheVariants.{Yes, YesPlan, No}
use Rattle.np_answers.specs.declared.answer.check.Fault.{Fault}
use Rattle.np_answers.specs.declared.answer.check.Fault.TheVariants.{ProofFails, Repeats, Unjustified, ClaimAbove, Stuck, NoGoal, OtherCost}
use Rattle.np_commands.specs.Checking.{IsCertificateFault, IsTrueOfCertificate, IsNotPlan, CostsOther, IsTrueOfPlan}
use Rattle.np_commands.specs.Laws.{OneOfCertificate, OneOfPlan}

goal_is_no_other : (cost : Fraction) → run.Goal cost ≡ run.NoGoal → ⊥
goal_is_no_other cost e = absurd cc

goal_is_not_stuck : (cost : Fraction) (number : ℕ) → run.Goal cost ≡ run.Stuck number → ⊥
goal_is_not_stuck cost number e = absurd cc

no_goal_is_not_stuck : (number : ℕ) → run.NoGoal ≡ run.Stuck number → ⊥
no_goal_is_not_stuck number e = absurd cc

one_stuck : (m n : ℕ) → run.Stuck m ≡ run.Stuck n → m ≡ n
one_stuck m n e = cc

whole_once : (m n : ℕ) → whole (pos m) ≡ whole (pos n) → m ≡ n
unfolding whole
whole_once m n e = let numbers : pos m ≡ pos n = ap (λ (f : Fraction). f.num) e in cc

same_number : (m n : ℕ) → Number m ≡ Number n → m ≡ n
same_number m n e = cc

module _ (flat : Parts) (c : Certificate) where
  -- ---- the faults of a certificate

  -- the fault that a verdict names
  abbrev fault_of : Verdict → Option Fault
  fault_of (verdict.BadProof number) = Some (ProofFails number)
  fault_of (verdict.TwiceEntry number) = Some (Repeats number)
  fault_of (verdict.BadEntry number) = Some (Unjustified number)
  fault_of verdict.BadClaim = Some ClaimAbove
  fault_of verdict.Holds = None
  fault_of verdict.Memory = None

  record IsBy (fault : Fault) : Type 0 where
    by : Verdict
    is : IsVerdict flat c by
    fault_is : fault_of by ≡ Some fault
    faulty : by ≡ verdict.Holds → ⊥
    known : by ≡ verdict.Memory → ⊥

  is_by : (fault : Fault) → IsCertificateFault flat c fault → IsBy fault
  is_by (ProofFails number) a = record { by = verdict.BadProof number; is = a; fault_is = refl; faulty = λ e. cc; known = λ e. cc }
  is_by (Repeats number) a = record { by = verdict.TwiceEntry number; is = a; fault_is = refl; faulty = λ e. cc; known = λ e. cc }
  is_by (Unjustified number) a = record { by = verdict.BadEntry number; is = a; fault_is = refl; faulty = λ e. cc; known = λ e. cc }
  is_by ClaimAbove a = record { by = verdict.BadClaim; is = a; fault_is = refl; faulty = λ e. cc; known = λ e. cc }
  is_by fault a = absurd a

  one_fault : (f g : Fault) → IsCertificateFault flat c f → IsCertificateFault flat c g → f ≡ g
  one_fault f g a b =
      let v = is_by f a in
      let w = is_by g b in
      same_Some f g (sym v.fault_is ∙ ap fault_of (one_verdict flat c v.by w.by v.is w.is v.known w.known) ∙ w.fault_is)

  -- a certificate with a fault isn't valid
  faulty : (f : Fault) → IsCertificateFault flat c f → IsValid flat c → ⊥
  faulty f a valid = let v = is_by f a in fault_is_no_yes flat c v.by v.is v.faulty v.known valid

  -- ---- a certificate

  module _ (task : TaskParts) where
    alone : (a b : CheckAnswer) → IsTrueOfCertificate task flat c a → IsTrueOfCertificate task flat c b → a ≡ b
    alone (Yes claim) (Yes other) a b = ap Yes (sym a.claim_is ∙ b.claim_is)
    alone (Yes claim) (No f) a b = absurd (faulty f b a.valid)
    alone (No f) (Yes other) a b = absurd (faulty f a b.valid)
    alone (No f) (No g) a b = ap No (one_fault f g a b)
    alone (Yes claim) other a b = absurd b
    alone (No f) other a b = absurd b
    alone other b a e = absurd a

    -- ---- a certificate and a plan

    module _ (steps : List Step) where
      -- a plan comes to no other end
      planned : (cost : Fraction) (end : RunEnd) → IsPlan task steps cost → IsAnswer task steps end → run.Goal cost ≡ end
      planned cost end is answer = answer.only (run.Goal cost) is

      one_number : (m n : ℕ) → IsPlan task steps (whole (pos m)) → IsPlan task steps (whole (pos n)) → m ≡ n
      one_number m n a b = whole_once m n (one_cost task steps (whole (pos m)) (whole (pos n)) a b)

      abbrev Only : CheckAnswer → Type 0
      Only a = (b : CheckAnswer) → IsTrueOfPlan task flat c steps b → a ≡ b

      yes_beside : (cost : ℕ) → IsTrueOfPlan task flat c steps (YesPlan cost) → Only (YesPlan cost)
      yes_beside cost a (YesPlan other) b = ap YesPlan (same_number cost other (sym a.claim.claim_is ∙ b.claim.claim_is))
      yes_beside cost a (No (Stuck number)) b = absurd (goal_is_not_stuck (whole (pos cost)) number (planned (whole (pos cost)) (run.Stuck number) a.is_plan b.ends))
      yes_beside cost a (No NoGoal) b = absurd (goal_is_no_other (whole (pos cost)) (planned (whole (pos cost)) run.NoGoal a.is_plan b.ends))
      yes_beside cost a (No (OtherCost other number)) b =
          absurd (b.other (one_number other cost b.is_plan a.is_plan ∙ same_number cost number (sym a.claim.claim_is ∙ b.claim_is)))
      yes_beside cost a (No (ProofFails number)) b = absurd (faulty (ProofFails number) b a.claim.valid)
      yes_beside cost a (No (Repeats number)) b = absurd (faulty (Repeats number) b a.claim.valid)
      yes_beside cost a (No (Unjustified number)) b = absurd (faulty (Unjustified number) b a.claim.valid)
      yes_beside cost a (No ClaimAbove) b = absurd (faulty ClaimAbove b a.claim.valid)
      yes_beside cost a (Yes claim) b = absurd b

      stuck : (m : ℕ) → IsNotPlan task flat c steps (plan.Stuck m) (run.Stuck m) → Only (No (Stuck m))
      stuck m a (YesPlan other) b = absurd (goal_is_not_stuck (whole (pos other)) m (planned (whole (pos other)) (run.Stuck m) b.is_plan a.ends))
      stuck m a (No (Stuck n)) b = ap (λ (k : ℕ). No (Stuck k)) (one_stuck m n (b.ends.only (run.Stuck m) a.ends.true_of))
      stuck m a (No NoGoal) b = absurd (no_goal_is_not_stuck m (a.ends.only run.NoGoal b.ends.true_of))
      stuck m a (No (OtherCost other number)) b = absurd (goal_is_not_stuck (whole (pos other)) m (planned (whole (pos other)) (run.Stuck m) b.is_plan a.ends))
      stuck m a (No (ProofFails number)) b = absurd (faulty (ProofFails number) b a.valid)
      stuck m a (No (Repeats number)) b = absurd (faulty (Repeats number) b a.valid)
      stuck m a (No (Unjustified number)) b = absurd (faulty (Unjustified number) b a.valid)
      stuck m a (No ClaimAbove) b = absurd (faulty ClaimAbove b a.valid)
      stuck m a (Yes claim) b = absurd b

      no_goal : IsNotPlan task flat c steps plan.NoGoal run.NoGoal → Only (No NoGoal)
      no_goal a (YesPlan other) b = absurd (goal_is_no_other (whole (pos other)) (planned (whole (pos other)) run.NoGoal b.is_plan a.ends))
      no_goal a (No (Stuck n)) b = absurd (no_goal_is_not_stuck n (b.ends.only run.NoGoal a.ends.true_of))
      no_goal a (No NoGoal) b = refl
      no_goal a (No (OtherCost other number)) b = absurd (goal_is_no_other (whole (pos other)) (planned (whole (pos other)) run.NoGoal b.is_plan a.ends))
      no_goal a (No (ProofFails number)) b = absurd (faulty (ProofFails number) b a.valid)
      no_goal a (No (Repeats number)) b = absurd (faulty (Repeats number) b a.valid)
      no_goal a (No (Unjustified number)) b = absurd (faulty (Unjustified number) b a.valid)
      no_goal a (No ClaimAbove) b = absurd (faulty ClaimAbove b a.valid)
      no_goal a (Yes claim) b = absurd b

      other_cost : (cost claim : ℕ) → CostsOther task flat c steps cost claim → Only (No (OtherCost cost claim))
      other_cost cost claim a (YesPlan other) b =
          absurd (a.other (one_number cost other a.is_plan b.is_plan ∙ same_number other claim (sym b.claim.claim_is ∙ a.claim_is)))
      other_cost cost claim a (No (Stuck number)) b = absurd (goal_is_not_stuck (whole (pos cost)) number (planned (whole (pos cost)) (run.Stuck number) a.is_plan b.ends))
      other_cost cost claim a (No NoGoal) b = absurd (goal_is_no_other (whole (pos cost)) (planned (whole (pos cost)) run.NoGoal a.is_plan b.ends))
      other_cost cost claim a (No (OtherCost other number)) b =
          let costs : cost ≡ other = one_number cost other a.is_plan b.is_plan in
          let claims : claim ≡ number = same_number claim number (sym a.claim_is ∙ b.claim_is) in
          λ i. No (OtherCost (costs i) (claims i))
      other_cost cost claim a (No (ProofFails number)) b = absurd (faulty (ProofFails number) b a.valid)
      other_cost cost claim a (No (Repeats number)) b = absurd (faulty (Repeats number) b a.valid)
      other_cost cost claim a (No (Unjustified number)) b = absurd (faulty (Unjustified number) b a.valid)
      other_cost cost claim a (No ClaimAbove) b = absurd (faulty ClaimAbove b a.valid)
      other_cost cost claim a (Yes other) b = absurd b

      fault : (f : Fault) → IsCertificateFault flat c f → Only (No f)
      fault f a (YesPlan other) b = absurd (faulty f a b.claim.valid)
      fault f a (No (Stuck number)) b = absurd (faulty f a b.valid)
      fault f a (No NoGoal) b = absurd (faulty f a b.valid)
      fault f a (No (OtherCost other number)) b = absurd (faulty f a b.valid)
      fault f a (No (ProofFails number)) b = ap No (one_fault f (ProofFails number) a b)
      fault f a (No (Repeats number)) b = ap No (one_fault f (Repeats number) a b)
      fault f a (No (Unjustified number)) b = ap No (one_fault f (Unjustified number) a b)
      fault f a (No ClaimAbove) b = ap No (one_fault f ClaimAbove a b)
      fault f a (Yes claim) b = absurd b

      beside : (a : CheckAnswer) → IsTrueOfPlan task flat c steps a → Only a
      beside (YesPlan cost) a = yes_beside cost a
      beside (No (Stuck number)) a = stuck number a
      beside (No NoGoal) a = no_goal a
      beside (No (OtherCost cost claim)) a = other_cost cost claim a
      beside (No (ProofFails number)) a = fault (ProofFails number) a
      beside (No (Repeats number)) a = fault (Repeats number) a
      beside (No (Unjustified number)) a = fault (Unjustified number) a
      beside (No ClaimAbove) a = fault ClaimAbove a
      beside (Yes claim) a = absurd a

pub one_of_certificate : OneOfCertificate
one_of_certificate task flat c a b = alone flat c task a b

pub one_of_plan : OneOfPlan
one_of_plan task flat c steps a b one two = beside flat c task steps a one b two
