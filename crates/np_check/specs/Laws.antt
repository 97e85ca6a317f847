-- Laws of the definitions: a certificate has at most one verdict, a fault is no yes, and a list of steps has at most one end.
use Rattle.std.specs.Prelude.{◌≡◌, List}
use Rattle.np_model.specs.declared.task.Step.{Step}
use Rattle.np_flat.specs.declared.parts.Parts.{Parts}
use Rattle.np_flat.specs.Flats.{IsFlat}
use Rattle.np_cert.specs.declared.certificate.Certificate.{Certificate}
use Rattle.np_cert.specs.Valid.{IsValid}
use Rattle.np_check.specs.declared.verdict.Verdict.{Verdict}
use Rattle.np_check.specs.declared.verdict.Verdict.TheVariants.{Holds, Memory}
use Rattle.np_check.specs.Verdicts.{IsVerdict}
use Rattle.np_check.specs.declared.plan_end.PlanEnd.{PlanEnd}
use Rattle.np_check.specs.PlanEnds.{IsPlanEnd}

-- a certificate with another verdict than that it is valid isn't valid, unless memory ran out
abbrev pub FaultIsNoYes : Type 0
FaultIsNoYes = (task : Parts) (c : Certificate) (v : Verdict) → IsVerdict task c v → (v ≡ Holds → ⊥) → (v ≡ Memory → ⊥) → IsValid task c → ⊥

-- a certificate has at most one verdict, unless memory ran out
abbrev pub OneVerdict : Type 0
OneVerdict = (task : Parts) (c : Certificate) (v w : Verdict) → IsVerdict task c v → IsVerdict task c w → (v ≡ Memory → ⊥) → (w ≡ Memory → ⊥) → v ≡ w

-- a list of steps comes to one end at most
abbrev pub OnePlanEnd : Type 0
OnePlanEnd = (task : Parts) (steps : List Step) (e f : PlanEnd) → IsFlat task → IsPlanEnd task steps e → IsPlanEnd task steps f → e ≡ f
