-- A part's fault as that of the whole.
use Rattle.std.proofs.Common.{◌≡◌, Result, Ok, Err, refl, sym, ◌∙◌}
use Rattle.std.specs.Result.{IsErrAnd, IsErrOf}
use Rattle.np_simplex.specs.declared.fault.LpFault.{LpFault}
use Rattle.np_simplex.specs.declared.fault.LpFault.TheVariants as fault
use Rattle.np_simplex.specs.declared.fault.Halt.{Halt}
use Rattle.np_simplex.specs.declared.fault.Halt.TheVariants as halt
use Rattle.np_simplex.specs.Faults.{fault_of}

-- what is a refusal of the whole was one of the part
wide_of : (h : Halt) → fault_of h ≡ fault.Wide → h ≡ halt.Wide
wide_of halt.Wide e = refl
wide_of halt.Memory e = cc

pub halt_wide : {X : Type 0} (r : Result X LpFault) (h : Halt) → IsErrAnd r (λ e. e ≡ fault_of h) → IsErrOf r fault.Wide → h ≡ halt.Wide
halt_wide (Ok x) h a w = absurd a
halt_wide (Err e) h a w = wide_of h (let f : e ≡ fault.Wide = cc in sym a ∙ f)

-- the same between parts
pub same_wide : {X : Type 0} (r : Result X Halt) (h : Halt) → IsErrAnd r (λ e. e ≡ h) → IsErrOf r halt.Wide → h ≡ halt.Wide
same_wide (Ok x) h a w = absurd a
same_wide (Err e) h a w = let f : e ≡ halt.Wide = cc in sym a ∙ f

pub same_fault : {X : Type 0} (r : Result X LpFault) (h : LpFault) → IsErrAnd r (λ e. e ≡ h) → IsErrOf r fault.Wide → h ≡ fault.Wide
same_fault (Ok x) h a w = absurd a
same_fault (Err e) h a w = let f : e ≡ fault.Wide = cc in sym a ∙ f
