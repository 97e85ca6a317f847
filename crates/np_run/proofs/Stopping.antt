-- What stops the code, and what stops a computation.
use Rattle.std.proofs.Common.{ℕ, ap, Ok, Err, Result}
use Rattle.np_run.specs.declared.answers.RunEnd.{RunEnd}
use Rattle.np_run.specs.declared.answers.RunFault.{RunFault}
use Rattle.np_run.specs.declared.halt.Lack.{Lack}
use Rattle.np_run.specs.declared.halt.Lack.TheVariants as lack
use Rattle.np_run.specs.declared.halt.Pause.{Pause}
use Rattle.np_run.specs.declared.halt.Pause.TheVariants.{Stuck, NoCost, Wide}
use Rattle.np_run.specs.declared.halt.Halt.{Halt}
use Rattle.np_run.specs.declared.halt.Halt.TheVariants.{Cause, Memory}
use Rattle.np_run.specs.Computing.{and_then}
use Rattle.np_run.specs.Taking.{Progress, or_pause, or_paused, IsOutcome}
use Rattle.np_run.specs.CodeAnswers.{Stops, Gives, stopped, halted, ended}

-- what stops a part stops the whole
pub stops_then : {A B C : Type 0} (h : Halt C) (r : Result A C) (f : A → Result B C) → Stops h r → Stops h (and_then r f)
stops_then (Cause c) r f e = ap (λ x. and_then x f) e
stops_then Memory r f e = tt

-- a missing value stops a step
pub stops_paused : {A : Type 0} (pause : Pause) (h : Halt Lack) (r : Result A Lack) → Stops h r → Stops (stopped pause h) (or_pause pause r)
stops_paused pause (Cause lack.Missing) r e = ap (or_pause pause) e
stops_paused pause (Cause lack.Wide) r e = ap (or_pause pause) e
stops_paused pause Memory r e = tt

pub gives_halted : {A : Type 0} (pause : Pause) (given : Result A (Halt Lack)) (r : Result A Lack) → Gives given r → Gives (halted pause given) (or_pause pause r)
gives_halted pause (Ok x) r e = ap (or_pause pause) e
gives_halted pause (Err h) r e = stops_paused pause h r e

-- what stops a step is the answer
pub ends_paused : (n : ℕ) (h : Halt Pause) (r : Result Progress Pause) (f : Progress → Result RunEnd RunFault) → Stops h r → IsOutcome (ended n h) (or_paused n r f)
ends_paused n (Cause Stuck) r f e = ap (λ x. or_paused n x f) e
ends_paused n (Cause NoCost) r f e = ap (λ x. or_paused n x f) e
ends_paused n (Cause Wide) r f e = ap (λ x. or_paused n x f) e
ends_paused n Memory r f e = tt
