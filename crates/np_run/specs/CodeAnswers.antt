-- What the code answers, which may run out of memory, beside what is computed.
use Rattle.std.specs.Prelude.{◌≡◌, ℕ, Result, Ok, Err}
use Rattle.np_run.specs.declared.answers.RunEnd.{RunEnd}
use Rattle.np_run.specs.declared.answers.RunFault.{RunFault}
use Rattle.np_run.specs.declared.answers.RunFault.TheVariants as fault
use Rattle.np_run.specs.declared.halt.Lack.{Lack}
use Rattle.np_run.specs.declared.halt.Lack.TheVariants as lack
use Rattle.np_run.specs.declared.halt.Pause.{Pause}
use Rattle.np_run.specs.declared.halt.Pause.TheVariants.{Wide}
use Rattle.np_run.specs.declared.halt.Halt.{Halt}
use Rattle.np_run.specs.declared.halt.Halt.TheVariants.{Cause, Memory}
use Rattle.np_run.specs.Taking.{paused}

-- what stops the code is the cause that is computed, or memory has run out
abbrev pub Stops : {A C : Type 0} → Halt C → Result A C → Type 0
Stops (Cause c) expected = expected ≡ Err c
Stops Memory expected = Unit {0}

-- an answer of the code is what is computed, unless memory runs out
abbrev pub Gives : {A C : Type 0} → Result A (Halt C) → Result A C → Type 0
Gives (Ok x) expected = expected ≡ Ok x
Gives (Err h) expected = Stops h expected

-- the same, where the code changes a value in place
abbrev pub GivesNew : {A C X : Type 0} → Result X (Halt C) → A → Result A C → Type 0
GivesNew (Ok x) new expected = expected ≡ Ok new
GivesNew (Err h) new expected = Stops h expected

-- a missing value stops a step with this
abbrev pub stopped : Pause → Halt Lack → Halt Pause
stopped pause (Cause lack.Missing) = Cause pause
stopped pause (Cause lack.Wide) = Cause Wide
stopped pause Memory = Memory

abbrev pub halted : {A : Type 0} → Pause → Result A (Halt Lack) → Result A (Halt Pause)
halted pause (Ok x) = Ok x
halted pause (Err halt) = Err (stopped pause halt)

-- what stops the step of this number is the answer
abbrev pub ended : ℕ → Halt Pause → Result RunEnd RunFault
ended n (Cause pause) = paused n pause
ended n Memory = Err fault.Memory
