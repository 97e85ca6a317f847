-- What the code answers, which may run out of memory, beside what is defined.
use Rattle.std.specs.Prelude.{◌≡◌, Result, Ok, Err}
use Rattle.np_linear.specs.declared.finding.Halt.{Halt}
use Rattle.np_linear.specs.declared.finding.Halt.TheVariants.{Cause, Memory}

-- what stops the code is the cause that is defined, or memory has run out
abbrev pub Stops : {A C : Type 0} → Halt C → Result A C → Type 0
Stops (Cause c) expected = expected ≡ Err c
Stops Memory expected = Unit {0}

-- an answer of the code is what is defined, unless memory runs out
abbrev pub Gives : {A C : Type 0} → Result A (Halt C) → Result A C → Type 0
Gives (Ok x) expected = expected ≡ Ok x
Gives (Err h) expected = Stops h expected

-- what comes next, unless a cause has come before
abbrev pub and_then : {A B C : Type 0} → Result A C → (A → Result B C) → Result B C
and_then (Ok x) f = f x
and_then (Err e) f = Err e
