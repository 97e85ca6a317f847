-- What the code answers, which may run out of memory, beside what is defined.
use Rattle.std.specs.Prelude.{◌≡◌, Result, Ok, Err}
use Rattle.np_bind.specs.declared.bound.BindFault.{BindFault}
use Rattle.np_bind.specs.declared.bound.BindFault.TheVariants.{TooManyTuples, TooManySteps, NotLinear, GoalUndefined, MetricUndefined, NumberWide, Memory}

-- a fault of the code is the one that is defined, or memory has run out
abbrev pub Refuses : {A : Type 0} → BindFault → Result A BindFault → Type 0
Refuses TooManyTuples expected = expected ≡ Err TooManyTuples
Refuses TooManySteps expected = expected ≡ Err TooManySteps
Refuses (NotLinear spot) expected = expected ≡ Err (NotLinear spot)
Refuses GoalUndefined expected = expected ≡ Err GoalUndefined
Refuses MetricUndefined expected = expected ≡ Err MetricUndefined
Refuses (NumberWide spot) expected = expected ≡ Err (NumberWide spot)
Refuses Memory expected = Unit {0}

-- an answer of the code is what is defined, unless memory runs out
abbrev pub Answers : {A : Type 0} → Result A BindFault → Result A BindFault → Type 0
Answers (Ok x) expected = expected ≡ Ok x
Answers (Err e) expected = Refuses e expected
