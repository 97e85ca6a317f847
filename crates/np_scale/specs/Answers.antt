-- What the code answers, which may run out of memory, beside what is defined.
use Rattle.std.specs.Prelude.{◌≡◌, Result, Ok, Err}
use Rattle.np_scale.specs.declared.fault.ScaleFault.{ScaleFault}
use Rattle.np_scale.specs.declared.fault.ScaleFault.TheVariants.{TooManyFacts, TooManyValues, TooManySubgoals, UnitWide, NumberWide, FormLong, CostNegative, CostNotWhole, CostWide, Memory}

-- a fault of the code is the one that is defined, or memory has run out
abbrev pub Refuses : {A : Type 0} → ScaleFault → Result A ScaleFault → Type 0
Refuses TooManyFacts expected = expected ≡ Err TooManyFacts
Refuses TooManyValues expected = expected ≡ Err TooManyValues
Refuses TooManySubgoals expected = expected ≡ Err TooManySubgoals
Refuses UnitWide expected = expected ≡ Err UnitWide
Refuses (NumberWide spot) expected = expected ≡ Err (NumberWide spot)
Refuses (FormLong spot) expected = expected ≡ Err (FormLong spot)
Refuses (CostNegative step) expected = expected ≡ Err (CostNegative step)
Refuses (CostNotWhole step) expected = expected ≡ Err (CostNotWhole step)
Refuses (CostWide step) expected = expected ≡ Err (CostWide step)
Refuses Memory expected = Unit {0}

-- an answer of the code is what is defined, unless memory runs out
abbrev pub Answers : {A : Type 0} → Result A ScaleFault → Result A ScaleFault → Type 0
Answers (Ok x) expected = expected ≡ Ok x
Answers (Err e) expected = Refuses e expected
