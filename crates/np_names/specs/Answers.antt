-- What a function that may find faults answers.
use Rattle.std.specs.Prelude.{◌≡◌, false, List, [], Some, Result, Ok, Err}
use Rattle.np_names.specs.declared.fault.TypeFault.{TypeFault}
use Rattle.np_names.specs.Faults.{first_of, is_memory}

-- it is the first of these faults, unless memory ran out
pub record IsFirst (faults : List TypeFault) (fault : TypeFault) : Type 0 where
  pub first : is_memory fault ≡ false → first_of faults ≡ Some fault

-- Ok where there are none, and then this holds of the value; else the first of them
abbrev pub Answers : {A : Type 0} → List TypeFault → (A → Type 0) → Result A TypeFault → Type 0
Answers faults P (Ok a) = (faults ≡ []) × P a
Answers faults P (Err fault) = IsFirst faults fault
