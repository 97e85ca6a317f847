-- What a reading function answers, beside what its reader gives. A fault is either that memory ran out, or a refusal.
use Rattle.std.specs.Prelude.{◌≡◌, Bool, true, false, Option, None, Some, Result, Ok, Err}

-- a refusal, where nothing is there to be given; where memory ran out, nothing is said
abbrev pub RefusesBy : {Y : Type 0} → Bool → Option Y → Type 0
RefusesBy true there = Unit {0}
RefusesBy false there = there ≡ None

-- the same of a fault
abbrev pub Refuses : {F Y : Type 0} → (F → Bool) → F → Option Y → Type 0
Refuses is_memory fault there = RefusesBy (is_memory fault) there

-- the answer is what is there to be given, by how contracts see it, unless memory ran out
abbrev pub Gives : {F X Y : Type 0} → (F → Bool) → (X → Y) → Result X F → Option Y → Type 0
Gives is_memory view (Ok x) there = there ≡ Some (view x)
Gives is_memory view (Err fault) there = Refuses is_memory fault there
