-- Names as a set that keeps their order.
use Rattle.std.specs.Borrow.{Bor}
use Rattle.std.specs.Prelude.{ℕ, ◌^◌, ◌<◌, List, map, length}
use Rattle.std.specs.HashSet.{HashSet}

-- the names of a set in their order
abbrev pub names_in : {S : Type 0} → HashSet (Bor (List ℕ)) S → List (List ℕ)
names_in set = map (λ k. k.now) set.keys

-- they are few enough for a u32 to number them
abbrev pub AreNumbered : {S : Type 0} → HashSet (Bor (List ℕ)) S → Type 0
AreNumbered set = length set.keys < 2 ^ 32
