-- What a reading function answers, beside what its reader gives.
use Rattle.std.specs.Prelude.{◌≡◌, List, Result, Ok, Err}
use Rattle.np_lex.specs.Tokens.{Item}
use Rattle.np_read.specs.declared.fault.ReadFault.{ReadFault}
use Rattle.np_read.specs.declared.fault.ReadFault.TheVariants.{Next, Memory}
use Rattle.np_read.specs.ItemReaders.{Outcome}

-- the reader stops at these items; where memory ran out, nothing is said
abbrev pub Stops : {Y : Type 0} → List Item → ReadFault → Outcome Y → Type 0
Stops rest Next read = read ≡ Err rest
Stops rest Memory read = Unit {0}

-- the answer is what the reader gives, by how contracts see it, and these items are left: at a fault those from it on
abbrev pub Gives : {X Y : Type 0} → (X → Y) → List Item → Result X ReadFault → Outcome Y → Type 0
Gives view rest (Ok x) read = read ≡ Ok (view x, rest)
Gives view rest (Err fault) read = Stops rest fault read
