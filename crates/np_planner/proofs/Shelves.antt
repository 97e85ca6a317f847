-- Shelves to which nothing was done.
use Rattle.std.proofs.Common.{◌≡◌}
use Rattle.np_io.specs.Seen.{SeenShelf}

-- a shelf whose files and counts are as before is as before
pub same_shelf : (old new : SeenShelf) → new.files ≡ old.files → new.read_faults ≡ old.read_faults → new.write_faults ≡ old.write_faults → new ≡ old
same_shelf old new files reads writes = λ i. record { files = files i; read_faults = reads i; write_faults = writes i }
