-- What a command finds on a shelf, and what it leaves there.
use Rattle.std.specs.Prelude.{◌≡◌, ℕ, ◌≤◌, ◌^◌, Some, List, length, false, take}
use Rattle.std.specs.Str.{bytes_eq}
use Rattle.np_io.specs.Seen.{SeenShelf}
use Rattle.np_io.specs.Files.{Files, IsHeld}
use Rattle.np_io.specs.Counts.{Rose, OnlyAt}

-- the name could be read: where it is told, these bytes are under it, at most 2^24 of them
pub record IsRead (shelf : SeenShelf) (name bytes : List ℕ) : Type 0 where
  pub held : IsHeld shelf.files name bytes
  pub within : length bytes ≤ 2 ^ 24

-- the bytes under the name, where they are told, are these, and this holds of them
pub record HoldsBytesFor (name : List ℕ) (shelf : SeenShelf) (OfBytes : List ℕ → Type 0) : Type 0 where
  pub bytes : List ℕ
  pub held : IsHeld shelf.files name bytes
  pub of_bytes : OfBytes bytes

-- one read of the name failed, and nothing else did; the files are as before
pub record ReadFailed (name : List ℕ) (old new : SeenShelf) : Type 0 where
  pub files : new.files ≡ old.files
  pub rose : Rose (old.read_faults name) (new.read_faults name)
  pub reads : OnlyAt name old.read_faults new.read_faults
  pub writes : new.write_faults ≡ old.write_faults

-- one write of the name failed, and nothing else did
pub record WriteFailed (name : List ℕ) (old new : SeenShelf) : Type 0 where
  pub rose : Rose (old.write_faults name) (new.write_faults name)
  pub writes : OnlyAt name old.write_faults new.write_faults
  pub reads : new.read_faults ≡ old.read_faults

-- the counts of failed reads and writes are as before
pub record IsFaultless (old new : SeenShelf) : Type 0 where
  pub reads : new.read_faults ≡ old.read_faults
  pub writes : new.write_faults ≡ old.write_faults

-- the certificate's bytes are under its name and the plan's under that of the plan, and under each other name what was there
pub record HasPutBoth (certificate_name certificate plan_name plan : List ℕ) (old new : Files) : Type 0 where
  pub certificate_there : new certificate_name ≡ Some certificate
  pub plan_there : new plan_name ≡ Some plan
  pub others : (other : List ℕ) → bytes_eq certificate_name other ≡ false → bytes_eq plan_name other ≡ false → new other ≡ old other

-- the certificate's bytes are under its name and a prefix of the plan's under that of the plan, and under each other name what was there
pub record HasPutFirst (certificate_name certificate plan_name plan : List ℕ) (old new : Files) : Type 0 where
  pub certificate_there : new certificate_name ≡ Some certificate
  pub kept : ℕ
  pub plan_there : new plan_name ≡ Some (take kept plan)
  pub others : (other : List ℕ) → bytes_eq certificate_name other ≡ false → bytes_eq plan_name other ≡ false → new other ≡ old other
