-- What contracts say of a shelf in memory.
use Rattle.std.specs.Prelude.{◌≡◌, ℕ, List, Option, Some, None, Result, Ok, Err, length, nat_lt, if◌then◌else◌}
use Rattle.np_io.specs.Files.{Files}
use Rattle.np_io.specs.Held.{files_of}
use Rattle.np_io.specs.Failing.{kept_by, next_call}
use Rattle.np_io.specs.declared.failure.Failure.{Failure}
use Rattle.np_io.specs.declared.memory_shelf.MemoryShelf.{MemoryShelf}
use Rattle.np_io.specs.declared.shelf.Fetch.{Fetch}
use Rattle.np_io.specs.declared.shelf.Fetch.TheVariants as fetch
use Rattle.np_io.specs.declared.shelf.Give.{Give}
use Rattle.np_io.specs.declared.shelf.Give.TheVariants as give

-- the files that the shelf holds
abbrev pub held : MemoryShelf → Files
held shelf = files_of shelf.files

-- the pairs that say which calls are to fail
abbrev pub planned : MemoryShelf → List (ℕ × ℕ)
planned shelf = shelf.failing.items

-- the number of the next call
abbrev pub next : MemoryShelf → ℕ
next shelf = shelf.calls

-- the failures that were noted
abbrev pub noted : MemoryShelf → List Failure
noted shelf = shelf.failed.items

-- how many bytes the next call keeps, where it is to fail
abbrev pub next_kept : MemoryShelf → Option ℕ
next_kept shelf = kept_by (planned shelf) (next shelf)

-- one more call has its number, and the plan of failures stays
pub record TakesCall (old new : MemoryShelf) : Type 0 where
  pub numbered : next new ≡ next_call (next old)
  pub plan : planned new ≡ planned old

-- what a fetch answers, by whether it is to fail, what is held and the limit
abbrev pub fetched : Option ℕ → Option (List ℕ) → ℕ → Result (List ℕ) Fetch
fetched (Some kept) bytes limit = Err fetch.Failed
fetched None None limit = Err fetch.Failed
fetched None (Some bytes) limit = if nat_lt limit (length bytes) then Err fetch.TooLong else Ok bytes

-- what a put answers, by whether it is to fail
abbrev pub put_answer : Option ℕ → Result (Unit {0}) Give
put_answer (Some kept) = Err give.Failed
put_answer None = Ok tt
