-- What contracts say of a sink in memory.
use Rattle.std.specs.Prelude.{◌≡◌, ℕ, List, Option, Some, None, Result, Ok, Err}
use Rattle.np_io.specs.Failing.{kept_by, next_call}
use Rattle.np_io.specs.declared.memory_sink.MemorySink.{MemorySink}
use Rattle.np_io.specs.declared.shelf.Give.{Give}
use Rattle.np_io.specs.declared.shelf.Give.TheVariants as give

-- the bytes that were pushed so far
abbrev pub pushed_bytes : MemorySink → List ℕ
pushed_bytes sink = sink.bytes.items

-- the pairs that say which calls are to fail
abbrev pub planned : MemorySink → List (ℕ × ℕ)
planned sink = sink.failing.items

-- the number of the next call
abbrev pub next : MemorySink → ℕ
next sink = sink.calls

-- how many calls failed, up to the end of a u64
abbrev pub fault_count : MemorySink → ℕ
fault_count sink = sink.failed

-- how many bytes the next call keeps, where it is to fail
abbrev pub next_kept : MemorySink → Option ℕ
next_kept sink = kept_by (planned sink) (next sink)

-- one more call has its number, and the plan of failures stays
pub record TakesCall (old new : MemorySink) : Type 0 where
  pub numbered : next new ≡ next_call (next old)
  pub plan : planned new ≡ planned old

-- what a push answers, by whether it is to fail
abbrev pub push_answer : Option ℕ → Result (Unit {0}) Give
push_answer (Some kept) = Err give.Failed
push_answer None = Ok tt
