-- What contracts see of a shelf and of a sink.
use Rattle.std.specs.Prelude.{ℕ, List, Option}
use Rattle.np_io.specs.Files.{Files}

-- a shelf: what is under each name, where it tells, and how often a fetch and a put of each name has answered `Failed`
pub record SeenShelf : Type 0 where
  pub files : Option Files
  pub read_faults : List ℕ → ℕ
  pub write_faults : List ℕ → ℕ

-- a sink: the bytes that were pushed so far, where it tells, and how often a push has answered `Failed`
pub record SeenSink : Type 0 where
  pub pushed : Option (List ℕ)
  pub faults : ℕ
