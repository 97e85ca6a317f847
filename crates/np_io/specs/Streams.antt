-- What is there after a write of a whole piece that may have failed.
use Rattle.std.specs.Prelude.{ℕ, List, Option, take}
use Rattle.std.specs.Io.KnownBytes.{Appends}

-- known bytes grew by a prefix of the piece
pub record AppendsPrefix (old new : Option (List ℕ)) (piece : List ℕ) : Type 0 where
  pub kept : ℕ
  pub there : Appends old new (take kept piece)
