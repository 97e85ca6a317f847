-- What a push leaves of the bytes that were pushed.
use Rattle.std.specs.Prelude.{◌≡◌, ℕ, List, ◌++◌, take}

-- the piece follows what was there
abbrev pub HasPushed : List ℕ → List ℕ → List ℕ → Type 0
HasPushed piece old new = new ≡ old ++ piece

-- a prefix of the piece follows what was there
pub record HasPushedPrefix (piece old new : List ℕ) : Type 0 where
  pub kept : ℕ
  pub there : new ≡ old ++ take kept piece
