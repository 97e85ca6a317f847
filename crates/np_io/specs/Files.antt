-- What a shelf holds: under each name bytes, or nothing. A shelf that doesn't tell has none of these.
pub use Rattle.np_io.specs.Told.{Changes}
use Rattle.std.specs.Prelude.{◌≡◌, ℕ, ◌<◌, false, List, take, length, Option, Some, None, IfSome, IsSomeAnd}
use Rattle.std.specs.Str.{bytes_eq}

-- the bytes under each name
abbrev pub Files : Type 0
Files = List ℕ → Option (List ℕ)

-- the bytes are under the name, and under each other name what was there
pub record HasPut (name bytes : List ℕ) (old new : Files) : Type 0 where
  pub there : new name ≡ Some bytes
  pub others : (other : List ℕ) → bytes_eq name other ≡ false → new other ≡ old other

-- a prefix of the bytes is under the name, and under each other name what was there
pub record HasPutPrefix (name bytes : List ℕ) (old new : Files) : Type 0 where
  pub kept : ℕ
  pub there : new name ≡ Some (take kept bytes)
  pub others : (other : List ℕ) → bytes_eq name other ≡ false → new other ≡ old other

-- where it is told, these bytes are under the name
abbrev pub IsHeld : Option Files → List ℕ → List ℕ → Type 0
IsHeld files name bytes = IfSome files (λ f. f name ≡ Some bytes)

-- where it is told, more than this many bytes are under the name
abbrev pub IsLonger : Option Files → List ℕ → ℕ → Type 0
IsLonger files name limit = IfSome files (λ f. (bytes : List ℕ) × (f name ≡ Some bytes) × (limit < length bytes))

-- it is told, and nothing is under the name
abbrev pub IsAbsent : Option Files → List ℕ → Type 0
IsAbsent files name = IsSomeAnd files (λ f. f name ≡ None)
