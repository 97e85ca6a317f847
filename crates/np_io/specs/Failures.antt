-- Failures that were noted, and how often they name a name.
use Rattle.std.specs.Prelude.{◌≡◌, ℕ, Bool, false, true, List, [], ◌∷◌, ◌++◌, count_by, ◌&&◌, not}
use Rattle.std.specs.Str.{bytes_eq}
use Rattle.std.specs.String.{string_bytes}
use Rattle.np_io.specs.declared.failure.Failure.{Failure}

-- a failed write, or else read, of this name
abbrev pub is_failure : Bool → List ℕ → Failure → Bool
is_failure true name f = f.write && bytes_eq name (string_bytes f.name)
is_failure false name f = not f.write && bytes_eq name (string_bytes f.name)

-- how many failed writes, or else reads, of a name were noted
abbrev pub failures_of : Bool → List Failure → List ℕ → ℕ
failures_of write failures name = count_by (is_failure write name) failures

-- the failure has this kind and name
pub record IsFailure (failure : Failure) (write : Bool) (name : List ℕ) : Type 0 where
  pub kind : failure.write ≡ write
  pub named : string_bytes failure.name ≡ name

-- one more failure was noted, of this kind and name
pub record IsNoted (old new : List Failure) (write : Bool) (name : List ℕ) : Type 0 where
  pub failure : Failure
  pub is : IsFailure failure write name
  pub last : new ≡ old ++ failure ∷ []
