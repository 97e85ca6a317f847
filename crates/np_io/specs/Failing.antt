-- Calls that are to fail: pairs of a call's number and how many bytes it keeps.
use Rattle.std.specs.Prelude.{ℕ, ◌+◌, ◌-◌, ◌^◌, ◌==◌, List, Option, Some, None, min, find, take}
use Rattle.std.specs.Option.{option_map}

-- how many bytes the call of this number keeps, by the first pair of that number; none where it is not to fail
abbrev pub kept_by : List (ℕ × ℕ) → ℕ → Option ℕ
kept_by pairs call = option_map (λ pair. pair.1) (find (λ pair. pair.0 == call) pairs)

-- what a call keeps of the bytes that it is given
abbrev pub kept_bytes : Option ℕ → List ℕ → List ℕ
kept_bytes None bytes = bytes
kept_bytes (Some kept) bytes = take kept bytes

-- the number of the call after this one, which stays at the end of a u64
abbrev pub next_call : ℕ → ℕ
next_call call = min (call + 1) (2 ^ 64 - 1)
