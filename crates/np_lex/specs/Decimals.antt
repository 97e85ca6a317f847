-- Decimals.
use Rattle.std.specs.Prelude.{◌≡◌, ℕ, ◌<◌, List, length, slice_index}

-- the text isn't empty, and a leading 0 is alone
abbrev pub HasNoLeadingZero : List ℕ → Type 0
HasNoLeadingZero text = (0 < length text) × (slice_index text 0 ≡ 48 → length text ≡ 1)
