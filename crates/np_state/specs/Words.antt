-- Truth values in words of 64 bits.
use Rattle.std.specs.Prelude.{◌≡◌, ℕ, zero, suc, ◌+◌, ◌-◌, ◌*◌, ◌/◌, ◌%◌, ◌<◌, ◌≤◌, ◌^◌, ◌==◌, Bool, false, List, length, map, All, slice_index, slice_index_or, if◌then◌else◌}
use Rattle.std.specs.List.{range_with_len}
use Rattle.std.specs.Int.{bit_at}

-- whether a bit is 1
abbrev pub is_set : ℕ → ℕ → Bool
is_set word i = bit_at word i == 1

-- the value at a place
abbrev pub value_in : List ℕ → ℕ → Bool
value_in words i = is_set (slice_index words (i / 64)) (i % 64)

-- the first n values
unfoldable pub row_of : List ℕ → ℕ → List Bool
row_of words n = map (value_in words) (range_with_len 0 n)

-- how many words n values take; at least one
abbrev pub word_count : ℕ → ℕ
word_count n = (n - 1) / 64 + 1

-- the words of n values, where each bit past them is 0
pub record ArePacked (words : List ℕ) (n : ℕ) : Type 0 where
  pub count : length words ≡ word_count n
  pub narrow : All (λ w. w < 2 ^ 64) words
  pub clear : (i : ℕ) → n ≤ i → i < 64 * length words → value_in words i ≡ false

-- the number of n bits
abbrev pub number_of : ℕ → (ℕ → Bool) → ℕ
number_of zero bit = 0
number_of (suc n) bit = (if bit 0 then 1 else 0) + 2 * number_of n (λ i. bit (suc i))

-- the words of a row
unfoldable pub words_of : List Bool → List ℕ
words_of bits = map (λ k. number_of 64 (λ i. slice_index_or bits (64 * k + i) false)) (range_with_len 0 (word_count (length bits)))
