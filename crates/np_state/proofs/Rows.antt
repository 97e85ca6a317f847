-- Rows of truth values, and the words that they are kept in.
use Rattle.std.proofs.Common.{◌≡◌, ◌≢◌, ℕ, zero, suc, ◌+◌, ◌-◌, ◌*◌, ◌/◌, ◌%◌, ◌^◌, ◌<◌, Bool, true, false, cond, eqb, List, length, replicate, get_or, set, refl, sym, ◌∙◌, ap, subst, inl, inr, arith, ext_get_or, length-set, get_or-set_same, get_or-set_other, eq-eqb, ne_eqb, w64, true≢false, slice_get, Some}
use Rattle.std.specs.Prelude.{bit_and, bit_or}
use Rattle.std.specs.Int.{bit_at}
use Rattle.std.specs.Cmp.Lexicographic.{pointwise, pointwise_decides}
use Rattle.std.proofs.lemmas.Bool.{cases_eq, cases_lt}
use Rattle.std.proofs.lemmas.Bool.Decides.{Decides-eqb}
use Rattle.std.proofs.lemmas.List.{length-replicate, get_or-replicate, get_or_past}
use Rattle.std.proofs.lemmas.List.Elements.{All-set, All-replicate, All-get_or}
use Rattle.std.proofs.lemmas.List.FromFn.{length-map-range_with_len, get_or-map-range_with_len}
use Rattle.std.proofs.lemmas.Nat.Bits.{bit_at_lowest, bit_at-suc, bit_at-zero, bit_at-lt, bit_at_set_same, bit_at_set_other, bit_at_clear_same, bit_at_clear_other, same_from_bits_below}
use Rattle.std.proofs.Math.Nat.{pow-suc}
use Rattle.std.proofs.lemmas.Option.{slice_get-get_or, get_or_from_slice_get}
use Rattle.np_state.specs.Bits.{bits_eq, beq_Decides}
use Rattle.np_state.specs.Words.{is_set, value_in, row_of, word_count, ArePacked, number_of, words_of}

-- one bit of a word
pub bit_made_one : (word place : ℕ) (on : Bool) → place < 64 → on ≡ true → (i : ℕ) → i < 64 → is_set (bit_or word (1 * 2 ^ place % 2 ^ 64)) i ≡ cond (eqb i place) on (is_set word i)
bit_made_one word place on within t i h =
    elim (cases_eq i place) [
      | inl e ↦
          subst (λ k. is_set (bit_or word (1 * 2 ^ place % 2 ^ 64)) k ≡ true) (sym e) (eq-eqb _ 1 (bit_at_set_same w64 word place within))
          ∙ sym (ap (λ b. cond b on (is_set word i)) (eq-eqb i place e) ∙ t)
      | inr d ↦
          ap (λ x. eqb x 1) (bit_at_set_other w64 word place within i d)
          ∙ sym (ap (λ b. cond b on (is_set word i)) (ne_eqb i place d))
    ]

pub bit_made_zero : (word place : ℕ) (on : Bool) → place < 64 → on ≡ false → (i : ℕ) → i < 64 → is_set (bit_and word (2 ^ 64 - 1 - 1 * 2 ^ place % 2 ^ 64)) i ≡ cond (eqb i place) on (is_set word i)
bit_made_zero word place on within t i h =
    elim (cases_eq i place) [
      | inl e ↦
          subst (λ k. is_set (bit_and word (2 ^ 64 - 1 - 1 * 2 ^ place % 2 ^ 64)) k ≡ false) (sym e) (ap (λ x. eqb x 1) (bit_at_clear_same w64 word place within))
          ∙ sym (ap (λ b. cond b on (is_set word i)) (eq-eqb i place e) ∙ t)
      | inr d ↦
          ap (λ x. eqb x 1) (bit_at_clear_other w64 word place within i h d)
          ∙ sym (ap (λ b. cond b on (is_set word i)) (ne_eqb i place d))
    ]

-- a row by place
pub length-row_of : (words : List ℕ) (n : ℕ) → length (row_of words n) ≡ n
unfolding row_of
length-row_of words n = length-map-range_with_len (value_in words) 0 n

pub row_at : (words : List ℕ) (n i : ℕ) → i < n → get_or (row_of words n) i false ≡ value_in words i
unfolding row_of
row_at words n i h = get_or-map-range_with_len (value_in words) 0 n i i false h (omega arith)

pub len_of : (words : List ℕ) (n : ℕ) (row : List Bool) → row_of words n ≡ row → n ≡ length row
len_of words n row e = sym (length-row_of words n) ∙ ap length e

-- the word of a value
pub word_within : (words : List ℕ) (n i : ℕ) → ArePacked words n → i < n → i / 64 < length words
word_within words n i packed h = omega (arith, packed.count)

pub value_read : (words : List ℕ) (n : ℕ) (row : List Bool) (i word : ℕ) (b : Bool) → row_of words n ≡ row → i < n → slice_get words (i / 64) ≡ Some word → b ≡ is_set word (i % 64) → slice_get row i ≡ Some b
value_read words n row i word b e h at is =
    let within : i < length (row_of words n) = omega (arith, length-row_of words n) in
    subst (λ r. slice_get r i ≡ Some b) e
    (slice_get-get_or (row_of words n) i false within
    ∙ ap Some (row_at words n i h ∙ ap (λ w. is_set w (i % 64)) (get_or_from_slice_get words (i / 64) word 0 at) ∙ sym is))

-- all values after one bit of one word changed
value_after : (words : List ℕ) (i old new : ℕ) (on : Bool) → i / 64 < length words → slice_get words (i / 64) ≡ Some old → ((j : ℕ) → j < 64 → is_set new j ≡ cond (eqb j (i % 64)) on (is_set old j)) → (p : ℕ) → value_in (set words (i / 64) new) p ≡ cond (eqb p i) on (value_in words p)
value_after words i old new on within at each p =
    elim (cases_eq (p / 64) (i / 64)) [
      | inl row ↦
          let was : old ≡ get_or words (p / 64) 0 = sym (ap (λ k. get_or words k 0) row ∙ get_or_from_slice_get words (i / 64) old 0 at) in
          ap (λ k. is_set (get_or (set words (i / 64) new) k 0) (p % 64)) row
          ∙ ap (λ w. is_set w (p % 64)) (get_or-set_same words (i / 64) new 0 within)
          ∙ each (p % 64) (omega arith)
          ∙ ap (λ w. cond (eqb (p % 64) (i % 64)) on (is_set w (p % 64))) was
          ∙ ap (λ b. cond b on (value_in words p)) (same_test row)
      | inr apart ↦
          ap (λ w. is_set w (p % 64)) (get_or-set_other words (i / 64) (p / 64) new 0 apart)
          ∙ sym (ap (λ b. cond b on (value_in words p)) (ne_eqb p i (λ e. apart (ap (λ k. k / 64) e))))
    ]
  where
    same_test : p / 64 ≡ i / 64 → eqb (p % 64) (i % 64) ≡ eqb p i
    same_test row =
        elim (cases_eq p i) [
          | inl e ↦ eq-eqb (p % 64) (i % 64) (ap (λ k. k % 64) e) ∙ sym (eq-eqb p i e)
          | inr d ↦ ne_eqb (p % 64) (i % 64) (λ m. d (omega arith)) ∙ sym (ne_eqb p i d)
        ]

pub row_after : (words : List ℕ) (n : ℕ) (row : List Bool) (i old new : ℕ) (on : Bool) → ArePacked words n → row_of words n ≡ row → i < n → slice_get words (i / 64) ≡ Some old → ((j : ℕ) → j < 64 → is_set new j ≡ cond (eqb j (i % 64)) on (is_set old j)) → row_of (set words (i / 64) new) n ≡ set row i on
row_after words n row i old new on packed e h at each =
    let word = word_within words n i packed h in
    let after = value_after words i old new on word at each in
    subst (λ r. row_of (set words (i / 64) new) n ≡ set r i on) e
    (ext_get_or false _ _
    (length-row_of (set words (i / 64) new) n ∙ sym (length-set (row_of words n) i on ∙ length-row_of words n))
    (λ p k.
    let within : p < n = omega (arith, length-row_of (set words (i / 64) new) n) in
    row_at (set words (i / 64) new) n p within ∙ after p
    ∙ (elim (cases_eq p i) [
      | inl same ↦
          ap (λ b. cond b on (value_in words p)) (eq-eqb p i same)
          ∙ sym (ap (λ q. get_or (set (row_of words n) i on) q false) same ∙ get_or-set_same (row_of words n) i on false (omega (arith, length-row_of words n)))
      | inr other ↦
          ap (λ b. cond b on (value_in words p)) (ne_eqb p i other)
          ∙ sym (get_or-set_other (row_of words n) i p on false other ∙ row_at words n p within)
    ])))

pub packed_after : (words : List ℕ) (n : ℕ) (i old new : ℕ) (on : Bool) → ArePacked words n → i < n → new < 2 ^ 64 → slice_get words (i / 64) ≡ Some old → ((j : ℕ) → j < 64 → is_set new j ≡ cond (eqb j (i % 64)) on (is_set old j)) → ArePacked (set words (i / 64) new) n
packed_after words n i old new on packed h narrow at each = record {
  count = length-set words (i / 64) new ∙ packed.count;
  narrow = All-set (λ w. w < 2 ^ 64) words (i / 64) new narrow packed.narrow;
  clear = λ p past within. value_after words i old new on (word_within words n i packed h) at each p
      ∙ ap (λ b. cond b on (value_in words p)) (ne_eqb p i (λ e. absurd (omega arith)))
      ∙ packed.clear p past (omega (arith, length-set words (i / 64) new));
}

-- words that are 0
zero_value : (count i : ℕ) → i / 64 < count → value_in (replicate count 0) i ≡ false
zero_value count i h = ap (λ w. is_set w (i % 64)) (get_or-replicate count (i / 64) 0 0 h) ∙ ap (λ x. eqb x 1) (bit_at-zero (i % 64))

pub zero_row : (count n : ℕ) → count ≡ word_count n → row_of (replicate count 0) n ≡ replicate n false
zero_row count n e =
    ext_get_or false _ _ (length-row_of (replicate count 0) n ∙ sym (length-replicate n false))
    (λ p k.
    let within : p < n = omega (arith, length-row_of (replicate count 0) n) in
    row_at (replicate count 0) n p within ∙ zero_value count p (omega arith) ∙ sym (get_or-replicate n p false false within))

pub zero_packed : (count n : ℕ) → count ≡ word_count n → ArePacked (replicate count 0) n
zero_packed count n e = record {
  count = length-replicate count 0 ∙ e;
  narrow = All-replicate (λ w. w < 2 ^ 64) count 0 (omega arith);
  clear = λ p past within. zero_value count p (omega (arith, length-replicate {A = ℕ} count 0));
}

-- a number by its bits
low_bit : (b : Bool) (k : ℕ) → (cond b 1 0 + 2 * k) % 2 ≡ cond b 1 0
low_bit true k = omega arith
low_bit false k = omega arith

other_bits : (b : Bool) (k : ℕ) → (cond b 1 0 + 2 * k) / 2 ≡ k
other_bits true k = omega arith
other_bits false k = omega arith

bit_of_number : (m : ℕ) (f : ℕ → Bool) (j : ℕ) → j < m → bit_at (number_of m f) j ≡ cond (f j) 1 0
bit_of_number zero f j h = absurd (omega arith)
bit_of_number (suc m) f zero h = bit_at_lowest (number_of (suc m) f) ∙ low_bit (f 0) (number_of m (λ i. f (suc i)))
bit_of_number (suc m) f (suc j) h =
    bit_at-suc (number_of (suc m) f) j
    ∙ ap (λ x. bit_at x j) (other_bits (f 0) (number_of m (λ i. f (suc i))))
    ∙ bit_of_number m (λ i. f (suc i)) j (omega arith)

number_double : (b : Bool) (k p : ℕ) → k < p → cond b 1 0 + 2 * k < p * 2
number_double true k p h = omega arith
number_double false k p h = omega arith

number_below : (m : ℕ) (f : ℕ → Bool) → number_of m f < 2 ^ m
number_below zero f = omega arith
number_below (suc m) f = rw (pow-suc 2 m) (number_double (f 0) (number_of m (λ i. f (suc i))) (2 ^ m) (number_below m (λ i. f (suc i))))

bit_again : (x : ℕ) → x < 2 → cond (eqb x 1) 1 0 ≡ x
bit_again zero h = refl
bit_again (suc zero) h = refl
bit_again (suc (suc x)) h = absurd (omega arith)

-- a row has its words
value_or_clear : (words : List ℕ) (n : ℕ) → ArePacked words n → (i : ℕ) → i < 64 * length words → get_or (row_of words n) i false ≡ value_in words i
value_or_clear words n packed i h =
    elim (cases_lt i n) [
      | inl within ↦ row_at words n i within
      | inr past ↦ get_or_past (row_of words n) i false (omega (arith, length-row_of words n)) ∙ sym (packed.clear i past h)
    ]

bit_back : (words : List ℕ) (n : ℕ) → ArePacked words n → (k j : ℕ) → k < length words → j < 64 → cond (get_or (row_of words n) (64 * k + j) false) 1 0 ≡ bit_at (get_or words k 0) j
bit_back words n packed k j h i =
    let quotient : (64 * k + j) / 64 ≡ k = omega arith in
    let rest : (64 * k + j) % 64 ≡ j = omega arith in
    let bit : ℕ = bit_at (get_or words k 0) j in
    let read : get_or (row_of words n) (64 * k + j) false ≡ value_in words (64 * k + j) = value_or_clear words n packed (64 * k + j) (omega arith) in
    let placed : value_in words (64 * k + j) ≡ is_set (get_or words k 0) j = rw (quotient, rest) refl in
    ap (λ b. cond b 1 0) (read ∙ placed) ∙ bit_again bit (bit_at-lt (get_or words k 0) j)

-- the words are those of the row
pub words_back : (words : List ℕ) (n : ℕ) → ArePacked words n → words_of (row_of words n) ≡ words
unfolding words_of
words_back words n packed =
    let row = row_of words n in
    let count = word_count (length row) in
    let long : count ≡ length words = ap word_count (length-row_of words n) ∙ sym packed.count in
    let word : ℕ → ℕ = λ k. number_of 64 (λ i. get_or row (64 * k + i) false) in
    ext_get_or 0 _ _ (length-map-range_with_len word 0 count ∙ long)
    (λ k h.
    let within : k < length words = omega (arith, length-map-range_with_len word 0 count) in
    get_or-map-range_with_len word 0 count k k 0 (omega arith) (omega arith)
    ∙ same_from_bits_below 64 (word k) (get_or words k 0) (number_below 64 (λ i. get_or row (64 * k + i) false)) (All-get_or (λ w. w < 2 ^ 64) words k 0 within packed.narrow)
    (λ j i. bit_of_number 64 (λ i. get_or row (64 * k + i) false) j i ∙ bit_back words n packed k j within i))

-- rows are equal where their words are, and as many values
same_truth : (a b : Bool) → (a ≡ true → b ≡ true) → (b ≡ true → a ≡ true) → a ≡ b
same_truth true b f g = sym (f refl)
same_truth false true f g = g refl
same_truth false false f g = refl

pub equal_words : (vs ws : List ℕ) (m n : ℕ) → ArePacked vs m → ArePacked ws n → m ≡ n → pointwise eqb vs ws ≡ bits_eq (row_of vs m) (row_of ws n)
equal_words vs ws m n p q e =
    let words = pointwise_decides Decides-eqb vs ws in
    let rows = pointwise_decides beq_Decides (row_of vs m) (row_of ws n) in
    same_truth _ _
    (λ t. rows.1 (ap (λ x. row_of x m) (words.0 t) ∙ ap (row_of ws) e))
    (λ t. words.1 (sym (words_back vs m p) ∙ ap words_of (rows.0 t) ∙ words_back ws n q))

pub unequal_lengths : (vs ws : List ℕ) (m n : ℕ) → m ≢ n → eqb m n ≡ bits_eq (row_of vs m) (row_of ws n)
unequal_lengths vs ws m n e =
    let rows = pointwise_decides beq_Decides (row_of vs m) (row_of ws n) in
    same_truth _ _
    (λ t. absurd (true≢false (sym t ∙ ne_eqb m n e)))
    (λ t. eq-eqb m n (sym (length-row_of vs m) ∙ ap length (rows.0 t) ∙ length-row_of ws n))
