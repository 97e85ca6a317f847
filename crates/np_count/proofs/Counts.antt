-- Step by step or by counts, the sum is the same.
use Rattle.std.proofs.Common.{◌≡◌, ◌≢◌, ℕ, zero, suc, ◌+◌, ◌<◌, ℤ, pos, ◌+ℤ◌, ◌*ℤ◌, List, [], ◌∷◌, refl, sym, ap, ◌∙◌, subst, arith}
use Rattle.std.specs.Prelude.{◌≤ℤ◌, slice_get}
use Rattle.std.specs.Option.{option_map_or}
use Rattle.std.proofs.lemmas.Int.{ints}
use Rattle.std.proofs.lemmas.Bool.{eq-eqb, ne_eqb}
use Rattle.np_flat.specs.declared.parts.FlatStep.{FlatStep}
use Rattle.np_flat.specs.declared.parts.Parts.{Parts}
use Rattle.np_count.specs.declared.proof.Row.{Row}
use Rattle.np_count.specs.Rows.{coefficient, right, counted}
use Rattle.np_count.specs.Counts.{times_in, by_counts, CountsMeetRows}
use Rattle.np_flat.proofs.NetChanges.{product}
use Rattle.np_count.proofs.Plans.{rows_hold}

zero_times : (a b : ℤ) → (pos 0 *ℤ a) +ℤ b ≡ b
zero_times a b = omega (arith, ints, product (pos 0) a)

suc_times : (t : ℕ) (a b : ℤ) → (pos (suc t) *ℤ a) +ℤ b ≡ a +ℤ ((pos t *ℤ a) +ℤ b)
suc_times t a b = omega (arith, ints, product (pos (suc t)) a, product (pos t) a)

passed : (a b c : ℤ) → a +ℤ (b +ℤ c) ≡ b +ℤ (a +ℤ c)
passed a b c = omega (arith, ints)

-- what the step of this number has, where these steps are numbered from k on
at_number : (FlatStep → ℤ) → List FlatStep → ℕ → ℕ → ℤ
at_number f xs k j = option_map_or f (slice_get xs j) (pos 0)

no_counts : (f : FlatStep → ℤ) (xs : List FlatStep) (k : ℕ) → by_counts f xs k [] ≡ pos 0
no_counts f [] k = refl
no_counts f (x ∷ xs) k = zero_times (f x) (by_counts f xs (suc k) []) ∙ no_counts f xs (suc k)

-- a number before all of them counts nothing
below : (f : FlatStep → ℤ) (xs : List FlatStep) (k n : ℕ) (ns : List ℕ) → n < k → by_counts f xs k (n ∷ ns) ≡ by_counts f xs k ns
below f [] k n ns lt = refl
below f (x ∷ xs) k n ns lt =
    let ne : n ≢ k = omega arith in
    rw (ne_eqb n k ne, below f xs (suc k) n ns (omega arith)) refl

-- one number more
one_more : (f : FlatStep → ℤ) (xs : List FlatStep) (k j n : ℕ) (ns : List ℕ) → n ≡ k + j → by_counts f xs k (n ∷ ns) ≡ option_map_or f (slice_get xs j) (pos 0) +ℤ by_counts f xs k ns
one_more f [] k j n ns e = refl
one_more f (x ∷ xs) k zero n ns e =
    let same : n ≡ k = omega arith in
    rw (eq-eqb n k same, below f xs (suc k) n ns (omega arith)) (suc_times (times_in k ns) (f x) (by_counts f xs (suc k) ns))
one_more f (x ∷ xs) k (suc j) n ns e =
    let ne : n ≢ k = omega arith in
    rw (ne_eqb n k ne, one_more f xs (suc k) j n ns (omega arith)) (passed (pos (times_in k ns) *ℤ f x) (option_map_or f (slice_get xs j) (pos 0)) (by_counts f xs (suc k) ns))

by_steps : (task : Parts) (r : Row) (numbers : List ℕ) → counted task r numbers ≡ by_counts (λ step. coefficient task step r) task.steps 0 numbers
by_steps task r [] = sym (no_counts (λ step. coefficient task step r) task.steps 0)
by_steps task r (n ∷ ns) =
    ap (λ z. option_map_or (λ step. coefficient task step r) (slice_get task.steps n) (pos 0) +ℤ z) (by_steps task r ns)
    ∙ sym (one_more (λ step. coefficient task step r) task.steps 0 n n ns (omega arith))

pub counts_meet_rows : CountsMeetRows
counts_meet_rows task r s numbers flat here allowed leads =
    subst (λ z. right task s r ≤ℤ z) (by_steps task r numbers) (rows_hold task r s numbers flat here allowed leads)
