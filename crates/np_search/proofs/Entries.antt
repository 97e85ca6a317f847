-- Entries of the open list, by their order.
use Rattle.std.proofs.Common.{◌≡◌, ℕ, ◌<◌, inl, inr, Bool, true, false, refl, sym, true≢false, arith, nat_cmp}
use Rattle.std.specs.Ordering.{ordering_then, is_eq, is_gt, MatchOrdering}
use Rattle.std.specs.declared.cmp.Ordering.{Ordering}
use Rattle.std.specs.declared.cmp.Ordering.TheVariants.{Less, Equal, Greater}
use Rattle.std.specs.declared.cmp.Reverse.{Reverse}
use Rattle.std.proofs.lemmas.Cmp.{ranked}
use Rattle.np_search.specs.declared.open_list.Key.{Key}
use Rattle.np_search.specs.Opens.{entry_cmp, IsAtMostKey}

-- two orders in turn answer `Equal`
both_equal : (o p : Ordering) → is_eq (ordering_then o p) ≡ true → (is_eq o ≡ true) × (is_eq p ≡ true)
both_equal Less p e = absurd (true≢false (sym e))
both_equal Equal p e = (refl, e)
both_equal Greater p e = absurd (true≢false (sym e))

same_number : (a b : ℕ) → is_eq (nat_cmp a b) ≡ true → a ≡ b
same_number a b e = by (nat_cmp a b) (ranked a b (nat_cmp a b) refl) e
  where
    by : (o : Ordering) → MatchOrdering o (a < b) (a ≡ b) (b < a) → is_eq o ≡ true → a ≡ b
    by Less h e = absurd (true≢false (sym e))
    by Equal h e = h
    by Greater h e = absurd (true≢false (sym e))

-- entries that compare `Equal` are the same
pub same_entry : (x y : Key × Reverse ℕ) → is_eq (entry_cmp x y) ≡ true → (y.1.0 ≡ x.1.0) × (y.0 ≡ x.0)
same_entry x y e =
    let parts = both_equal (ordering_then (nat_cmp x.0.first y.0.first) (nat_cmp x.0.second y.0.second)) (nat_cmp y.1.0 x.1.0) e in
    let keys = both_equal (nat_cmp x.0.first y.0.first) (nat_cmp x.0.second y.0.second) parts.0 in
    let first = same_number x.0.first y.0.first keys.0 in
    let second = same_number x.0.second y.0.second keys.1 in
    (same_number y.1.0 x.1.0 parts.1, λ i. record { first = sym first i; second = sym second i })

-- other entries don't compare `Equal`
pub other_entry : (node n : ℕ) (key k : Key) → ¬ ((n ≡ node) × (k ≡ key)) → is_eq (entry_cmp (key, record { 0 = node }) (k, record { 0 = n })) ≡ false
other_entry node n key k other = by (is_eq (entry_cmp (key, record { 0 = node }) (k, record { 0 = n }))) refl
  where
    by : (b : Bool) → is_eq (entry_cmp (key, record { 0 = node }) (k, record { 0 = n })) ≡ b → b ≡ false
    by true e = absurd (other (same_entry (key, record { 0 = node }) (k, record { 0 = n }) e))
    by false e = refl

-- what isn't above goes before or is the same
pub key_from_least : (x y : Key × Reverse ℕ) → is_gt (entry_cmp x y) ≡ false → IsAtMostKey x.0 y.0
key_from_least x y e = by (nat_cmp x.0.first y.0.first) (nat_cmp x.0.second y.0.second) (ranked _ _ (nat_cmp x.0.first y.0.first) refl) (ranked _ _ (nat_cmp x.0.second y.0.second) refl) e
  where
    by : (o p : Ordering) → MatchOrdering o (x.0.first < y.0.first) (x.0.first ≡ y.0.first) (y.0.first < x.0.first) → MatchOrdering p (x.0.second < y.0.second) (x.0.second ≡ y.0.second) (y.0.second < x.0.second) → is_gt (ordering_then (ordering_then o p) (nat_cmp y.1.0 x.1.0)) ≡ false → IsAtMostKey x.0 y.0
    by Less p h k e = inl h
    by Equal Less h k e = inr (h, omega arith)
    by Equal Equal h k e = inr (h, omega arith)
    by Equal Greater h k e = absurd (true≢false e)
    by Greater p h k e = absurd (true≢false e)
