-- Ascending numbers, from a least one on.
use Rattle.std.proofs.Common.{◌≡◌, ℕ, zero, suc, ◌+◌, ◌<◌, ◌≤◌, List, [], ◌∷◌, length, get_or, drop, drop-cons, add-one, All, AllPairs, subst, sym, arith, ◌↔◌, ◌⊎◌, inl, inr}
use Rattle.std.proofs.lemmas.List.Elements.{All-nil, All-cons, All-head, All-tail, All-weaker}
use Rattle.np_flat.specs.Flats.{AreNumbers}

-- ascending numbers from the least on, below the limit
pub record AreFrom (least limit : ℕ) (ns : List ℕ) : Type 0 where
  pub numbers : AreNumbers limit ns
  pub late : All (λ n. least ≤ n) ns

pub none_from : (least limit : ℕ) → AreFrom least limit []
none_from least limit = record {
  numbers = record { ascending = λ i j d lt within. absurd (omega arith); within = All-nil (λ n. n < limit) };
  late = All-nil (λ n. least ≤ n);
}

pub all_from : (limit : ℕ) (numbers : List ℕ) → AreNumbers limit numbers → AreFrom 0 limit numbers
all_from limit numbers h = record { numbers = h; late = λ k d lt. omega arith }

-- one more at the front
pub one_from : (least limit n : ℕ) (ns : List ℕ) → least ≤ n → n < limit → AreFrom (n + 1) limit ns → AreFrom least limit (n ∷ ns)
one_from least limit n ns late within h = record {
  numbers = record { ascending = ascending; within = All-cons (λ n. n < limit) n ns within h.numbers.within };
  late = All-cons (λ n. least ≤ n) n ns late (All-weaker (λ m. n + 1 ≤ m) (λ m. least ≤ m) (λ m le. omega arith) ns h.late);
}
  where
    ascending : AllPairs (λ m n. m < n) (n ∷ ns)
    ascending i zero d lt inside = absurd (omega arith)
    ascending zero (suc j) d lt inside = let more : n + 1 ≤ get_or ns j d = h.late j d (omega arith) in omega arith
    ascending (suc i) (suc j) d lt inside = h.numbers.ascending i j d (omega arith) (omega arith)

pub head_from : (least limit n : ℕ) (ns : List ℕ) → AreFrom least limit (n ∷ ns) → (least ≤ n) × (n < limit)
head_from least limit n ns h = (All-head (λ m. least ≤ m) n ns h.late, All-head (λ m. m < limit) n ns h.numbers.within)

pub tail_from : (least limit n : ℕ) (ns : List ℕ) → AreFrom least limit (n ∷ ns) → AreFrom (n + 1) limit ns
tail_from least limit n ns h = record {
  numbers = record {
    ascending = λ i j d lt inside. h.numbers.ascending (suc i) (suc j) d (omega arith) (omega arith);
    within = All-tail (λ m. m < limit) n ns h.numbers.within;
  };
  late = λ k d inside. let more : n < get_or ns k d = h.numbers.ascending 0 (suc k) d (omega arith) (omega arith) in omega arith;
}

-- the numbers are as they should be exactly where the rest of them are
abbrev pub IsRest : ℕ → List ℕ → ℕ → ℕ → Type 0
IsRest limit numbers i least = AreNumbers limit numbers ↔ AreFrom least limit (drop i numbers)

module _ (limit : ℕ) (numbers : List ℕ) (i least : ℕ) (within : i < length numbers) where
  split : drop i numbers ≡ get_or numbers i 0 ∷ drop (i + 1) numbers
  split = rw (add-one, drop-cons numbers i 0)

  pub rest_more : least ≤ get_or numbers i 0 → get_or numbers i 0 < limit → IsRest limit numbers i least → IsRest limit numbers (i + 1) (get_or numbers i 0 + 1)
  rest_more late low h = (
    λ all. tail_from least limit (get_or numbers i 0) (drop (i + 1) numbers) (subst (AreFrom least limit) split (h.0 all)),
    λ rest. h.1 (subst (AreFrom least limit) (sym split) (one_from least limit (get_or numbers i 0) (drop (i + 1) numbers) late low rest)),
  )

  pub rest_fault : (get_or numbers i 0 < least) ⊎ (limit ≤ get_or numbers i 0) → IsRest limit numbers i least → AreNumbers limit numbers → ⊥
  rest_fault fault h all =
      let ends = head_from least limit (get_or numbers i 0) (drop (i + 1) numbers) (subst (AreFrom least limit) split (h.0 all)) in
      elim fault [ inl early ↦ omega (arith, ends.0) | inr late ↦ omega (arith, ends.1) ]
