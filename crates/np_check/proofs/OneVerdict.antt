-- A certificate has at most one verdict.
use Rattle.std.proofs.Common.{◌≡◌, ℕ, ◌<◌, ◌⊎◌, inl, inr, List, length, All, refl, sym, ap, subst}
use Rattle.std.proofs.lemmas.Bool.{cases_order}
use Rattle.std.proofs.lemmas.Option.{slice_get_within, get_or_from_slice_get}
use Rattle.std.proofs.lemmas.List.Elements.{All-get_or}
use Rattle.np_flat.specs.declared.parts.Parts.{Parts}
use Rattle.np_count.specs.declared.proof.Proof.{Proof}
use Rattle.np_cert.specs.declared.certificate.Certificate.{Certificate}
use Rattle.np_cert.specs.Valid.{IsValidProof, IsJustified, IsValid}
use Rattle.np_check.specs.declared.verdict.Verdict.{Verdict}
use Rattle.np_check.specs.declared.verdict.Verdict.TheVariants.{Holds, BadProof, TwiceEntry, BadEntry, BadClaim, Memory}
use Rattle.np_check.specs.Verdicts.{AreGood, IsBadProof, IsTwice, IsUnjustified, IsVerdict}

module _ (task : Parts) (c : Certificate) where
  -- the entry of this number has a fault
  abbrev pub IsFault : ℕ → Type 0
  IsFault number = IsTwice task c number ⊎ IsUnjustified task c number

  -- which no entry among good ones has
  no_fault : (number below : ℕ) → number < below → AreGood task c below → IsFault number → ⊥
  no_fault number below lt good (inl t) = good.distinct number lt t.repeated
  no_fault number below lt good (inr u) = u.unjustified (good.justified number u.entry lt u.there)

  -- those before it are good
  good_before : (number : ℕ) → IsFault number → AreGood task c number
  good_before number (inl t) = t.before
  good_before number (inr u) = u.before

  -- it is among the entries
  fault_within : (number : ℕ) → IsFault number → number < length c.entries
  fault_within number (inl t) = slice_get_within c.entries number t.repeated.second t.repeated.second_is
  fault_within number (inr u) = slice_get_within c.entries number u.entry u.there

  -- so the first fault has one number
  one_number : (m n : ℕ) → IsFault m → IsFault n → m ≡ n
  one_number m n f g = by (cases_order m n)
    where
      by : (m ≡ n) ⊎ ((m < n) ⊎ (n < m)) → m ≡ n
      by (inl same) = same
      by (inr (inl lt)) = absurd (no_fault m n lt (good_before n g) f)
      by (inr (inr lt)) = absurd (no_fault n m lt (good_before m f) g)

  -- and is of one kind
  not_both : (m n : ℕ) → IsTwice task c m → IsUnjustified task c n → ⊥
  not_both m n t u = (subst (λ k. IsUnjustified task c k) (sym (one_number m n (inl t) (inr u))) u).once t.repeated

  none_at_all : (number : ℕ) → AreGood task c (length c.entries) → IsFault number → ⊥
  none_at_all number good f = no_fault number (length c.entries) (fault_within number f) good f

-- all entries of a valid certificate are good
all_good : (task : Parts) (c : Certificate) → IsValid task c → AreGood task c (length c.entries)
all_good task c valid = record {
  proofs = valid.proofs;
  distinct = λ n lt. valid.distinct n;
  justified = λ n e lt there. subst (IsJustified task c.proofs c.entries) (get_or_from_slice_get c.entries n e e there) (All-get_or (IsJustified task c.proofs c.entries) c.entries n e lt valid.justified);
}

module _ (task : Parts) (proofs : List Proof) where
  -- where all proofs are valid none is bad
  no_bad_proof : (number : ℕ) → All (IsValidProof task) proofs → IsBadProof task proofs number → ⊥
  no_bad_proof number all bad =
      bad.invalid (subst (IsValidProof task) (get_or_from_slice_get proofs number bad.proof bad.proof bad.there) (all number bad.proof (slice_get_within proofs number bad.proof bad.there)))

  -- the first bad proof has one number
  one_bad_proof : (m n : ℕ) → IsBadProof task proofs m → IsBadProof task proofs n → m ≡ n
  one_bad_proof m n a b = by (cases_order m n)
    where
      by : (m ≡ n) ⊎ ((m < n) ⊎ (n < m)) → m ≡ n
      by (inl same) = same
      by (inr (inl lt)) = absurd (a.invalid (b.before m a.proof lt a.there))
      by (inr (inr lt)) = absurd (b.invalid (a.before n b.proof lt b.there))

pub one_verdict : (task : Parts) (c : Certificate) (v w : Verdict) → IsVerdict task c v → IsVerdict task c w → (v ≡ Memory → ⊥) → (w ≡ Memory → ⊥) → v ≡ w
one_verdict task c Holds Holds h k v w = refl
one_verdict task c Holds (TwiceEntry n) h k v w = absurd (none_at_all task c n (all_good task c h) (inl k))
one_verdict task c Holds (BadEntry n) h k v w = absurd (none_at_all task c n (all_good task c h) (inr k))
one_verdict task c Holds BadClaim h k v w = absurd (k.unclaimed h.claimed)
one_verdict task c (TwiceEntry m) Holds h k v w = absurd (none_at_all task c m (all_good task c k) (inl h))
one_verdict task c (TwiceEntry m) (TwiceEntry n) h k v w = ap TwiceEntry (one_number task c m n (inl h) (inl k))
one_verdict task c (TwiceEntry m) (BadEntry n) h k v w = absurd (not_both task c m n h k)
one_verdict task c (TwiceEntry m) BadClaim h k v w = absurd (none_at_all task c m k.good (inl h))
one_verdict task c (BadEntry m) Holds h k v w = absurd (none_at_all task c m (all_good task c k) (inr h))
one_verdict task c (BadEntry m) (TwiceEntry n) h k v w = absurd (not_both task c n m k h)
one_verdict task c (BadEntry m) (BadEntry n) h k v w = ap BadEntry (one_number task c m n (inr h) (inr k))
one_verdict task c (BadEntry m) BadClaim h k v w = absurd (none_at_all task c m k.good (inr h))
one_verdict task c BadClaim Holds h k v w = absurd (h.unclaimed k.claimed)
one_verdict task c BadClaim (TwiceEntry n) h k v w = absurd (none_at_all task c n h.good (inl k))
one_verdict task c BadClaim (BadEntry n) h k v w = absurd (none_at_all task c n h.good (inr k))
one_verdict task c BadClaim BadClaim h k v w = refl
one_verdict task c (BadProof m) Holds h k v w = absurd (no_bad_proof task c.proofs m k.proofs h)
one_verdict task c (BadProof m) (BadProof n) h k v w = ap BadProof (one_bad_proof task c.proofs m n h k)
one_verdict task c (BadProof m) (TwiceEntry n) h k v w = absurd (no_bad_proof task c.proofs m k.before.proofs h)
one_verdict task c (BadProof m) (BadEntry n) h k v w = absurd (no_bad_proof task c.proofs m k.before.proofs h)
one_verdict task c (BadProof m) BadClaim h k v w = absurd (no_bad_proof task c.proofs m k.good.proofs h)
one_verdict task c Holds (BadProof n) h k v w = absurd (no_bad_proof task c.proofs n h.proofs k)
one_verdict task c (TwiceEntry m) (BadProof n) h k v w = absurd (no_bad_proof task c.proofs n h.before.proofs k)
one_verdict task c (BadEntry m) (BadProof n) h k v w = absurd (no_bad_proof task c.proofs n h.before.proofs k)
one_verdict task c BadClaim (BadProof n) h k v w = absurd (no_bad_proof task c.proofs n h.good.proofs k)
one_verdict task c Memory u h k v w = absurd (v refl)
one_verdict task c u Memory h k v w = absurd (w refl)

pub fault_is_no_yes : (task : Parts) (c : Certificate) (v : Verdict) → IsVerdict task c v → (v ≡ Holds → ⊥) → (v ≡ Memory → ⊥) → IsValid task c → ⊥
fault_is_no_yes task c v h fault said valid = fault (one_verdict task c v Holds h valid said (λ e. cc))
