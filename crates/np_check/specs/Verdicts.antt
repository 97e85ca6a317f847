-- The verdict on a certificate: that it is valid, or its first fault. The order of faults is this project's own.
use Rattle.std.specs.Prelude.{◌≡◌, ℕ, ◌<◌, ⊤, List, length, All, Some, slice_get}
use Rattle.np_count.specs.declared.proof.Proof.{Proof}
use Rattle.np_flat.specs.declared.parts.Parts.{Parts}
use Rattle.np_cert.specs.declared.certificate.Entry.{Entry}
use Rattle.np_cert.specs.declared.certificate.Certificate.{Certificate}
use Rattle.np_cert.specs.Valid.{IsValidProof, IsJustified, IsRepeated, IsClaimed, IsValid}
use Rattle.np_check.specs.declared.verdict.Verdict.{Verdict}
use Rattle.np_check.specs.declared.verdict.Verdict.TheVariants.{Holds, BadProof, TwiceEntry, BadEntry, BadClaim, Memory}

-- the proofs before this number are valid
abbrev pub AreValidBefore : Parts → List Proof → ℕ → Type 0
AreValidBefore task proofs number = (n : ℕ) (p : Proof) → n < number → slice_get proofs n ≡ Some p → IsValidProof task p

-- the proof of this number is the first one that isn't valid
pub record IsBadProof (task : Parts) (proofs : List Proof) (number : ℕ) : Type 0 where
  pub before : AreValidBefore task proofs number
  pub proof : Proof
  pub there : slice_get proofs number ≡ Some proof
  pub invalid : IsValidProof task proof → ⊥

-- all proofs are valid, and the entries before this number repeat no state and are justified
pub record AreGood (task : Parts) (c : Certificate) (number : ℕ) : Type 0 where
  pub proofs : All (IsValidProof task) c.proofs
  pub distinct : (n : ℕ) → n < number → IsRepeated c.entries n → ⊥
  pub justified : (n : ℕ) (e : Entry) → n < number → slice_get c.entries n ≡ Some e → IsJustified task c.proofs c.entries e

-- the entry of this number is the first one with a fault: it repeats a state
pub record IsTwice (task : Parts) (c : Certificate) (number : ℕ) : Type 0 where
  pub before : AreGood task c number
  pub repeated : IsRepeated c.entries number

-- the entry of this number is the first one with a fault: it repeats no state, and isn't justified
pub record IsUnjustified (task : Parts) (c : Certificate) (number : ℕ) : Type 0 where
  pub before : AreGood task c number
  pub once : IsRepeated c.entries number → ⊥
  pub entry : Entry
  pub there : slice_get c.entries number ≡ Some entry
  pub unjustified : IsJustified task c.proofs c.entries entry → ⊥

-- all entries are good, and the claim is not
pub record IsUnclaimed (task : Parts) (c : Certificate) : Type 0 where
  pub good : AreGood task c (length c.entries)
  pub unclaimed : IsClaimed task c → ⊥

-- whether a verdict is the one on the certificate; where memory ran out nothing is said
abbrev pub IsVerdict : Parts → Certificate → Verdict → Type 0
IsVerdict task c Holds = IsValid task c
IsVerdict task c (BadProof number) = IsBadProof task c.proofs number
IsVerdict task c (TwiceEntry number) = IsTwice task c number
IsVerdict task c (BadEntry number) = IsUnjustified task c number
IsVerdict task c BadClaim = IsUnclaimed task c
IsVerdict task c Memory = ⊤
