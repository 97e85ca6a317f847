-- What an insert into a map from texts leaves, name by name.
use Rattle.std.proofs.Common.{◌≡◌, ◌∙◌, ℕ, List, Bool, true, false, cond, Option, Some, ap, sym, refl}
use Rattle.std.specs.Option.{option_map}
use Rattle.std.specs.Map.{update}
use Rattle.std.specs.Str.{bytes_eq}
use Rattle.std.proofs.lemmas.Bool.{cond-true, cond-false}
use Rattle.std.proofs.lemmas.Slice.Eq.{bytes_eq-Decides}
use Rattle.np_io.specs.Files.{HasPut}
use Rattle.np_io.specs.Counts.{Rose, OnlyAt}
use Rattle.np_io.specs.Failures.{failures_of, is_failure, IsFailure, IsNoted}
use Rattle.np_io.specs.declared.failure.Failure.{Failure}
use Rattle.std.specs.String.{string_bytes}
use Rattle.std.proofs.Common.{◌+◌, ◌++◌, ◌∷◌, [], ◌&&◌, not, arith, true≢false}
use Rattle.std.specs.List.{count_by}
use Rattle.std.proofs.lemmas.List.Sums.{sum_by-append}

pub puts_update : {V : Type 0} (items : V → List ℕ) (old new : List ℕ → Option V) (key name bytes : List ℕ) (v : V) → ((cs : List ℕ) → new cs ≡ update bytes_eq old key (Some v) cs) → key ≡ name → items v ≡ bytes → HasPut name bytes (λ n. option_map items (old n)) (λ n. option_map items (new n))
puts_update items old new key name bytes v up same is = record {
  there = ap (option_map items) (up name ∙ cond-true (bytes_eq key name) (Some v) (old name) ((bytes_eq-Decides key name).1 same)) ∙ ap Some is;
  others = λ other differs. ap (option_map items) (up other ∙ cond-false (bytes_eq key other) (Some v) (old other) (ap (λ k. bytes_eq k other) same ∙ differs));
}

-- a failure that is noted counts for its name
pub noted_one : (old new : List Failure) (write : Bool) (name : List ℕ) → IsNoted old new write name → failures_of write new name ≡ failures_of write old name + 1
noted_one old new write name h =
    ap (count_by (is_failure write name)) h.last ∙ one_more old h.failure write h.is.kind ((bytes_eq-Decides name (string_bytes h.failure.name)).1 (sym h.is.named))
  where
    counted : (w : Bool) (f : Failure) → f.write ≡ w → bytes_eq name (string_bytes f.name) ≡ true → is_failure w name f ≡ true
    counted true f k e = ap (λ b. b && bytes_eq name (string_bytes f.name)) k ∙ e
    counted false f k e = ap (λ b. not b && bytes_eq name (string_bytes f.name)) k ∙ e

    one_more : (xs : List Failure) (f : Failure) (w : Bool) → f.write ≡ w → bytes_eq name (string_bytes f.name) ≡ true → count_by (is_failure w name) (xs ++ f ∷ []) ≡ count_by (is_failure w name) xs + 1
    one_more xs f w k e =
        let s = sum_by-append (λ x. cond (is_failure w name x) 1 0) xs (f ∷ []) in
        let c = cond-true {A = ℕ} (is_failure w name f) 1 0 (counted w f k e) in
        omega (arith, s, c)

pub noted_rose : (old new : List Failure) (write : Bool) (name : List ℕ) → IsNoted old new write name → Rose (failures_of write old name) (failures_of write new name)
noted_rose old new write name h = omega (arith, noted_one old new write name h)

-- a failure that doesn't pass the test changes no count
count_same : (p : Failure → Bool) (xs : List Failure) (f : Failure) → p f ≡ false → count_by p (xs ++ f ∷ []) ≡ count_by p xs
count_same p xs f e =
    let s = sum_by-append (λ x. cond (p x) 1 0) xs (f ∷ []) in
    let c = cond-false {A = ℕ} (p f) 1 0 e in
    omega (arith, s, c)

and-false : (b : Bool) → (b && false) ≡ false
and-false true = refl
and-false false = refl

other_kind : (w : Bool) (f : Failure) (name : List ℕ) → f.write ≡ w → is_failure (not w) name f ≡ false
other_kind true f name k = ap (λ b. not b && bytes_eq name (string_bytes f.name)) k
other_kind false f name k = ap (λ b. b && bytes_eq name (string_bytes f.name)) k

other_name : (w : Bool) (f : Failure) (name : List ℕ) → bytes_eq name (string_bytes f.name) ≡ false → is_failure w name f ≡ false
other_name true f name e = ap (λ b. f.write && b) e ∙ and-false f.write
other_name false f name e = ap (λ b. not f.write && b) e ∙ and-false (not f.write)

bytes_differ : (a b : List ℕ) → bytes_eq a b ≡ false → bytes_eq b a ≡ false
bytes_differ a b e =
    elim (bytes_eq b a) as (λ v. bytes_eq b a ≡ v → v ≡ false) [
      | true ↦ λ h. absurd (true≢false (sym ((bytes_eq-Decides a b).1 (sym ((bytes_eq-Decides b a).0 h))) ∙ e))
      | false ↦ λ h. refl
    ] refl

pub noted_only : (old new : List Failure) (write : Bool) (name : List ℕ) → IsNoted old new write name → OnlyAt name (failures_of write old) (failures_of write new)
noted_only old new write name h = record {
  later = omega (arith, noted_one old new write name h);
  once = omega (arith, noted_one old new write name h);
  others = λ other differs.
      ap (count_by (is_failure write other)) h.last
      ∙ count_same (is_failure write other) old h.failure
      (other_name write h.failure other (ap (bytes_eq other) h.is.named ∙ bytes_differ name other differs));
}

pub noted_kind : (old new : List Failure) (write : Bool) (name : List ℕ) → IsNoted old new write name → failures_of (not write) new ≡ failures_of (not write) old
noted_kind old new write name h = λ i other.
    (ap (count_by (is_failure (not write) other)) h.last
    ∙ count_same (is_failure (not write) other) old h.failure (other_kind write h.failure other h.is.kind)) i

-- a failure that is noted after an unchanged list
pub noted_behind : (old same new : List Failure) (failure : Failure) (write : Bool) (name : List ℕ) → same ≡ old → IsFailure failure write name → new ≡ same ++ failure ∷ [] → IsNoted old new write name
noted_behind old same new failure write name kept is last = record {
  failure = failure;
  is = is;
  last = last ∙ ap (λ xs. xs ++ failure ∷ []) kept;
}
