-- Sums and products with a cap.
use Rattle.std.proofs.Common.{◌≡◌, ℕ, zero, suc, ◌+◌, ◌*◌, ◌≤◌, ◌<◌, min, arith, sym, ap, ◌∙◌, inl, inr, List, drop, length}
use Rattle.std.proofs.Math.Seq.{drop-cons}
use Rattle.std.proofs.lemmas.Bool.{cases_lt}
use Rattle.std.proofs.lemmas.Bool.Decides.{nat_tests}
use Rattle.std.specs.Prelude.{nat_lt, nat_le, slice_index}
use Rattle.np_model.specs.declared.task.TaskParts.{TaskParts}
use Rattle.np_bind.specs.Bindings.{fitting_objects, binding_count}

times_comm : (n m : ℕ) → n * m ≡ m * n
times_comm n m = omega arith

-- capping a factor changes nothing below the cap
capped_product : (most n m : ℕ) → min most (n * min most m) ≡ min most (n * m)
capped_product most zero m = ap (min most) (omega arith)
capped_product most (suc n) m = elim (cases_lt m most) [ inl l ↦ ap (λ k. min most (suc n * k)) (small l) | inr g ↦ both g ]
  where
    small : m < most → min most m ≡ m
    small l = omega arith

    both : most ≤ m → min most (suc n * min most m) ≡ min most (suc n * m)
    both g =
        let c : min most m ≡ most = omega arith in
        let a : suc n * most ≡ n * most + most = omega arith in
        let b : suc n * m ≡ n * m + m = omega arith in
        ap (λ k. min most (suc n * k)) c ∙ ap (min most) a ∙ (omega arith) ∙ ap (min most) (sym b)

-- one more factor taken into a capped product
product_more : (most count fits rest new : ℕ) → new ≡ min most (count * fits) → min most (count * (fits * rest)) ≡ min most (new * rest)
product_more most count fits rest new e =
    ap (min most) (assoc count fits rest)
    ∙ ap (min most) (times_comm (count * fits) rest)
    ∙ sym (capped_product most rest (count * fits))
    ∙ ap (λ k. min most (rest * k)) (sym e)
    ∙ ap (min most) (times_comm rest new)
  where
    assoc : (a b c : ℕ) → a * (b * c) ≡ a * b * c
    assoc a b c = grind arith

-- the product of one more type
pub counted_more : (task : TaskParts) (types : List ℕ) (i count fits new : ℕ) → i < length types → fits ≡ length (fitting_objects task (slice_index types i)) → new ≡ min 4194305 (count * fits)
    → min 4194305 (count * binding_count task (drop i types)) ≡ min 4194305 (new * binding_count task (drop (suc i) types))
counted_more task types i count fits new h is new_is =
    ap (λ xs. min 4194305 (count * binding_count task xs)) (drop-cons types i 0 h)
    ∙ ap (λ n. min 4194305 (count * (n * binding_count task (drop (suc i) types)))) (sym is)
    ∙ product_more 4194305 count fits (binding_count task (drop (suc i) types)) new new_is

-- past the most, as the capped count tells
pub over_cap : (n : ℕ) → nat_le 4194305 (min 4194305 n) ≡ nat_lt 4194304 n
over_cap n = elim (cases_lt n 4194305) [ inl l ↦ few l | inr g ↦ many g ]
  where
    few : n < 4194305 → nat_le 4194305 (min 4194305 n) ≡ nat_lt 4194304 n
    few l = ap (nat_le 4194305) (small l) ∙ grind (arith, nat_tests)
      where
        small : n < 4194305 → min 4194305 n ≡ n
        small l = omega arith

    many : 4194305 ≤ n → nat_le 4194305 (min 4194305 n) ≡ nat_lt 4194304 n
    many g = ap (nat_le 4194305) (full g) ∙ grind (arith, nat_tests)
      where
        full : 4194305 ≤ n → min 4194305 n ≡ 4194305
        full g = omega arith
