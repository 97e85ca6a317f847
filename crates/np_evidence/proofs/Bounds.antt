-- What a claim leaves along a step.
use Rattle.std.proofs.Common.{◌≡◌, ℕ, ◌+◌, ◌-◌, ◌*◌, ◌^◌, ◌≤◌, ◌<◌, Bool, true, false, cond, IsTrue, refl, arith}
use Rattle.std.proofs.lemmas.Bool.{le-leb, leb-true, lt-ltb, ltb-true}
use Rattle.np_space.specs.Bounds.{is_at_most, IsAtMostCost}
use Rattle.np_space.specs.declared.bound.Bound.{Bound}
use Rattle.np_space.specs.declared.bound.Bound.TheVariants.{AtLeast, NoPlan}
use Rattle.np_cert.specs.declared.certificate.Limit.{Limit}
use Rattle.np_cert.specs.declared.certificate.Limit.TheVariants.{Number, Absent}
use Rattle.np_cert.specs.Text.{IsLimit}
use Rattle.np_cert.specs.Valid.{at_most, after_cost, is_small}
use Rattle.np_evidence.specs.Certified.{less}

-- the limit that a search's claim is
abbrev pub limit_of : Bound → Limit
limit_of (AtLeast n) = Number n
limit_of NoPlan = Absent

-- a claim that is at most a cost
pub late : (claim : Bound) (cost : ℕ) → is_at_most claim (AtLeast cost) ≡ true → IsAtMostCost claim cost
late (AtLeast n) cost h = leb-true n cost h
late NoPlan cost h = absurd (cc)

-- what is left is at most the step's cost and what is left after it; where nothing is, the path cost has reached the claim
pub step_bounded : (claim : Bound) (before cost after : ℕ) (expanded : Bool) → after ≤ before + cost → (expanded ≡ false → IsAtMostCost claim after)
    → IsTrue (at_most (less (limit_of claim) before) (after_cost cost (cond expanded (less (limit_of claim) after) (Number 0))))
step_bounded (AtLeast n) before cost after true near rest = le-leb (n - before) (cost + (n - after)) (omega arith)
step_bounded (AtLeast n) before cost after false near rest = let h : n ≤ after = rest refl in le-leb (n - before) (cost + 0) (omega arith)
step_bounded NoPlan before cost after true near rest = refl
step_bounded NoPlan before cost after false near rest = absurd (rest refl)

-- the whole claim is left at the start
pub start_bounded : (claim : Bound) (cost : ℕ) (expanded : Bool) → cost ≤ 0 → (expanded ≡ false → IsAtMostCost claim cost)
    → IsTrue (at_most (limit_of claim) (cond expanded (less (limit_of claim) cost) (Number 0)))
start_bounded (AtLeast n) cost true near rest = le-leb n (n - cost) (omega arith)
start_bounded (AtLeast n) cost false near rest = let h : n ≤ cost = rest refl in le-leb n 0 (omega arith)
start_bounded NoPlan cost true near rest = refl
start_bounded NoPlan cost false near rest = absurd (rest refl)

-- what is left of a small claim is small
pub less_small : (claim : Limit) (cost : ℕ) → IsTrue (is_small claim) → IsTrue (is_small (less claim cost))
less_small (Number n) cost h = lt-ltb (n - cost) (2 ^ 62) (omega (arith, ltb-true n (2 ^ 62) h))
less_small Absent cost h = refl

-- a small limit can be written
pub limit_written : (l : Limit) → IsTrue (is_small l) → IsLimit l
limit_written (Number n) small = let below : n < 2 ^ 62 = ltb-true n (2 ^ 62) small in omega arith
limit_written Absent small = tt

-- the cost of few steps is a small limit
pub few_small : (cost n steps : ℕ) → cost ≤ steps * 2 ^ 32 → steps ≤ n → n ≤ 2 ^ 24 → IsTrue (is_small (Number cost))
few_small cost n steps cheap fewer few = lt-ltb cost (2 ^ 62) (omega arith)
