-- Sums of a path cost and a bound.
use Rattle.std.proofs.Common.{◌≡◌, ℕ}
use Rattle.np_space.specs.Bounds.{sum_of}
use Rattle.np_space.specs.declared.bound.Bound.{Bound}
use Rattle.np_space.specs.declared.bound.Bound.TheVariants.{AtLeast, NoPlan}

pub same_bound : (m n : ℕ) → AtLeast m ≡ AtLeast n → m ≡ n
same_bound m n e = cc

-- a sum that is a number has numbers as its parts
pub no_sum : (cost f : ℕ) (b : Bound) → sum_of (AtLeast cost) b ≡ AtLeast f → b ≡ NoPlan → ⊥
no_sum cost f NoPlan e is = absurd cc
no_sum cost f (AtLeast m) e is = absurd cc
