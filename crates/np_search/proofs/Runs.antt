-- Runs with one more step.
use Rattle.std.proofs.Common.{◌≡◌, ℕ, ◌+◌, ◌≤◌, List, [], ◌∷◌, ◌++◌, Option, Some, refl, ap, ◌∙◌, arith}
use Rattle.std.specs.Option.{option_and_then, option_map}
use Rattle.std.proofs.lemmas.List.{length_push}
use Rattle.std.proofs.lemmas.Option.{some_pair_parts}
use Rattle.np_space.specs.Runs.{Next, run, IsReachedWithin}
use Rattle.np_search.proofs.Optimal.{first_step}

module _ {S : Type 0} (next : Next S) where
  -- a step, and then the rest
  pub run_from_step : (s : S) (step : ℕ) (steps : List ℕ) (after end : S) (price left : ℕ) → next s step ≡ Some (after, price) → run next steps after ≡ Some (end, left) → run next (step ∷ steps) s ≡ Some (end, price + left)
  run_from_step s step steps after end price left goes rest =
      ap (λ (o : Option (S × ℕ)). option_and_then (λ (t : S × ℕ). option_map {U = S × ℕ} (λ (e : S × ℕ). (e.0, t.1 + e.1)) (run next steps t.0)) o) goes
      ∙ ap (λ (o : Option (S × ℕ)). option_map {U = S × ℕ} (λ (e : S × ℕ). (e.0, price + e.1)) o) rest

  -- one more step at the end
  pub run_longer : (path : List ℕ) (first s : S) (cost step : ℕ) (t : S) (price : ℕ) → run next path first ≡ Some (s, cost) → next s step ≡ Some (t, price) → run next (path ++ step ∷ []) first ≡ Some (t, cost + price)
  run_longer [] first s cost step t price ran goes =
      let parts = some_pair_parts first s 0 cost ran in
      let here : next first step ≡ Some (t, price) = ap (λ (x : S). next x step) parts.0 ∙ goes in
      run_from_step first step [] t t price 0 here refl ∙ ap (λ (n : ℕ). Some (t, n)) (omega (arith, parts.1))
  run_longer (a ∷ path) first s cost step t price ran goes =
      let parts = first_step next first a path s cost ran in
      run_from_step first a (path ++ step ∷ []) parts.after t parts.price (parts.left + price) parts.goes (run_longer path parts.after s parts.left step t price parts.rest goes)
      ∙ ap (λ (n : ℕ). Some (t, n)) (omega (arith, parts.sum))

  pub reached_longer : (first : S) (n : ℕ) (s : S) (step : ℕ) (t : S) (price : ℕ) → IsReachedWithin next first n s → next s step ≡ Some (t, price) → IsReachedWithin next first (n + 1) t
  reached_longer first n s step t price r goes = record {
    steps = r.steps ++ step ∷ [];
    cost = r.cost + price;
    ran = run_longer r.steps first s r.cost step t price r.ran goes;
    few = omega (arith, length_push r.steps step, r.few);
  }

  pub reached_weaker : (first : S) (m n : ℕ) (s : S) → m ≤ n → IsReachedWithin next first m s → IsReachedWithin next first n s
  reached_weaker first m n s h r = record { steps = r.steps; cost = r.cost; ran = r.ran; few = omega (arith, r.few) }

  pub reached_first : (first : S) (n : ℕ) → IsReachedWithin next first n first
  reached_first first n = record { steps = []; cost = 0; ran = refl; few = omega arith }
