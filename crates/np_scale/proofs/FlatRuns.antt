-- Runs by number and runs of bound steps: each is the image of the other, at the same cost.
use Rattle.std.proofs.Common.{◌≡◌, ℕ, ◌+◌, pos, refl, sym, ◌∙◌, ap, ap₂, subst, List, [], ◌∷◌, map, Some, None, Option}
use Rattle.std.specs.Prelude.{if◌then◌else◌, slice_get, option_and_then, option_map}
use Rattle.std.specs.Option.{option_map_or}
use Rattle.std.proofs.lemmas.Option.{none-some, same_Some, option_and_then_some, cond_some, slice_get-map}
use Rattle.np_frac.specs.Fractions.{Fraction, whole, plus}
use Rattle.np_frac.specs.Field.{whole_plus}
use Rattle.np_model.specs.declared.task.Step.{Step}
use Rattle.np_model.specs.States.{State}
use Rattle.np_model.specs.Tasks.{AreDistinct}
use Rattle.np_model.specs.Values.{of_both}
use Rattle.np_flat.specs.declared.state.FlatState.{FlatState}
use Rattle.np_flat.specs.declared.parts.FlatStep.{FlatStep}
use Rattle.np_flat.specs.declared.parts.Parts.{Parts}
use Rattle.np_flat.specs.States as flat_states
use Rattle.np_flat.specs.Plans.{run_from, cost_sum, step_at}
use Rattle.np_bind.specs.declared.bound.BoundStep.{BoundStep}
use Rattle.np_bind.specs.BoundPlans.{is_bound_applicable, bound_after, bound_next_of, step_among, bound_next, bound_run_from, bound_cost, bound_cost_from}
use Rattle.np_bind.proofs.LookUps.{step_found, step_of}
use Rattle.np_scale.specs.Same.{StandsFor}
use Rattle.np_scale.proofs.Images.{IsImage, stands_after}

-- the flat steps are the images of the bound steps, in their order
pub record AreImages (flat : Parts) (bound : List BoundStep) (image : BoundStep → FlatStep) : Type 0 where
  pub steps : flat.steps ≡ map image bound
  pub each : (k : ℕ) (b : BoundStep) → slice_get bound k ≡ Some b → IsImage flat b (image b)

-- what a mapped list has at a place comes from what the list has there
mapped : {A B P : Type 0} (f : A → B) (o : Option A) (y : B) → option_map f o ≡ Some y → ((x : A) → o ≡ Some x → f x ≡ y → P) → P
mapped f None y e k = absurd (none-some y e)
mapped f (Some x) y e k = k x refl (same_Some (f x) y e)

both_costs : (o p : Option Fraction) (m n : ℕ) → o ≡ Some (whole (pos m)) → p ≡ Some (whole (pos n)) → of_both plus o p ≡ Some (whole (pos (m + n)))
both_costs o p m n e f = rw (e, f) (ap (λ x. Some x) (whole_plus (pos m) (pos n)))

module _ (flat : Parts) (bound : List BoundStep) (image : BoundStep → FlatStep) (images : AreImages flat bound image) where
  -- the flat step at the place of a bound step
  flat_at : (k : ℕ) (b : BoundStep) → slice_get bound k ≡ Some b → slice_get flat.steps k ≡ Some (image b)
  flat_at k b at = ap (λ xs. slice_get xs k) images.steps ∙ slice_get-map image bound k ∙ ap (option_map image) at

  -- and the bound step at the place of a flat one
  bound_at : {P : Type 0} (k : ℕ) (step : FlatStep) → slice_get flat.steps k ≡ Some step → ((b : BoundStep) → slice_get bound k ≡ Some b → image b ≡ step → P) → P
  bound_at k step at use_it = mapped image (slice_get bound k) step (sym (slice_get-map image bound k) ∙ ap (λ xs. slice_get xs k) (sym images.steps) ∙ at) use_it

  -- one step more at the front of a run costs its own cost more
  costs_more : (x : Step) (xs : List Step) (s u : State) (k : ℕ) (b : BoundStep) (numbers : List ℕ)
      → slice_get bound k ≡ Some b → step_among bound x ≡ Some b → bound_next bound x s ≡ Some u → bound_cost_from bound xs u ≡ Some (whole (pos (cost_sum flat numbers)))
      → bound_cost_from bound (x ∷ xs) s ≡ Some (whole (pos (cost_sum flat (k ∷ numbers))))
  costs_more x xs s u k b numbers at among next_is rest =
      ap (option_and_then (λ v. of_both plus (bound_cost bound x) (bound_cost_from bound xs v))) next_is
      ∙ both_costs (bound_cost bound x) (bound_cost_from bound xs u) (image b).cost (cost_sum flat numbers)
      (ap (option_map (λ (y : BoundStep). y.cost)) among ∙ ap (λ z. Some z) (sym (images.each k b at).cost)) rest
      ∙ ap (λ o. Some (whole (pos (option_map_or (λ (y : FlatStep). y.cost) o 0 + cost_sum flat numbers)))) (sym (flat_at k b at))

  -- ---- from bound steps to numbers

  -- the run by number of a run of bound steps
  pub record HasNumbers (steps : List Step) (s t : State) (f : FlatState) : Type 0 where
    pub numbers : List ℕ
    pub named : map (step_at flat) numbers ≡ map Some steps
    pub end : FlatState
    pub runs : run_from flat numbers f ≡ Some end
    pub stands : StandsFor flat t end
    pub costs : bound_cost_from bound steps s ≡ Some (whole (pos (cost_sum flat numbers)))

  pub numbers_of_run : (steps : List Step) (s t : State) (f : FlatState) → bound_run_from bound steps s ≡ Some t → StandsFor flat s f → HasNumbers steps s t f
  numbers_of_run [] s t f e h = record {
    numbers = [];
    named = refl;
    end = f;
    runs = refl;
    stands = subst (λ (u : State). StandsFor flat u f) (same_Some s t e) h;
    costs = refl;
  }
  numbers_of_run (x ∷ xs) s t f e h =
      option_and_then_some (bound_run_from bound xs) (bound_next bound x s) t e (λ u next_is more.
      option_and_then_some (λ b. bound_next_of b s) (step_among bound x) u next_is (λ b among is.
      let goes = cond_some (is_bound_applicable b s) (bound_after b s) u is in
      let p = step_found bound x b among in
      let i = images.each p.place b p.at in
      let k : StandsFor flat u (flat_states.state_after (image b) f) =
      subst (λ (v : State). StandsFor flat v (flat_states.state_after (image b) f)) goes.1 (stands_after flat b (image b) s f i h) in
      let r = numbers_of_run xs u t (flat_states.state_after (image b) f) more k in
      record {
        numbers = p.place ∷ r.numbers;
        named = ap₂ (λ o os. o ∷ os) (ap (option_map (λ (y : FlatStep). y.step)) (flat_at p.place b p.at) ∙ ap (λ z. Some z) (i.name ∙ sym p.names)) r.named;
        end = r.end;
        runs = rw (flat_at p.place b p.at, sym (i.needs s f h) ∙ goes.0) r.runs;
        stands = r.stands;
        costs = costs_more x xs s u p.place b r.numbers p.at among next_is r.costs;
      }))

  -- ---- and the other way round

  -- the run of bound steps of a run by number
  pub record HasSteps (numbers : List ℕ) (s : State) (g : FlatState) : Type 0 where
    pub steps : List Step
    pub named : map (step_at flat) numbers ≡ map Some steps
    pub end : State
    pub runs : bound_run_from bound steps s ≡ Some end
    pub stands : StandsFor flat end g
    pub costs : bound_cost_from bound steps s ≡ Some (whole (pos (cost_sum flat numbers)))

  pub steps_of_run : AreDistinct (map (λ x. x.step) bound) → (numbers : List ℕ) (s : State) (f g : FlatState) → run_from flat numbers f ≡ Some g → StandsFor flat s f → HasSteps numbers s g
  steps_of_run apart [] s f g e h = record {
    steps = [];
    named = refl;
    end = s;
    runs = refl;
    stands = subst (λ (u : FlatState). StandsFor flat s u) (same_Some f g e) h;
    costs = refl;
  }
  steps_of_run apart (n ∷ ns) s f g e h =
      option_and_then_some (run_from flat ns) (flat_states.next flat n f) g e (λ u next_is more.
      option_and_then_some (λ step. if flat_states.meets flat f step then Some (flat_states.state_after step f) else None) (slice_get flat.steps n) u next_is (λ step flat_is is.
      bound_at n step flat_is (λ b at same.
      let goes = cond_some (flat_states.meets flat f step) (flat_states.state_after step f) u is in
      let i : IsImage flat b step = subst (λ (y : FlatStep). IsImage flat b y) same (images.each n b at) in
      let among : step_among bound b.step ≡ Some b = step_of bound apart n b at in
      let next_bound : bound_next bound b.step s ≡ Some (bound_after b s) =
      ap (option_and_then (λ c. bound_next_of c s)) among ∙ ap (λ c. if c then Some (bound_after b s) else None) (i.needs s f h ∙ goes.0) in
      let k : StandsFor flat (bound_after b s) u = subst (λ (v : FlatState). StandsFor flat (bound_after b s) v) goes.1 (stands_after flat b step s f i h) in
      let r = steps_of_run apart ns (bound_after b s) u g more k in
      record {
        steps = b.step ∷ r.steps;
        named = ap₂ (λ o os. o ∷ os) (ap (option_map (λ (y : FlatStep). y.step)) flat_is ∙ ap (λ x. Some x) i.name) r.named;
        end = r.end;
        runs = ap (option_and_then (bound_run_from bound r.steps)) next_bound ∙ r.runs;
        stands = r.stands;
        costs = costs_more b.step r.steps s (bound_after b s) n b ns at among next_bound r.costs;
      })))
