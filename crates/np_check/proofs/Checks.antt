-- What the steps say of the bound of an entry.
use Rattle.std.proofs.Common.{◌≡◌, ℕ, ◌<◌, ◌≤◌, false, inl, inr, List, length, None, Some, sym, ◌∙◌, ap, if◌then◌else◌}
use Rattle.std.specs.Option.{option_and_then}
use Rattle.std.proofs.lemmas.Bool.{cases_lt}
use Rattle.std.proofs.lemmas.Option.{none-some, slice_get_past}
use Rattle.np_flat.specs.declared.state.FlatState.{FlatState}
use Rattle.np_flat.specs.declared.parts.Parts.{Parts}
use Rattle.np_flat.specs.States.{is_goal, next, meets, state_after}
use Rattle.np_cert.specs.declared.certificate.Entry.{Entry}
use Rattle.np_cert.specs.Valid.{IsExpanded}
use Rattle.np_check.specs.Steps.{IsBounded}

module _ (task : Parts) (entries : List Entry) (e : Entry) where
  -- no other number is that of a step
  no_step : (n : ℕ) (after : FlatState) → length task.steps ≤ n → next task n e.state ≡ Some after → ⊥
  no_step n after past leads =
      none-some after (ap (option_and_then (λ step. if meets task e.state step then Some (state_after step e.state) else None)) (sym (slice_get_past task.steps n past)) ∙ leads)

  -- all steps
  pub expanded_by : is_goal task e.state ≡ false → ((n : ℕ) → n < length task.steps → IsBounded task entries e n) → IsExpanded task entries e
  expanded_by no_goal bounded = record {
    no_goal = no_goal;
    steps = λ n after leads.
        elim (cases_lt n (length task.steps)) [
          | inl lt ↦ bounded n lt after leads
          | inr past ↦ absurd (no_step n after past leads)
        ];
  }
