-- The least share of each form.
use Rattle.std.specs.Prelude.{◌≡◌, ℕ, ◌<◌, ◌≤◌, min, pos, int_lt, Bool, true, List, [], ◌∷◌, length, slice_get, slice_set, if◌then◌else◌, ◌⊎◌, Option, Some, None}
use Rattle.std.specs.List.{list_all}
use Rattle.np_flat.specs.declared.state.FlatState.{FlatState}
use Rattle.np_flat.specs.declared.parts.Form.{Form}
use Rattle.np_flat.specs.declared.parts.Subgoal.{Subgoal}
use Rattle.np_flat.specs.declared.parts.Subgoal.TheVariants as subgoal
use Rattle.np_flat.specs.declared.parts.FlatStep.{FlatStep}
use Rattle.np_flat.specs.declared.parts.Parts.{Parts}
use Rattle.np_flat.specs.Achieving.{net, achieved_by}
use Rattle.np_table.specs.Tables.{share}
use Rattle.np_table.specs.Lowering.{capped, unit_at}

-- the capped share of a step in a form that it raises; else the greatest number
abbrev pub form_share : FlatState → Form → FlatStep → ℕ
form_share s form u = if int_lt (pos 0) (net u form) then capped (share s form u) else 4611686018427387903

abbrev pub share_by : FlatState → Option Subgoal → FlatStep → ℕ
share_by s None u = 4611686018427387903
share_by s (Some (subgoal.Fact p)) u = 4611686018427387903
share_by s (Some (subgoal.NotFact p)) u = 4611686018427387903
share_by s (Some (subgoal.Form form)) u = form_share s form u

abbrev pub paid : Parts → FlatState → FlatStep → List ℕ → List ℕ → List ℕ
paid task s u [] units = units
paid task s u (q ∷ qs) units = paid task s u qs (slice_set units q (min (unit_at units q) (share_by s (slice_get task.subgoals q) u)))

-- of the steps that are counted, each share of a step whose needs are in the set is at least the unit, which is one of them or the greatest number
pub record IsPaid (task : Parts) (s : FlatState) (can : ℕ → Bool) (units : List ℕ) (steps : ℕ) : Type 0 where
  pub count : length units ≡ length task.subgoals
  pub least : (n q : ℕ) (u : FlatStep) → n < steps → slice_get task.steps n ≡ Some u → list_all can u.needs ≡ true → achieved_by task n q ≡ true → unit_at units q ≤ share_by s (slice_get task.subgoals q) u
  pub reached : (q : ℕ) → q < length task.subgoals
      → (unit_at units q ≡ 4611686018427387903) ⊎ ((n : ℕ) × (u : FlatStep) × (slice_get task.steps n ≡ Some u) × (list_all can u.needs ≡ true) × (achieved_by task n q ≡ true) × (unit_at units q ≡ share_by s (slice_get task.subgoals q) u))
