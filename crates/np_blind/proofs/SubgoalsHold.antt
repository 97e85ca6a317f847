-- When a subgoal holds in a state of bits and numbers.
use Rattle.std.proofs.Common.{◌≡◌, ℕ, ◌<◌, Bool, false, not, ℤ, pos, ◌+ℤ◌, List, length, get_or, Some, refl, sym, ap, ◌∙◌}
use Rattle.std.specs.Prelude.{slice_get, int_le}
use Rattle.std.specs.Option.{option_map_or}
use Rattle.std.proofs.lemmas.Option.{slice_get_read, slice_get_within}
use Rattle.np_state.specs.declared.state.State.{State}
use Rattle.np_flat.specs.declared.parts.Form.{Form}
use Rattle.np_flat.specs.declared.parts.Subgoal.{Subgoal}
use Rattle.np_flat.specs.declared.parts.Subgoal.TheVariants as subgoal
use Rattle.np_flat.specs.declared.parts.Parts.{Parts}
use Rattle.np_flat.specs.States.{has, terms_value, subgoal_holds, holds}
use Rattle.np_blind.specs.Readings.{read, true_numbers}
use Rattle.np_blind.proofs.Bits.{bit_some, has_true}

-- the subgoal of a number, as the code reads it
module _ (task : Parts) (s : State ℤ) (q : ℕ) (xs : List Subgoal) (g : Subgoal) (items : xs ≡ task.subgoals) (within : q < length task.subgoals) (read_at : g ≡ get_or xs q g) where
  subgoal_is : holds task (read s) q ≡ subgoal_holds (read s) g
  subgoal_is =
      ap (λ o. option_map_or (subgoal_holds (read s)) o false)
      (slice_get_read task.subgoals (length task.subgoals) q g refl within (read_at ∙ ap (λ ys. get_or ys q g) items))

  -- a fact's bit
  fact_is : (p : ℕ) (b : Bool) → slice_get s.facts p ≡ Some b → b ≡ has (true_numbers s.facts) p
  fact_is p b e = sym (has_true s.facts p (slice_get_within s.facts p b e) ∙ bit_some s.facts p b e)

  pub fact_holds : (p : ℕ) (b : Bool) → g ≡ subgoal.Fact p → slice_get s.facts p ≡ Some b → b ≡ holds task (read s) q
  fact_holds p b e f = fact_is p b f ∙ ap (subgoal_holds (read s)) (sym e) ∙ sym subgoal_is

  pub not_fact_holds : (p : ℕ) (b : Bool) → g ≡ subgoal.NotFact p → slice_get s.facts p ≡ Some b → not b ≡ holds task (read s) q
  not_fact_holds p b e f = ap not (fact_is p b f) ∙ ap (subgoal_holds (read s)) (sym e) ∙ sym subgoal_is

  pub form_holds : (form : Form) → g ≡ subgoal.Form form → int_le (pos 0) (form.constant +ℤ terms_value s.cells.items form.terms) ≡ holds task (read s) q
  form_holds form e = ap (subgoal_holds (read s)) (sym e) ∙ sym subgoal_is
