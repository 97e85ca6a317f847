-- The number that a state gets.
use Rattle.std.proofs.Common.{◌≡◌, ℕ, Bool, true, false, not, List, map, slice_get, Some, refl, ◌∙◌}
use Rattle.std.specs.List.{list_any, position_or_len}
use Rattle.indexmap.specs.IndexSet.{insert_key}
use Rattle.np_state.specs.StateValues.{StateValue}
use Rattle.np_state.specs.Interning.{IsNumberOf}
use Rattle.np_state.proofs.Distinct.{said_new, number_new, absent_new, said_same, said_there}

module _ {K : Type 0} (eq : K → K → Bool) (value : K → StateValue) (same : (a b : K) → eq a b ≡ true → value a ≡ value b) (alike : (a b : K) → value a ≡ value b → eq a b ≡ true) where
  -- by whether an equal key was there
  by : (ks new : List K) (k : K) (i : ℕ) (any : Bool) → list_any (eq k) ks ≡ any → new ≡ insert_key eq ks k → i ≡ position_or_len (eq k) ks → (there : K) → slice_get new i ≡ Some there → eq k there ≡ true → IsNumberOf (map value ks) (map value new) (value k) i (not any)
  by ks new k i true h e n there at equal = record {
    same = said_same eq value same alike ks new k h e;
    there = said_there eq value same alike ks new k h e i there at equal;
  }
  by ks new k i false h e n there at equal = record {
    last = said_new eq value same alike ks new k h e;
    number = n ∙ number_new eq value same alike ks k h;
    absent = absent_new eq value same alike ks k h;
  }

  -- the number of an inserted key is that of what it says
  pub numbered : (ks new : List K) (k : K) (i : ℕ) (added : Bool) → added ≡ not (list_any (eq k) ks) → new ≡ insert_key eq ks k → i ≡ position_or_len (eq k) ks → (there : K) → slice_get new i ≡ Some there → eq k there ≡ true → IsNumberOf (map value ks) (map value new) (value k) i added
  numbered ks new k i added a e n there at equal = rw a (by ks new k i (list_any (eq k) ks) refl e n there at equal)
