-- The first entry of a state.
use Rattle.std.specs.Borrow.{Bor}
use Rattle.std.specs.Prelude.{◌≡◌, ℕ, ◌+◌, ◌<◌, ◌≤◌, Bool, List, length, Some, slice_get, IsTrue, MatchOption}
use Rattle.std.specs.HashMap.{HashMap, get}
use Rattle.np_flat.specs.declared.state.FlatState.{FlatState}
use Rattle.np_flat.specs.Same.{same_state}
use Rattle.np_cert.specs.declared.certificate.Entry.{Entry}

-- no entry in this range of numbers has the state
abbrev pub HasNone : List Entry → FlatState → ℕ → ℕ → Type 0
HasNone entries s from below = (n : ℕ) (e : Entry) → from ≤ n → n < below → slice_get entries n ≡ Some e → e.state ≡ s → ⊥

-- the entry of this number is the first one of a state from another number on
pub record IsFirst (entries : List Entry) (s : FlatState) (from number : ℕ) : Type 0 where
  pub late : from ≤ number
  pub entry : Entry
  pub there : slice_get entries number ≡ Some entry
  pub same : entry.state ≡ s
  pub earlier : HasNone entries s from number

-- the map has the number of the first entry of each state, from a number on, and no other state
abbrev pub AreFirst : {S : Type 0} → HashMap (Bor FlatState) ℕ S → List Entry → ℕ → Type 0
AreFirst numbers entries from =
    (q : Bor FlatState) → MatchOption (get (λ x y. same_state x.now y.now) numbers q) (HasNone entries q.now from (length entries)) (IsFirst entries q.now from)

-- no two entries have the same state, from a number on
abbrev pub AreDistinct : List Entry → ℕ → Type 0
AreDistinct entries from = (n : ℕ) (e : Entry) → from ≤ n → slice_get entries n ≡ Some e → HasNone entries e.state (n + 1) (length entries)

-- the map has the numbers of the first entries, from a number on, and where it says so all entries are first ones
pub record ArePlaced {S : Type 0} (numbers : HashMap (Bor FlatState) ℕ S) (distinct : Bool) (entries : List Entry) (from : ℕ) : Type 0 where
  pub first : AreFirst numbers entries from
  pub once : IsTrue distinct → AreDistinct entries from
