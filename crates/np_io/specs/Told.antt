-- What is told of a thing whose content may be unknown: `Some` of the content, or `None`.
use Rattle.std.specs.Prelude.{Option, None, Some}

-- of the content before and after, where it is told; a thing neither starts nor stops telling
abbrev pub Changes : {A : Type 0} → Option A → Option A → (A → A → Type 0) → Type 0
Changes None None P = Unit {0}
Changes (Some old) (Some new) P = P old new
Changes None (Some new) P = ⊥
Changes (Some old) None P = ⊥
