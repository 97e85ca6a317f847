-- Answers and first faults in other words.
use Rattle.std.proofs.Common.{◌≡◌, ℕ, ◌+◌, ◌<◌, List, drop, length, get_or, ◌∙◌}
use Rattle.std.specs.List.{flat_map}
use Rattle.np_names.specs.declared.fault.TypeFault.{TypeFault}
use Rattle.std.specs.Prelude.{Result, Ok, Err}
use Rattle.std.specs.Result.{IsErrAnd}
use Rattle.np_names.specs.Answers.{IsFirst, Answers}
use Rattle.np_names.proofs.Lists.{flat_map_next}
use Rattle.np_names.proofs.Answering.{first_front}

-- faults may be written otherwise
pub first_same : (xs ys : List TypeFault) (fault : TypeFault) → xs ≡ ys → IsFirst ys fault → IsFirst xs fault
first_same xs ys fault e h = rw e h

-- a fault that is handed on
pub handed : {A : Type 0} (faults : List TypeFault) (P : A → Type 0) (result : Result A TypeFault) (fault : TypeFault)
    → IsErrAnd result (λ f. f ≡ fault) → IsFirst faults fault → Answers faults P result
handed faults P (Ok a) fault e h = absurd e
handed faults P (Err f) fault e h = rw e h

-- the next of several parts has a fault, and those before it have none
pub first_next : {X : Type 0} (f : X → List TypeFault) (xs : List X) (i : ℕ) (x : X) (fault : TypeFault) → i < length xs → x ≡ get_or xs i x
    → flat_map f xs ≡ flat_map f (drop i xs) → IsFirst (f x) fault → IsFirst (flat_map f xs) fault
first_next f xs i x fault within is so_far h =
    first_same _ _ fault (so_far ∙ flat_map_next f xs i x within is) (first_front (f x) (flat_map f (drop (i + 1) xs)) fault h)

-- the same in other words
pub answers_same : {A : Type 0} (xs ys : List TypeFault) (P Q : A → Type 0) (result : Result A TypeFault)
    → xs ≡ ys → ((a : A) → Q a → P a) → Answers ys Q result → Answers xs P result
answers_same xs ys P Q (Ok a) e f h = (e ∙ h.0, f a h.1)
answers_same xs ys P Q (Err fault) e f h = first_same xs ys fault e h
