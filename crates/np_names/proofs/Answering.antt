-- Which fault of several lists is the first.
use Rattle.std.proofs.Common.{◌≡◌, List, [], ◌∷◌, ◌++◌, Some, Result, Ok, Err, refl, ap, ◌∙◌}
use Rattle.std.specs.Prelude.{IsErrAnd}
use Rattle.np_names.specs.declared.fault.TypeFault.{TypeFault}
use Rattle.np_names.specs.declared.fault.TypeFault.TheVariants.{Memory}
use Rattle.np_names.specs.Faults.{first_of, is_memory}
use Rattle.np_names.specs.Answers.{Answers, IsFirst}

-- the first fault of a list is the first of that list and more
first_more : (xs ys : List TypeFault) (fault : TypeFault) → first_of xs ≡ Some fault → first_of (xs ++ ys) ≡ Some fault
first_more [] ys fault e = absurd cc
first_more (x ∷ xs) ys fault e = e

pub first_front : (xs ys : List TypeFault) (fault : TypeFault) → IsFirst xs fault → IsFirst (xs ++ ys) fault
first_front xs ys fault h = record { first = λ e. first_more xs ys fault (h.first e) }

-- after a list without faults comes the next
pub first_after : (xs ys : List TypeFault) (fault : TypeFault) → xs ≡ [] → IsFirst ys fault → IsFirst (xs ++ ys) fault
first_after [] ys fault none h = h
first_after (x ∷ xs) ys fault none h = absurd cc

-- lists without faults
pub none_more : (xs ys : List TypeFault) → xs ≡ [] → ys ≡ [] → xs ++ ys ≡ []
none_more xs ys e f = rw e f

pub first_here : (fault : TypeFault) (xs : List TypeFault) → IsFirst (fault ∷ xs) fault
first_here fault xs = record { first = λ _. refl }

-- out of memory is no fault of a list
pub first_memory : (xs : List TypeFault) (fault : TypeFault) → fault ≡ Memory → IsFirst xs fault
first_memory xs fault e = record { first = λ h. absurd cc (ap is_memory e ∙ refl, h) }

pub memory_answers : {A : Type 0} (xs : List TypeFault) (P : A → Type 0) (r : Result A TypeFault) → IsErrAnd r (λ fault. fault ≡ Memory) → Answers xs P r
memory_answers xs P (Err fault) h = first_memory xs fault h
memory_answers xs P (Ok a) h = absurd h

-- a fault that is passed on
pub passed_on : {A : Type 0} (xs : List TypeFault) (P : A → Type 0) (r : Result A TypeFault) (fault : TypeFault) → IsFirst xs fault → IsErrAnd r (λ f. f ≡ fault) → Answers xs P r
passed_on xs P (Err f) fault h e = rw e h
passed_on xs P (Ok a) fault h e = absurd e

-- the first fault of a front of a list is that of the list
pub first_in : (all front rest : List TypeFault) → all ≡ front ++ rest → (fault : TypeFault) → IsFirst front fault → IsFirst all fault
first_in all front rest e fault h = rw e (first_front front rest fault h)

-- after a front without faults, the faults are those of the rest
pub rest_of : (all front rest : List TypeFault) → all ≡ front ++ rest → front ≡ [] → all ≡ rest
rest_of all front rest e none = e ∙ ap (λ xs. xs ++ rest) none
