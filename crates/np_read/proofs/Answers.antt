-- What public readers answer.
use Rattle.std.proofs.Common.{◌≡◌, Bool, true, false, List, Option, Some, None, Result, Ok, Err, ap, ◌∙◌}
use Rattle.std.specs.Prelude.{IfOk, IsErrOf}
use Rattle.np_lex.specs.Tokens.{right}
use Rattle.np_read.specs.Answers.{RefusesBy, Refuses, Gives}
use Rattle.np_read.specs.Pieces.{Piece}
use Rattle.np_read.specs.Printers.{Printed}
use Rattle.np_read.specs.Readers.{Outcome, Reader, expect, row}
use Rattle.np_read.proofs.ReaderLaws.{Reads, with_front, loop_nothing}

refuses_by : {A B : Type 0} (is_memory : Bool) (x : Option A) (y : Option B) → (x ≡ None → y ≡ None) → RefusesBy is_memory x → RefusesBy is_memory y
refuses_by true x y go h = tt
refuses_by false x y go h = go h

refused_by : {A : Type 0} (is_memory : Bool) (there : Option A) → is_memory ≡ false → RefusesBy is_memory there → there ≡ None
refused_by true there e h = absurd cc
refused_by false there e h = h

module _ {F : Type 0} (is_memory : F → Bool) where
  module _ {A : Type 0} (IsSpelled : A → Type 0) (there : Option A) where
    -- what is given is spelled
    pub given_spelled : ((v : A) → there ≡ Some v → IsSpelled v) → (r : Result A F) → Gives is_memory (λ v. v) r there → IfOk r IsSpelled
    given_spelled sound (Ok v) h = sound v h
    given_spelled sound (Err fault) h = tt

    -- where it is refused, nothing is spelled
    pub refused_unspelled : ((v : A) → IsSpelled v → there ≡ Some v) → (r : Result A F) → Gives is_memory (λ v. v) r there → (fault : F) → is_memory fault ≡ false → IsErrOf r fault → (v : A) → IsSpelled v → ⊥
    refused_unspelled back (Ok w) h fault e is v spells = absurd cc
    refused_unspelled back (Err found) h fault e is v spells =
        let same : found ≡ fault = cc in
        let none = refused_by (is_memory found) there (ap is_memory same ∙ e) h in
        let some = back v spells in
        cc

  -- a loop refuses what its reader refuses
  pub loop_refuses : {A : Type 0} {P : A → Type 0} {f : A → Printed} {p : Reader A} (reads : Reads P f p) (fault : F) (front : List A) (pieces : List Piece) (total : Outcome (List A)) → expect right pieces ≡ None → Refuses is_memory fault (p pieces) → with_front front (row p pieces) ≡ total → Refuses is_memory fault total
  loop_refuses reads fault front pieces total open_ refuses so_far =
      refuses_by (is_memory fault) _ total (λ e. loop_nothing reads front pieces total open_ e so_far) refuses

-- what is given is the only thing that is spelled
pub only_given : {A F : Type 0} (IsSpelled : A → Type 0) → ((a b : A) → IsSpelled a → IsSpelled b → a ≡ b) → (r : Result A F) → IfOk r IsSpelled → IfOk r (λ v. (other : A) → IsSpelled other → other ≡ v)
only_given IsSpelled one (Ok v) spelled = λ other also. one other v also spelled
only_given IsSpelled one (Err fault) spelled = spelled
