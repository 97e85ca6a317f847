-- A type with a lower rank than the one that it is under isn't under itself.
use Rattle.std.proofs.Common.{◌≡◌, ℕ, zero, suc, ◌<◌, false, List, length, ap, ◌∙◌, arith}
use Rattle.std.specs.Prelude.{◌||◌, ◌==◌}
use Rattle.std.proofs.lemmas.Bool.{ne_eqb}
use Rattle.np_model.specs.declared.task.TypeName.{TypeName}
use Rattle.np_model.specs.Types.{parent_of, leads_within}
use Rattle.np_declared.specs.TypeRules.{is_under_itself}
use Rattle.np_declared.specs.Ranks.{rank_of, NeverFall}

module _ (types : List TypeName) (ranks : List ℕ) (h : NeverFall types ranks) where
  apart : (of over : ℕ) → rank_of ranks over < rank_of ranks of → (of == over) ≡ false
  apart of over lower = ne_eqb of over (λ e. let same = ap (rank_of ranks) e in absurd (omega arith))

  -- no type leads to one of a lower rank
  leads_up : (k of over : ℕ) → rank_of ranks over < rank_of ranks of → leads_within types k of over ≡ false
  leads_up zero of over lower = apart of over lower
  leads_up (suc k) of over lower =
      let rises = h.rises of in
      ap (λ b. b || leads_within types k (parent_of types of) over) (apart of over lower) ∙ leads_up k (parent_of types of) over (omega arith)

  pub not_itself : (n : ℕ) → rank_of ranks n < rank_of ranks (parent_of types n) → is_under_itself types n ≡ false
  not_itself n lower = leads_up (length types) (parent_of types n) n lower
