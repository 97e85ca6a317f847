-- Equality and hash of rows of truth values.
use Rattle.std.specs.Prelude.{◌≡◌, Bool, true, false, List}
use Rattle.std.proofs.Common.{rules, refl, ap}
use Rattle.std.specs.Bool.{beq, Decides}
use Rattle.std.specs.Cmp.{IsEquivalence}
use Rattle.std.specs.Cmp.Rules.{comparing}
use Rattle.std.specs.Cmp.Lexicographic.{pointwise, pointwise_decides, lists_equiv}
use Rattle.std.specs.Hash as fed
use Rattle.std.specs.Hash.{HashWrites}
use Rattle.std.specs.List.{flat_map}
use Rattle.np_state.specs.Words.{words_of}

-- whether two rows are equal
abbrev pub bits_eq : List Bool → List Bool → Bool
bits_eq = pointwise beq

-- two truth values are equal exactly where they are the same
pub beq_Decides : (a b : Bool) → Decides (beq a b) (a ≡ b)
beq_Decides true true = (λ _. refl, λ _. refl)
beq_Decides true false = (λ e. absurd (cc), λ e. absurd (cc))
beq_Decides false true = (λ e. absurd (cc), λ e. absurd (cc))
beq_Decides false false = (λ _. refl, λ _. refl)

pub beq_laws : IsEquivalence beq
beq_laws = search (comparing, rules)

pub bits_eq_laws : IsEquivalence bits_eq
bits_eq_laws = lists_equiv beq_laws

-- what a row feeds a hasher: its words
abbrev pub bits_fed : List Bool → HashWrites
bits_fed bits = flat_map fed.u64 (words_of bits)

pub bits_fed_alike : (xs ys : List Bool) → bits_eq xs ys ≡ true → bits_fed xs ≡ bits_fed ys
bits_fed_alike xs ys e = ap bits_fed ((pointwise_decides beq_Decides xs ys).0 e)
