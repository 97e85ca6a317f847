-- Conditions by how they are read, and by their parts.
use Rattle.std.proofs.Common.{◌≡◌, ◌⊎◌, inl, inr, ℕ, zero, suc, List, refl, sym, subst, ◌∙◌}
use Rattle.std.specs.List.{All}
use Rattle.np_read.proofs.PlacedParts.{MadeOr, MadeOf}
use Rattle.np_read.proofs.Spelled.{Made, GoodPair}
use Rattle.np_words.specs.declared.word.Word.{Word}
use Rattle.np_words.specs.declared.word.Ident.{Ident}
use Rattle.np_words.specs.declared.expr.Expr.{Expr}
use Rattle.np_conditions.specs.declared.condition.Op.{Op}
use Rattle.np_conditions.specs.declared.condition.Side.{Side}
use Rattle.np_conditions.specs.declared.condition.Condition.{Condition, out-Condition}
use Rattle.np_conditions.specs.declared.condition.Condition.TheOpen.{Condition-F}
use Rattle.np_conditions.specs.declared.condition.Condition.TheVariants as c
use Rattle.np_conditions.specs.declared.condition.Condition.TheViews.{roll-Condition, out-roll-Condition, roll-out-Condition}
use Rattle.np_words.specs.ExprText.{IsExpr}
use Rattle.np_conditions.specs.ConditionText.{IsSide, InBracket, IsConditionOf}
use Rattle.np_words.specs.Written.{IsName, IsIdent}
use Rattle.np_words.proofs.ExprKinds.{IsUnit}

-- ---- how values are made

abbrev pub nothing_made : Unit {0} → Condition
nothing_made u = c.Nothing

abbrev pub and_made : List Condition → Condition
and_made parts = c.And parts

abbrev pub atom_made : Word × List Ident → Condition
atom_made x = c.Atom x.0 x.1

abbrev pub not_atom_made : Word × List Ident → Condition
not_atom_made x = c.NotAtom x.0 x.1

abbrev pub compare_made : Op → Expr × Expr → Condition
compare_made op x = c.Compare op x.0 x.1

abbrev pub not_compare_made : Op → Expr × Expr → Condition
not_compare_made op x = c.NotCompare op x.0 x.1

abbrev pub equal_made : Side × Side → Condition
equal_made x = c.Equal x.0 x.1

abbrev pub not_same_made : Ident × Ident → Condition
not_same_made x = c.NotSame x.0 x.1

-- ---- the kinds, each with those that are tried after it

abbrev pub IsAnyOp : Op → Type 0
IsAnyOp op = Unit {0}

abbrev pub GoodAtom : Word × List Ident → Type 0
GoodAtom = GoodPair IsName (All IsIdent)

abbrev pub GoodOperands : ℕ → Expr × Expr → Type 0
GoodOperands depth = GoodPair (IsExpr depth) (IsExpr depth)

abbrev pub NotFromCompare : ℕ → Condition → Type 0
NotFromCompare depth v = MadeOf not_compare_made IsAnyOp (GoodOperands depth) v ⊎ Made not_atom_made GoodAtom v

-- what `not` encloses
abbrev pub Negated : ℕ → Condition → Type 0
Negated depth = MadeOr not_same_made (GoodPair IsIdent IsIdent) (NotFromCompare depth)

abbrev pub FromCompare : ℕ → Condition → Type 0
FromCompare depth v = MadeOf compare_made IsAnyOp (GoodOperands depth) v ⊎ Made atom_made GoodAtom v

abbrev pub FromEqual : ℕ → Condition → Type 0
FromEqual depth = MadeOr equal_made (GoodPair (IsSide depth) (IsSide depth)) (FromCompare depth)

abbrev pub FromNot : ℕ → Condition → Type 0
FromNot zero v = FromEqual zero v
FromNot (suc depth) v = Negated depth v ⊎ FromEqual (suc depth) v

module _ (depth : ℕ) (P : Condition → Type 0) where
  abbrev pub FromAnd : Condition → Type 0
  FromAnd = MadeOr and_made (All P) (FromNot depth)

  abbrev pub Enclosed : Condition → Type 0
  Enclosed = MadeOr nothing_made IsUnit FromAnd

  -- ---- and by their parts

  abbrev Parts : Condition → Type 0
  Parts v = IsConditionOf depth P (out-Condition v)

  level : (v : Condition) (x : Condition-F Condition) → roll-Condition x ≡ v → IsConditionOf depth P x → Parts v
  level v x is h = subst Parts is (subst (IsConditionOf depth P) (sym (out-roll-Condition x)) h)

  compare_is : (v : Condition) → FromCompare depth v → Parts v
  compare_is v (inl h) = level v (Condition-F.Compare h.0 h.1.0 h.1.1) (c.rolls-Compare h.0 h.1.0 h.1.1 ∙ h.2) h.4
  compare_is v (inr h) = level v (Condition-F.Atom h.0.0 h.0.1) (c.rolls-Atom h.0.0 h.0.1 ∙ h.1) h.2

  equal_is : (v : Condition) → FromEqual depth v → Parts v
  equal_is v (inl h) = level v (Condition-F.Equal h.1.0 h.1.1) (c.rolls-Equal h.1.0 h.1.1 ∙ h.2) h.4
  equal_is v (inr h) = compare_is v h

negated_is : (depth : ℕ) (P : Condition → Type 0) (v : Condition) → Negated depth v → IsConditionOf (suc depth) P (out-Condition v)
negated_is depth P v (inl h) = level (suc depth) P v (Condition-F.NotSame h.1.0 h.1.1) (c.rolls-NotSame h.1.0 h.1.1 ∙ h.2) h.4
negated_is depth P v (inr (inl h)) = level (suc depth) P v (Condition-F.NotCompare h.0 h.1.0 h.1.1) (c.rolls-NotCompare h.0 h.1.0 h.1.1 ∙ h.2) h.4
negated_is depth P v (inr (inr h)) = level (suc depth) P v (Condition-F.NotAtom h.0.0 h.0.1) (c.rolls-NotAtom h.0.0 h.0.1 ∙ h.1) h.2

not_is : (depth : ℕ) (P : Condition → Type 0) (v : Condition) → FromNot depth v → IsConditionOf depth P (out-Condition v)
not_is zero P v h = equal_is zero P v h
not_is (suc depth) P v (inl h) = negated_is depth P v h
not_is (suc depth) P v (inr h) = equal_is (suc depth) P v h

pub enclosed_is : (depth : ℕ) (P : Condition → Type 0) (v : Condition) → Enclosed depth P v → IsConditionOf depth P (out-Condition v)
enclosed_is depth P v (inl h) = level depth P v Condition-F.Nothing (c.rolls-Nothing ∙ h.2) tt
enclosed_is depth P v (inr (inl h)) = level depth P v (Condition-F.And h.1) (c.rolls-And h.1 ∙ h.2) h.4
enclosed_is depth P v (inr (inr h)) = not_is depth P v h

from_equal : (depth : ℕ) (v : Condition) → FromEqual depth v → FromNot depth v
from_equal zero v h = h
from_equal (suc depth) v h = inr h

-- what a bracket encloses that can still be opened
negated_from : (depth : ℕ) (Q : ℕ → Type 0) (v : Condition) → ((d : ℕ) → Q d → Negated d v) → InBracket Q depth → FromNot depth v
negated_from zero Q v go h = absurd h
negated_from (suc depth) Q v go h = inl (go depth h)

is_enclosed_by : (depth : ℕ) (P : Condition → Type 0) (x : Condition-F Condition) (v : Condition) → roll-Condition x ≡ v → IsConditionOf depth P x → Enclosed depth P v
is_enclosed_by depth P Condition-F.Nothing v is h = inl (tt, tt, sym c.rolls-Nothing ∙ is, tt, refl)
is_enclosed_by depth P (Condition-F.And parts) v is h = inr (inl (tt, parts, sym (c.rolls-And parts) ∙ is, tt, h))
is_enclosed_by depth P (Condition-F.Atom w idents) v is h =
    inr (inr (from_equal depth v (inr (inr ((w, idents), sym (c.rolls-Atom w idents) ∙ is, h)))))
is_enclosed_by depth P (Condition-F.NotAtom w idents) v is h =
    inr (inr (negated_from depth _ v (λ d good. inr (inr ((w, idents), sym (c.rolls-NotAtom w idents) ∙ is, good))) h))
is_enclosed_by depth P (Condition-F.Compare op a b) v is h =
    inr (inr (from_equal depth v (inr (inl (op, (a, b), sym (c.rolls-Compare op a b) ∙ is, tt, h)))))
is_enclosed_by depth P (Condition-F.NotCompare op a b) v is h =
    inr (inr (negated_from depth _ v (λ d good. inr (inl (op, (a, b), sym (c.rolls-NotCompare op a b) ∙ is, tt, good))) h))
is_enclosed_by depth P (Condition-F.Equal l r) v is h =
    inr (inr (from_equal depth v (inl (tt, (l, r), sym (c.rolls-Equal l r) ∙ is, tt, h))))
is_enclosed_by depth P (Condition-F.NotSame i j) v is h =
    inr (inr (negated_from depth _ v (λ d good. inl (tt, (i, j), sym (c.rolls-NotSame i j) ∙ is, tt, good)) h))

pub is_enclosed : (depth : ℕ) (P : Condition → Type 0) (v : Condition) → IsConditionOf depth P (out-Condition v) → Enclosed depth P v
is_enclosed depth P v h = is_enclosed_by depth P (out-Condition v) v (roll-out-Condition v) h
