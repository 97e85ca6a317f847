-- Effects by how they are read, and by their parts.
use Rattle.std.proofs.Common.{◌≡◌, ◌⊎◌, inl, inr, ℕ, zero, suc, Bool, true, false, List, [], refl, sym, subst, ◌∙◌}
use Rattle.std.specs.List.{All}
use Rattle.np_read.proofs.PlacedParts.{MadeOr}
use Rattle.np_read.proofs.Spelled.{Made, GoodPair}
use Rattle.np_words.specs.declared.word.Word.{Word}
use Rattle.np_words.specs.declared.word.Ident.{Ident}
use Rattle.np_words.specs.declared.expr.Expr.{Expr}
use Rattle.np_conditions.specs.declared.effect.Effect.{Effect, out-Effect}
use Rattle.np_conditions.specs.declared.effect.Effect.TheOpen.{Effect-F}
use Rattle.np_conditions.specs.declared.effect.Effect.TheVariants as e
use Rattle.np_conditions.specs.declared.effect.Effect.TheViews.{roll-Effect, out-roll-Effect, roll-out-Effect}
use Rattle.np_conditions.specs.ConditionText.{InBracket}
use Rattle.np_conditions.specs.EffectForm.{Target}
use Rattle.np_conditions.specs.EffectText.{IsTarget, IsEffectOf}
use Rattle.np_words.specs.ExprText.{IsExpr}
use Rattle.np_words.specs.Written.{IsName}
use Rattle.np_conditions.proofs.ConditionKinds.{GoodAtom}
use Rattle.np_words.proofs.ExprKinds.{IsUnit}

-- ---- targets

abbrev pub alone_made : Word → Target
alone_made w = (w, [], true)

abbrev pub called_made : Word × List Ident → Target
called_made x = (x.0, x.1, false)

abbrev pub GoodTarget : ℕ → Target → Type 0
GoodTarget depth x = IsTarget depth x.0 x.1 x.2

abbrev pub IsAlone : Target → Type 0
IsAlone = Made alone_made IsName

abbrev pub EitherTarget : ℕ → Target → Type 0
EitherTarget zero x = IsAlone x
EitherTarget (suc depth) x = MadeOr called_made GoodAtom IsAlone x

alone_is : (depth : ℕ) (x : Target) → IsAlone x → GoodTarget depth x
alone_is depth x h = subst (GoodTarget depth) h.1 (h.2, refl)

pub target_is : (depth : ℕ) (x : Target) → EitherTarget depth x → GoodTarget depth x
target_is zero x h = alone_is zero x h
target_is (suc depth) x (inl h) = subst (GoodTarget (suc depth)) h.2 h.4
target_is (suc depth) x (inr h) = alone_is (suc depth) x h

is_alone : (w : Word) (idents : List Ident) → IsName w × (idents ≡ []) → IsAlone (w, idents, true)
is_alone w idents h = subst (λ (is : List Ident). IsAlone (w, is, true)) (sym h.1) (w, refl, h.0)

is_target_by : (depth : ℕ) (w : Word) (idents : List Ident) (alone : Bool) → IsTarget depth w idents alone → EitherTarget depth (w, idents, alone)
is_target_by zero w idents true h = is_alone w idents h
is_target_by (suc depth) w idents true h = inr (is_alone w idents h)
is_target_by zero w idents false h = absurd h
is_target_by (suc depth) w idents false h = inl (tt, (w, idents), refl, tt, h)

pub is_target : (depth : ℕ) (x : Target) → GoodTarget depth x → EitherTarget depth x
is_target depth x h = is_target_by depth x.0 x.1 x.2 h

-- ---- how values are made

abbrev pub nothing_made : Unit {0} → Effect
nothing_made u = e.Nothing

abbrev pub and_made : List Effect → Effect
and_made parts = e.And parts

abbrev pub add_made : Word × List Ident → Effect
add_made x = e.Add x.0 x.1

abbrev pub delete_made : Word × List Ident → Effect
delete_made x = e.Delete x.0 x.1

abbrev pub increase_made : Target × Expr → Effect
increase_made x = e.Increase x.0.0 x.0.1 x.0.2 x.1

abbrev pub decrease_made : Target × Expr → Effect
decrease_made x = e.Decrease x.0.0 x.0.1 x.0.2 x.1

-- ---- the kinds, each with those that are tried after it

abbrev pub GoodChange : ℕ → Target × Expr → Type 0
GoodChange depth = GoodPair (GoodTarget depth) (IsExpr depth)

abbrev pub IsDeleted : Effect → Type 0
IsDeleted = Made delete_made GoodAtom

abbrev pub FromDecrease : ℕ → Effect → Type 0
FromDecrease depth = MadeOr decrease_made (GoodChange depth) (Made add_made GoodAtom)

abbrev pub FromIncrease : ℕ → Effect → Type 0
FromIncrease depth = MadeOr increase_made (GoodChange depth) (FromDecrease depth)

abbrev pub FromNot : ℕ → Effect → Type 0
FromNot zero v = FromIncrease zero v
FromNot (suc depth) v = IsDeleted v ⊎ FromIncrease (suc depth) v

module _ (depth : ℕ) (P : Effect → Type 0) where
  abbrev pub FromAnd : Effect → Type 0
  FromAnd = MadeOr and_made (All P) (FromNot depth)

  abbrev pub Enclosed : Effect → Type 0
  Enclosed = MadeOr nothing_made IsUnit FromAnd

  -- ---- and by their parts

  abbrev Parts : Effect → Type 0
  Parts v = IsEffectOf depth P (out-Effect v)

  level : (v : Effect) (x : Effect-F Effect) → roll-Effect x ≡ v → IsEffectOf depth P x → Parts v
  level v x is h = subst Parts is (subst (IsEffectOf depth P) (sym (out-roll-Effect x)) h)

  increase_is : (v : Effect) → FromIncrease depth v → Parts v
  increase_is v (inl h) = level v (Effect-F.Increase h.1.0.0 h.1.0.1 h.1.0.2 h.1.1) (e.rolls-Increase h.1.0.0 h.1.0.1 h.1.0.2 h.1.1 ∙ h.2) h.4
  increase_is v (inr (inl h)) = level v (Effect-F.Decrease h.1.0.0 h.1.0.1 h.1.0.2 h.1.1) (e.rolls-Decrease h.1.0.0 h.1.0.1 h.1.0.2 h.1.1 ∙ h.2) h.4
  increase_is v (inr (inr h)) = level v (Effect-F.Add h.0.0 h.0.1) (e.rolls-Add h.0.0 h.0.1 ∙ h.1) h.2

not_is : (depth : ℕ) (P : Effect → Type 0) (v : Effect) → FromNot depth v → IsEffectOf depth P (out-Effect v)
not_is zero P v h = increase_is zero P v h
not_is (suc depth) P v (inl h) = level (suc depth) P v (Effect-F.Delete h.0.0 h.0.1) (e.rolls-Delete h.0.0 h.0.1 ∙ h.1) h.2
not_is (suc depth) P v (inr h) = increase_is (suc depth) P v h

pub enclosed_is : (depth : ℕ) (P : Effect → Type 0) (v : Effect) → Enclosed depth P v → IsEffectOf depth P (out-Effect v)
enclosed_is depth P v (inl h) = level depth P v Effect-F.Nothing (e.rolls-Nothing ∙ h.2) tt
enclosed_is depth P v (inr (inl h)) = level depth P v (Effect-F.And h.1) (e.rolls-And h.1 ∙ h.2) h.4
enclosed_is depth P v (inr (inr h)) = not_is depth P v h

from_increase : (depth : ℕ) (v : Effect) → FromIncrease depth v → FromNot depth v
from_increase zero v h = h
from_increase (suc depth) v h = inr h

-- what a bracket encloses that can still be opened
deleted_from : (depth : ℕ) (Q : ℕ → Type 0) (v : Effect) → ((d : ℕ) → Q d → IsDeleted v) → InBracket Q depth → FromNot depth v
deleted_from zero Q v go h = absurd h
deleted_from (suc depth) Q v go h = inl (go depth h)

is_enclosed_by : (depth : ℕ) (P : Effect → Type 0) (x : Effect-F Effect) (v : Effect) → roll-Effect x ≡ v → IsEffectOf depth P x → Enclosed depth P v
is_enclosed_by depth P Effect-F.Nothing v is h = inl (tt, tt, sym e.rolls-Nothing ∙ is, tt, refl)
is_enclosed_by depth P (Effect-F.And parts) v is h = inr (inl (tt, parts, sym (e.rolls-And parts) ∙ is, tt, h))
is_enclosed_by depth P (Effect-F.Add w idents) v is h = inr (inr (from_increase depth v (inr (inr ((w, idents), sym (e.rolls-Add w idents) ∙ is, h)))))
is_enclosed_by depth P (Effect-F.Delete w idents) v is h =
    inr (inr (deleted_from depth _ v (λ d good. ((w, idents), sym (e.rolls-Delete w idents) ∙ is, good)) h))
is_enclosed_by depth P (Effect-F.Increase w idents alone x) v is h =
    inr (inr (from_increase depth v (inl (tt, ((w, idents, alone), x), sym (e.rolls-Increase w idents alone x) ∙ is, tt, h))))
is_enclosed_by depth P (Effect-F.Decrease w idents alone x) v is h =
    inr (inr (from_increase depth v (inr (inl (tt, ((w, idents, alone), x), sym (e.rolls-Decrease w idents alone x) ∙ is, tt, h)))))

pub is_enclosed : (depth : ℕ) (P : Effect → Type 0) (v : Effect) → IsEffectOf depth P (out-Effect v) → Enclosed depth P v
is_enclosed depth P v h = is_enclosed_by depth P (out-Effect v) v (roll-out-Effect v) h
