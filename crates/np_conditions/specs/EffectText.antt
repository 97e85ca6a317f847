-- Effects: their text, and which of them have one.
use Rattle.std.specs.Prelude.{◌≡◌, ℕ, zero, suc, Bool, true, false, List, [], map, All, codes}
use Rattle.np_lex.specs.declared.token.Place.{Place}
use Rattle.np_lex.specs.Tokens.{Lexeme}
use Rattle.np_read.specs.Marks.{each}
use Rattle.np_words.specs.declared.word.Word.{Word}
use Rattle.np_words.specs.declared.word.Ident.{Ident}
use Rattle.np_words.specs.declared.expr.Expr.{Expr}
use Rattle.np_conditions.specs.declared.effect.Effect.{Effect, out-Effect}
use Rattle.np_conditions.specs.declared.effect.Effect.TheFolds.{fold-Effect}
use Rattle.np_conditions.specs.declared.effect.Effect.TheOpen.{Effect-F}
use Rattle.np_conditions.specs.declared.effect.Effect.TheVariants as e
use Rattle.np_words.specs.Bare.{bare_word, bare_ident}
use Rattle.np_conditions.specs.ConditionText.{InBracket}
use Rattle.np_words.specs.ExprText.{expr, IsExpr, bare_expr}
use Rattle.np_words.specs.Text.{Printer, left, right, fixed_name, name, call}
use Rattle.np_words.specs.Written.{IsName, IsCall}

-- ---- the text

module _ {T : Type 0} (token : List Place → Lexeme → T) where
  -- what an effect changes: a name alone where the flag is true
  abbrev pub target_text : Word → List Ident → Bool → Printer T
  target_text w idents true rest = name token w rest
  target_text w idents false rest = call token w idents rest

  -- a change, by its word
  abbrev pub change_text : List ℕ → Word → List Ident → Bool → Expr → Printer T
  change_text word w idents alone v rest = left token (fixed_name token word (target_text w idents alone (expr token v (right token rest))))

  -- the text of an effect, by the texts of its parts
  abbrev pub effect_step : Effect-F (Printer T) → Printer T
  effect_step Effect-F.Nothing rest = left token (right token rest)
  effect_step (Effect-F.And parts) rest = left token (fixed_name token (codes "and") (each (λ part. part) parts (right token rest)))
  effect_step (Effect-F.Add w idents) rest = call token w idents rest
  effect_step (Effect-F.Delete w idents) rest = left token (fixed_name token (codes "not") (call token w idents (right token rest)))
  effect_step (Effect-F.Increase w idents alone v) rest = change_text (codes "increase") w idents alone v rest
  effect_step (Effect-F.Decrease w idents alone v) rest = change_text (codes "decrease") w idents alone v rest

  abbrev pub effect : Effect → Printer T
  effect = fold-Effect (Printer T) effect_step

-- ---- which have a text

-- a name alone has no arguments; one with arguments opens a bracket
abbrev pub IsTarget : ℕ → Word → List Ident → Bool → Type 0
IsTarget depth w idents true = IsName w × (idents ≡ [])
IsTarget depth w idents false = InBracket (λ _. IsCall w idents) depth

-- an effect by its parts, in whose bracket so many more may be opened
abbrev pub IsEffectOf : ℕ → (Effect → Type 0) → Effect-F Effect → Type 0
IsEffectOf depth P Effect-F.Nothing = Unit {0}
IsEffectOf depth P (Effect-F.And parts) = All P parts
IsEffectOf depth P (Effect-F.Add w idents) = IsCall w idents
IsEffectOf depth P (Effect-F.Delete w idents) = InBracket (λ _. IsCall w idents) depth
IsEffectOf depth P (Effect-F.Increase w idents alone v) = IsTarget depth w idents alone × IsExpr depth v
IsEffectOf depth P (Effect-F.Decrease w idents alone v) = IsTarget depth w idents alone × IsExpr depth v

-- an effect in which brackets nest at most so deep
abbrev pub IsEffect : ℕ → Effect → Type 0
IsEffect zero v = ⊥
IsEffect (suc depth) v = IsEffectOf depth (IsEffect depth) (out-Effect v)

-- ---- the same without places

abbrev pub bare_step : Effect-F Effect → Effect
bare_step Effect-F.Nothing = e.Nothing
bare_step (Effect-F.And parts) = e.And parts
bare_step (Effect-F.Add w idents) = e.Add (bare_word w) (map bare_ident idents)
bare_step (Effect-F.Delete w idents) = e.Delete (bare_word w) (map bare_ident idents)
bare_step (Effect-F.Increase w idents alone v) = e.Increase (bare_word w) (map bare_ident idents) alone (bare_expr v)
bare_step (Effect-F.Decrease w idents alone v) = e.Decrease (bare_word w) (map bare_ident idents) alone (bare_expr v)

abbrev pub bare_effect : Effect → Effect
bare_effect = fold-Effect Effect bare_step
