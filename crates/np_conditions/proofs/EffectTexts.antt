-- The text of each effect, by its parts, and the same without places.
use Rattle.std.proofs.Common.{◌≡◌, Bool, List, map, sym, ap, subst, ◌∙◌, codes}
use Rattle.np_lex.specs.declared.token.Place.{Place}
use Rattle.np_lex.specs.Tokens.{Lexeme}
use Rattle.np_read.specs.Marks.{each}
use Rattle.np_words.specs.declared.word.Word.{Word}
use Rattle.np_words.specs.declared.word.Ident.{Ident}
use Rattle.np_words.specs.declared.expr.Expr.{Expr}
use Rattle.np_conditions.specs.declared.effect.Effect.{Effect, out-Effect}
use Rattle.np_conditions.specs.declared.effect.Effect.TheFolds.{fold-Effect, fold-roll-Effect}
use Rattle.np_conditions.specs.declared.effect.Effect.TheOpen.{Effect-F}
use Rattle.np_conditions.specs.declared.effect.Effect.TheVariants as e
use Rattle.np_conditions.specs.declared.effect.Effect.TheViews.{roll-Effect, roll-out-Effect}
use Rattle.np_words.specs.Bare.{bare_word, bare_ident}
use Rattle.np_words.specs.ExprText.{bare_expr}
use Rattle.np_conditions.specs.EffectText.{change_text, effect_step, effect, bare_step, bare_effect}
use Rattle.np_words.specs.Text.{Printer, left, right, fixed_name, call}
use Rattle.np_words.proofs.ExprTexts.{tail_of, each_map}

module _ {T : Type 0} (token : List Place → Lexeme → T) where
  -- by its level
  level : (v : Effect) (x : Effect-F Effect) → roll-Effect x ≡ v → (shown : Printer T) → fold-Effect (Printer T) (effect_step token) (roll-Effect x) ≡ shown → (ts : List T) → effect token v ts ≡ shown ts
  level v x is shown folds ts = ap (λ (w : Effect). effect token w ts) (sym is) ∙ ap (λ (f : Printer T). f ts) folds

  pub text_nothing : (ts : List T) → effect token e.Nothing ts ≡ left token (right token ts)
  text_nothing = level e.Nothing Effect-F.Nothing e.rolls-Nothing _ (fold-roll-Effect (Printer T) (effect_step token) Effect-F.Nothing)

  abbrev itself : Printer T → Printer T
  itself shown = shown

  pub text_and : (parts : List Effect) (ts : List T) → effect token (e.And parts) ts ≡ left token (fixed_name token (codes "and") (each (effect token) parts (right token ts)))
  text_and parts ts =
      level (e.And parts) (Effect-F.And parts) (e.rolls-And parts) _ (fold-roll-Effect (Printer T) (effect_step token) (Effect-F.And parts)) ts
      ∙ ap (λ (rest : List T). left token (fixed_name token (codes "and") rest)) (each_map (effect token) itself parts (right token ts))

  pub text_add : (w : Word) (idents : List Ident) (ts : List T) → effect token (e.Add w idents) ts ≡ call token w idents ts
  text_add w idents = level (e.Add w idents) (Effect-F.Add w idents) (e.rolls-Add w idents) _ (fold-roll-Effect (Printer T) (effect_step token) (Effect-F.Add w idents))

  pub text_delete : (w : Word) (idents : List Ident) (ts : List T) → effect token (e.Delete w idents) ts ≡ left token (fixed_name token (codes "not") (call token w idents (right token ts)))
  text_delete w idents = level (e.Delete w idents) (Effect-F.Delete w idents) (e.rolls-Delete w idents) _ (fold-roll-Effect (Printer T) (effect_step token) (Effect-F.Delete w idents))

  pub text_increase : (w : Word) (idents : List Ident) (alone : Bool) (v : Expr) (ts : List T) → effect token (e.Increase w idents alone v) ts ≡ change_text token (codes "increase") w idents alone v ts
  text_increase w idents alone v =
      level (e.Increase w idents alone v) (Effect-F.Increase w idents alone v) (e.rolls-Increase w idents alone v) _ (fold-roll-Effect (Printer T) (effect_step token) (Effect-F.Increase w idents alone v))

  pub text_decrease : (w : Word) (idents : List Ident) (alone : Bool) (v : Expr) (ts : List T) → effect token (e.Decrease w idents alone v) ts ≡ change_text token (codes "decrease") w idents alone v ts
  text_decrease w idents alone v =
      level (e.Decrease w idents alone v) (Effect-F.Decrease w idents alone v) (e.rolls-Decrease w idents alone v) _ (fold-roll-Effect (Printer T) (effect_step token) (Effect-F.Decrease w idents alone v))

  -- each effect begins with a bracket
  opened : (v w : Effect) → w ≡ v → (ts rest : List T) → effect token w ts ≡ left token rest → effect token v ts ≡ left token (tail_of (effect token v ts))
  opened v w is ts rest so =
      subst (λ (u : Effect). effect token u ts ≡ left token (tail_of (effect token u ts))) is (so ∙ sym (ap (λ (all_of : List T). left token (tail_of all_of)) so))

  opens_by : (x : Effect-F Effect) (v : Effect) → roll-Effect x ≡ v → (ts : List T) → effect token v ts ≡ left token (tail_of (effect token v ts))
  opens_by Effect-F.Nothing v is ts = opened v e.Nothing (sym e.rolls-Nothing ∙ is) ts _ (text_nothing ts)
  opens_by (Effect-F.And parts) v is ts = opened v (e.And parts) (sym (e.rolls-And parts) ∙ is) ts _ (text_and parts ts)
  opens_by (Effect-F.Add w idents) v is ts = opened v (e.Add w idents) (sym (e.rolls-Add w idents) ∙ is) ts _ (text_add w idents ts)
  opens_by (Effect-F.Delete w idents) v is ts = opened v (e.Delete w idents) (sym (e.rolls-Delete w idents) ∙ is) ts _ (text_delete w idents ts)
  opens_by (Effect-F.Increase w idents alone x) v is ts = opened v (e.Increase w idents alone x) (sym (e.rolls-Increase w idents alone x) ∙ is) ts _ (text_increase w idents alone x ts)
  opens_by (Effect-F.Decrease w idents alone x) v is ts = opened v (e.Decrease w idents alone x) (sym (e.rolls-Decrease w idents alone x) ∙ is) ts _ (text_decrease w idents alone x ts)

  pub opens : (v : Effect) (ts : List T) → effect token v ts ≡ left token (tail_of (effect token v ts))
  opens v ts = opens_by (out-Effect v) v (roll-out-Effect v) ts

-- ---- the same without places

bare_by : (v : Effect) (x : Effect-F Effect) → roll-Effect x ≡ v → (w : Effect) → bare_effect (roll-Effect x) ≡ w → bare_effect v ≡ w
bare_by v x is w folds = ap bare_effect (sym is) ∙ folds

pub bare_and : (parts : List Effect) → bare_effect (e.And parts) ≡ e.And (map bare_effect parts)
bare_and parts = bare_by (e.And parts) (Effect-F.And parts) (e.rolls-And parts) _ (fold-roll-Effect Effect bare_step (Effect-F.And parts))

pub bare_add : (w : Word) (idents : List Ident) → bare_effect (e.Add w idents) ≡ e.Add (bare_word w) (map bare_ident idents)
bare_add w idents = bare_by (e.Add w idents) (Effect-F.Add w idents) (e.rolls-Add w idents) _ (fold-roll-Effect Effect bare_step (Effect-F.Add w idents))

pub bare_delete : (w : Word) (idents : List Ident) → bare_effect (e.Delete w idents) ≡ e.Delete (bare_word w) (map bare_ident idents)
bare_delete w idents = bare_by (e.Delete w idents) (Effect-F.Delete w idents) (e.rolls-Delete w idents) _ (fold-roll-Effect Effect bare_step (Effect-F.Delete w idents))

pub bare_increase : (w : Word) (idents : List Ident) (alone : Bool) (v : Expr) → bare_effect (e.Increase w idents alone v) ≡ e.Increase (bare_word w) (map bare_ident idents) alone (bare_expr v)
bare_increase w idents alone v =
    bare_by (e.Increase w idents alone v) (Effect-F.Increase w idents alone v) (e.rolls-Increase w idents alone v) _ (fold-roll-Effect Effect bare_step (Effect-F.Increase w idents alone v))

pub bare_decrease : (w : Word) (idents : List Ident) (alone : Bool) (v : Expr) → bare_effect (e.Decrease w idents alone v) ≡ e.Decrease (bare_word w) (map bare_ident idents) alone (bare_expr v)
bare_decrease w idents alone v =
    bare_by (e.Decrease w idents alone v) (Effect-F.Decrease w idents alone v) (e.rolls-Decrease w idents alone v) _ (fold-roll-Effect Effect bare_step (Effect-F.Decrease w idents alone v))
