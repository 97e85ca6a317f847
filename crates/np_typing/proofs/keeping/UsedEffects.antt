-- Effects without faults stand for ones that the task allows.
use Rattle.std.proofs.Common.{◌≡◌, ℕ, zero, suc, ◌^◌, ◌<◌, ◌≤◌, Bool, true, false, List, [], ◌∷◌, map, flat_map, refl, sym, subst, ap, ◌∙◌, arith}
use Rattle.std.specs.List.{AllByRecursion}
use Rattle.std.proofs.lemmas.Bool.{and_from}
use Rattle.std.proofs.lemmas.List.Elements.{recursion_from_All}
use Rattle.np_model.specs.declared.task.Eff.{Eff}
use Rattle.np_model.specs.declared.task.Eff.TheVariants as eff
use Rattle.np_model.specs.declared.task.TaskParts.{TaskParts}
use Rattle.np_model.specs.Tasks.{is_effect}
use Rattle.np_words.specs.declared.word.Word.{Word}
use Rattle.np_words.specs.declared.word.Ident.{Ident}
use Rattle.np_words.specs.declared.expr.Expr.{Expr}
use Rattle.np_conditions.specs.declared.effect.Effect.{Effect, out-Effect}
use Rattle.np_conditions.specs.declared.effect.Effect.TheFolds.{fold-Effect, fold-roll-Effect, map-Effect}
use Rattle.np_conditions.specs.declared.effect.Effect.TheOpen.{Effect-F}
use Rattle.np_conditions.specs.declared.effect.Effect.TheViews.{roll-out-Effect}
use Rattle.np_conditions.specs.EffectText.{IsEffectOf, IsEffect}
use Rattle.np_words.specs.ExprText.{IsExpr}
use Rattle.np_names.specs.declared.fault.TypeFault.{TypeFault}
use Rattle.np_typing.specs.Scopes.{Scope}
use Rattle.np_typing.specs.Uses.{expr_faults, function_faults, change_faults, effect_faults_from, effect_faults}
use Rattle.np_typing.specs.Resolved.{function_number, refs_of, sum_of, effects_from, effects_of}
use Rattle.np_typing.proofs.keeping.DeclaredSizes.{total, expr_size, effect_size_from, effect_size}
use Rattle.np_typing.proofs.keeping.UsedLists.{both_none, each_append}
use Rattle.np_typing.proofs.keeping.UsedSymbols.{Agrees, predicate_fits, function_fits}
use Rattle.np_typing.proofs.keeping.UsedExpressions.{fine, sum_fits}

at_level : (A : Type 0) (f : Effect-F A → A) (e : Effect) → fold-Effect A f e ≡ f (map-Effect Effect A (fold-Effect A f) (out-Effect e))
at_level A f e = ap (fold-Effect A f) (sym (roll-out-Effect e)) ∙ fold-roll-Effect A f (out-Effect e)

module _ (scope : Scope) (task : TaskParts) (parameters : List ℕ) (agrees : Agrees scope task parameters) where
  abbrev Fits : Eff → Type 0
  Fits e = is_effect task parameters e ≡ true

  abbrev faults : Effect → List TypeFault
  faults = effect_faults scope

  change_fits : (depth : ℕ) (up : Bool) (w : Word) (idents : List Ident) (v : Expr) → depth ≤ 256 → IsExpr depth v → suc (expr_size v) < 2 ^ 32 → change_faults scope w idents v ≡ []
      → Fits (eff.Change up (function_number scope w) (refs_of scope idents) (sum_of scope v))
  change_fits depth up w idents v few is short h =
      let p = both_none (function_faults scope false w idents) (expr_faults scope true v) h in
      let amount = fine scope task parameters agrees true depth v is p.1 in
      and_from _ _ (function_fits scope task parameters agrees false w idents p.0)
      (and_from _ _ (sum_fits scope task parameters agrees true depth v few is (omega (arith, short)) p.1) (amount.static refl))

  -- what is shown of the effects in which brackets nest at most so deep
  abbrev AreFit : ℕ → Type 0
  AreFit depth = (e : Effect) → IsEffect depth e → effect_size e < 2 ^ 32 → faults e ≡ [] → AllByRecursion Fits (effects_of scope e)

  module _ (depth : ℕ) (few : suc depth ≤ 256) (fit_part : AreFit depth) where
    row_fits : (parts : List Effect) → AllByRecursion (IsEffect depth) parts → total (λ n. n) (map effect_size parts) < 2 ^ 32 → flat_map (λ part. part) (map faults parts) ≡ []
        → AllByRecursion Fits (flat_map (λ part. part) (map (effects_of scope) parts))
    row_fits [] is short h = tt
    row_fits (e ∷ parts) is short h =
        let p = both_none (faults e) (flat_map (λ part. part) (map faults parts)) h in
        each_append Fits (effects_of scope e) _ (fit_part e is.0 (omega (arith, short)) p.0) (row_fits parts is.1 (omega (arith, short)) p.1)

    fits_of : (x : Effect-F Effect) → IsEffectOf depth (IsEffect depth) x → effect_size_from (map-Effect Effect ℕ effect_size x) < 2 ^ 32
        → effect_faults_from scope (map-Effect Effect (List TypeFault) faults x) ≡ []
        → AllByRecursion Fits (effects_from scope (map-Effect Effect (List Eff) (effects_of scope) x))
    fits_of Effect-F.Nothing is short h = tt
    fits_of (Effect-F.And parts) is short h = row_fits parts (recursion_from_All (IsEffect depth) parts is) (omega (arith, short)) h
    fits_of (Effect-F.Add w idents) is short h = (predicate_fits scope task parameters agrees w idents h, tt)
    fits_of (Effect-F.Delete w idents) is short h = (predicate_fits scope task parameters agrees w idents h, tt)
    fits_of (Effect-F.Increase w idents alone v) is short h = (change_fits depth true w idents v (omega (arith, few)) is.1 short h, tt)
    fits_of (Effect-F.Decrease w idents alone v) is short h = (change_fits depth false w idents v (omega (arith, few)) is.1 short h, tt)

  pub effects_fit : (depth : ℕ) (e : Effect) → depth ≤ 256 → IsEffect depth e → effect_size e < 2 ^ 32 → effect_faults scope e ≡ []
      → AllByRecursion (λ x. is_effect task parameters x ≡ true) (effects_of scope e)
  effects_fit zero e few is short h = absurd is
  effects_fit (suc depth) e few is short h =
      subst (AllByRecursion Fits) (sym (at_level (List Eff) (effects_from scope) e))
      (fits_of depth few (λ part. effects_fit depth part (omega (arith, few))) (out-Effect e) is (rw (at_level ℕ effect_size_from e) at short)
      (sym (at_level (List TypeFault) (effect_faults_from scope) e) ∙ h))
