-- Conditions without faults stand for ones that the task allows.
use Rattle.std.proofs.Common.{◌≡◌, ℕ, zero, suc, ◌+◌, ◌^◌, ◌<◌, ◌≤◌, Bool, true, false, List, [], ◌∷◌, ◌++◌, map, flat_map, is_some, Option, None, Some, if◌then◌else◌, refl, sym, subst, ap, ◌∙◌, arith, true≢false}
use Rattle.std.specs.List.{AllByRecursion}
use Rattle.std.proofs.lemmas.Bool.{and_from, or_parts}
use Rattle.std.proofs.lemmas.List.Elements.{recursion_from_All}
use Rattle.np_lex.specs.declared.token.Place.{Place}
use Rattle.np_model.specs.declared.task.Cond.{Cond}
use Rattle.np_model.specs.declared.task.Cond.TheVariants as cond
use Rattle.np_model.specs.declared.task.Op.TheVariants as op
use Rattle.np_model.specs.declared.task.TaskParts.{TaskParts}
use Rattle.np_model.specs.Tasks.{is_sum, is_condition, type_of_ref}
use Rattle.np_words.specs.declared.word.Word.{Word}
use Rattle.np_words.specs.declared.word.Ident.TheVariants as ident
use Rattle.np_words.specs.declared.expr.Expr.{Expr, out-Expr}
use Rattle.np_conditions.specs.declared.condition.Side.{Side}
use Rattle.np_conditions.specs.declared.condition.Side.TheVariants as side
use Rattle.np_conditions.specs.declared.condition.Condition.{Condition, out-Condition}
use Rattle.np_conditions.specs.declared.condition.Condition.TheFolds.{fold-Condition, fold-roll-Condition, map-Condition}
use Rattle.np_conditions.specs.declared.condition.Condition.TheOpen.{Condition-F}
use Rattle.np_conditions.specs.declared.condition.Condition.TheViews.{roll-out-Condition}
use Rattle.np_conditions.specs.ConditionText.{IsSide, InBracket, IsConditionOf, IsCondition}
use Rattle.np_words.specs.ExprText.{IsExpr}
use Rattle.np_names.specs.declared.fault.TypeFault.{TypeFault}
use Rattle.np_typing.specs.Scopes.{Scope}
use Rattle.np_typing.specs.Uses.{bare_word_of, expr_faults, says_object, is_of_objects, word_side_faults, object_side_faults, object_faults, number_side_faults, equality_faults, condition_faults_from, condition_faults}
use Rattle.np_typing.specs.Resolved.{sum_of, word_ref, side_ref, side_sum, equality_of, conditions_from, conditions_of}
use Rattle.np_typing.proofs.keeping.DeclaredSizes.{total, expr_size, side_size, condition_size_from, condition_size}
use Rattle.np_typing.proofs.keeping.UsedLists.{not_none, both_none, each_append}
use Rattle.np_typing.proofs.keeping.UsedSymbols.{Agrees, predicate_fits, object_known}
use Rattle.np_typing.proofs.keeping.UsedExpressions.{sum_fits}

at_level : (A : Type 0) (f : Condition-F A → A) (c : Condition) → fold-Condition A f c ≡ f (map-Condition Condition A (fold-Condition A f) (out-Condition c))
at_level A f c = ap (fold-Condition A f) (sym (roll-out-Condition c)) ∙ fold-roll-Condition A f (out-Condition c)

-- what a bracket encloses
opened : (P : ℕ → Type 0) (depth : ℕ) → InBracket P depth → (d : ℕ) × (suc d ≡ depth) × P d
opened P zero h = absurd h
opened P (suc d) h = (d, refl, h)

module _ (scope : Scope) (task : TaskParts) (parameters : List ℕ) (agrees : Agrees scope task parameters) where
  abbrev Fits : Cond → Type 0
  Fits c = is_condition task parameters c ≡ true

  abbrev faults : Condition → List TypeFault
  faults = condition_faults scope

  -- ---- comparisons and equalities

  comparison_fits : (depth : ℕ) (a b : Expr) → depth ≤ 256 → IsExpr depth a × IsExpr depth b → suc (expr_size a + expr_size b) < 2 ^ 32
      → expr_faults scope false a ++ expr_faults scope false b ≡ []
      → (is_sum task parameters (sum_of scope a) ≡ true) × (is_sum task parameters (sum_of scope b) ≡ true)
  comparison_fits depth a b few is short h =
      let p = both_none (expr_faults scope false a) (expr_faults scope false b) h in
      (sum_fits scope task parameters agrees false depth a few is.0 (omega (arith, short)) p.0, sum_fits scope task parameters agrees false depth b few is.1 (omega (arith, short)) p.1)

  side_fits : (depth : ℕ) (s : Side) → depth ≤ 256 → IsSide depth s → side_size s < 2 ^ 32 → says_object scope s ≡ false → number_side_faults scope s ≡ []
      → is_sum task parameters (side_sum scope s) ≡ true
  side_fits depth (side.Expr v place) few is short other h = sum_fits scope task parameters agrees false depth v few is short h
  side_fits depth (side.Variable w) few is short other h = absurd (true≢false other)

  word_known : (place : Place) (o : Option Word) → word_side_faults scope place o ≡ [] → is_some (type_of_ref task parameters (word_ref scope o)) ≡ true
  word_known place None h = absurd (not_none _ _ h)
  word_known place (Some w) h = object_known scope task parameters agrees (ident.Name w) h

  side_known : (s : Side) → object_side_faults scope s ≡ [] → is_some (type_of_ref task parameters (side_ref scope s)) ≡ true
  side_known (side.Expr v place) h = word_known place (bare_word_of (out-Expr v)) h
  side_known (side.Variable w) h = object_known scope task parameters agrees (ident.Variable w) h

  equality_fits : (depth : ℕ) (l r : Side) → depth ≤ 256 → IsSide depth l × IsSide depth r → suc (side_size l + side_size r) < 2 ^ 32 → equality_faults scope l r ≡ []
      → Fits (equality_of scope l r)
  equality_fits depth l r few is short h = by (is_of_objects scope l r) refl h
    where
      by : (b : Bool) → is_of_objects scope l r ≡ b
          → (if b then object_side_faults scope l ++ object_side_faults scope r else number_side_faults scope l ++ number_side_faults scope r) ≡ []
          → Fits (if b then cond.Same true (side_ref scope l) (side_ref scope r) else cond.Compare op.Equal (side_sum scope l) (side_sum scope r))
      by true e g =
          let p = both_none (object_side_faults scope l) (object_side_faults scope r) g in
          and_from _ _ (side_known l p.0) (side_known r p.1)
      by false e g =
          let p = both_none (number_side_faults scope l) (number_side_faults scope r) g in
          let neither = or_parts (says_object scope l) (says_object scope r) e in
          and_from _ _ (side_fits depth l few is.0 (omega (arith, short)) neither.0 p.0) (side_fits depth r few is.1 (omega (arith, short)) neither.1 p.1)

  -- ---- conditions

  -- what is shown of the conditions in which brackets nest at most so deep
  abbrev AreFit : ℕ → Type 0
  AreFit depth = (c : Condition) → IsCondition depth c → condition_size c < 2 ^ 32 → faults c ≡ [] → AllByRecursion Fits (conditions_of scope c)

  module _ (depth : ℕ) (few : suc depth ≤ 256) (fit_part : AreFit depth) where
    row_fits : (parts : List Condition) → AllByRecursion (IsCondition depth) parts → total (λ n. n) (map condition_size parts) < 2 ^ 32 → flat_map (λ part. part) (map faults parts) ≡ []
        → AllByRecursion Fits (flat_map (λ part. part) (map (conditions_of scope) parts))
    row_fits [] is short h = tt
    row_fits (c ∷ parts) is short h =
        let p = both_none (faults c) (flat_map (λ part. part) (map faults parts)) h in
        each_append Fits (conditions_of scope c) _ (fit_part c is.0 (omega (arith, short)) p.0) (row_fits parts is.1 (omega (arith, short)) p.1)

    fits_of : (x : Condition-F Condition) → IsConditionOf depth (IsCondition depth) x → condition_size_from (map-Condition Condition ℕ condition_size x) < 2 ^ 32
        → condition_faults_from scope (map-Condition Condition (List TypeFault) faults x) ≡ []
        → AllByRecursion Fits (conditions_from scope (map-Condition Condition (List Cond) (conditions_of scope) x))
    fits_of Condition-F.Nothing is short h = tt
    fits_of (Condition-F.And parts) is short h = row_fits parts (recursion_from_All (IsCondition depth) parts is) (omega (arith, short)) h
    fits_of (Condition-F.Atom w idents) is short h = (predicate_fits scope task parameters agrees w idents h, tt)
    fits_of (Condition-F.NotAtom w idents) is short h = (predicate_fits scope task parameters agrees w idents h, tt)
    fits_of (Condition-F.Compare o a b) is short h = let two = comparison_fits depth a b (omega (arith, few)) is short h in (and_from _ _ two.0 two.1, tt)
    fits_of (Condition-F.NotCompare o a b) is short h =
        let d = opened (λ n. IsExpr n a × IsExpr n b) depth is in
        let less = d.1 in
        let two = comparison_fits d.0 a b (omega (arith, few, less)) d.2 short h in
        (and_from _ _ two.0 two.1, tt)
    fits_of (Condition-F.Equal l r) is short h = (equality_fits depth l r (omega (arith, few)) is short h, tt)
    fits_of (Condition-F.NotSame i j) is short h =
        let p = both_none (object_faults scope i) (object_faults scope j) h in
        (and_from _ _ (object_known scope task parameters agrees i p.0) (object_known scope task parameters agrees j p.1), tt)

  pub conditions_fit : (depth : ℕ) (c : Condition) → depth ≤ 256 → IsCondition depth c → condition_size c < 2 ^ 32 → condition_faults scope c ≡ []
      → AllByRecursion (λ x. is_condition task parameters x ≡ true) (conditions_of scope c)
  conditions_fit zero c few is short h = absurd is
  conditions_fit (suc depth) c few is short h =
      subst (AllByRecursion Fits) (sym (at_level (List Cond) (conditions_from scope) c))
      (fits_of depth few (λ part. conditions_fit depth part (omega (arith, few))) (out-Condition c) is (rw (at_level ℕ condition_size_from c) at short)
      (sym (at_level (List TypeFault) (condition_faults_from scope) c) ∙ h))
