-- The levels of brackets that actions, goals and metrics have.
use Rattle.std.proofs.Common.{◌≡◌, ℕ, suc, ◌^◌, ◌<◌, ◌≤◌, true, false, List, [], arith}
use Rattle.std.specs.List.{AllByRecursion}
use Rattle.np_model.specs.declared.task.TaskParts.{TaskParts}
use Rattle.np_model.specs.Tasks.{is_sum, is_condition, is_effect}
use Rattle.np_conditions.specs.declared.condition.Condition.{Condition}
use Rattle.np_conditions.specs.declared.effect.Effect.{Effect}
use Rattle.np_words.specs.declared.expr.Expr.{Expr}
use Rattle.np_syntax.specs.ActionForm.{depth}
use Rattle.np_syntax.specs.Domains.{IsActionCondition, IsActionEffect}
use Rattle.np_problem.specs.ProblemText.{goal_levels, metric_levels, IsGoal, IsMetric}
use Rattle.np_typing.specs.Scopes.{Scope}
use Rattle.np_typing.specs.Uses.{expr_faults, condition_faults, effect_faults}
use Rattle.np_typing.specs.Resolved.{sum_of, conditions_of, effects_of}
use Rattle.np_typing.proofs.keeping.DeclaredSizes.{expr_size, condition_size, effect_size}
use Rattle.np_typing.proofs.keeping.UsedSymbols.{Agrees}
use Rattle.np_typing.proofs.keeping.UsedExpressions.{sum_fits}
use Rattle.np_typing.proofs.keeping.UsedConditions.{conditions_fit}
use Rattle.np_typing.proofs.keeping.UsedEffects.{effects_fit}

few_levels : suc depth ≤ 256
unfolding depth
few_levels = omega arith

few_goal_levels : suc goal_levels ≤ 256
unfolding goal_levels
few_goal_levels = omega arith

few_metric_levels : metric_levels ≤ 256
unfolding metric_levels
few_metric_levels = omega arith

module _ (scope : Scope) (task : TaskParts) (parameters : List ℕ) (agrees : Agrees scope task parameters) where
  pub metric_fits : (v : Expr) → IsMetric v → expr_size v < 2 ^ 32 → expr_faults scope false v ≡ [] → is_sum task parameters (sum_of scope v) ≡ true
  unfolding IsMetric
  metric_fits v is short h = sum_fits scope task parameters agrees false metric_levels v few_metric_levels is short h

  pub goal_fits : (c : Condition) → IsGoal c → condition_size c < 2 ^ 32 → condition_faults scope c ≡ []
      → AllByRecursion (λ x. is_condition task parameters x ≡ true) (conditions_of scope c)
  unfolding IsGoal
  goal_fits c is short h = conditions_fit scope task parameters agrees (suc goal_levels) c few_goal_levels is short h

  pub action_conditions_fit : (c : Condition) → IsActionCondition c → condition_size c < 2 ^ 32 → condition_faults scope c ≡ []
      → AllByRecursion (λ x. is_condition task parameters x ≡ true) (conditions_of scope c)
  unfolding IsActionCondition
  action_conditions_fit c is short h = conditions_fit scope task parameters agrees (suc depth) c few_levels is short h

  pub action_effects_fit : (e : Effect) → IsActionEffect e → effect_size e < 2 ^ 32 → effect_faults scope e ≡ []
      → AllByRecursion (λ x. is_effect task parameters x ≡ true) (effects_of scope e)
  unfolding IsActionEffect
  action_effects_fit e is short h = effects_fit scope task parameters agrees (suc depth) e few_levels is short h
