-- Problems: their text, which of them have one, and what they are without places.
use Rattle.std.specs.Prelude.{ℕ, suc, List, [], ◌∷◌, map, All, codes}
use Rattle.np_lex.specs.declared.token.Place.{Place}
use Rattle.np_lex.specs.Tokens.{Lexeme}
use Rattle.np_problem.specs.declared.problem.Problem.{Problem}
use Rattle.np_problem.specs.declared.problem.ProblemSection.{ProblemSection}
use Rattle.np_problem.specs.declared.problem.ProblemSection.TheVariants as s
use Rattle.np_problem.specs.FactText.{fact, IsFact, bare_fact}
use Rattle.np_read.specs.Marks.{each}
use Rattle.np_conditions.specs.declared.condition.Condition.{Condition}
use Rattle.np_words.specs.declared.expr.Expr.{Expr}
use Rattle.np_words.specs.declared.word.ListKind.TheVariants.{Names}
use Rattle.np_words.specs.Bare.{nowhere, bare_word, bare_groups}
use Rattle.np_conditions.specs.ConditionText.{condition, IsCondition, bare_condition}
use Rattle.np_words.specs.ExprText.{left_at, expr, IsExpr, bare_expr}
use Rattle.np_words.specs.Text.{Printer, left, right, fixed_name, keyword_at, name, requirement, groups}
use Rattle.np_words.specs.Written.{IsWord, IsName, AreGroups}

-- ---- the text

module _ {T : Type 0} (token : List Place → Lexeme → T) where
  -- a section after its bracket
  abbrev pub section_inside : ProblemSection → Printer T
  section_inside (s.Domain place w) rest = keyword_at token place (codes "domain") (name token w (right token rest))
  section_inside (s.Requirements place words) rest = keyword_at token place (codes "requirements") (each (requirement token) words (right token rest))
  section_inside (s.Objects place gs) rest = keyword_at token place (codes "objects") (groups token Names gs rest)
  section_inside (s.Init place facts) rest = keyword_at token place (codes "init") (each (fact token) facts (right token rest))
  section_inside (s.Goal place c) rest = keyword_at token place (codes "goal") (condition token c (right token rest))
  section_inside (s.Metric place v) rest = keyword_at token place (codes "metric") (fixed_name token (codes "minimize") (expr token v (right token rest)))

  abbrev pub section : ProblemSection → Printer T
  section v rest = left token (section_inside v rest)

  -- (define (problem name) section ..): the place that a problem keeps is that of its first token
  abbrev pub problem : Problem → Printer T
  problem p rest =
      left_at token (p.place ∷ []) (fixed_name token (codes "define") (left token (fixed_name token (codes "problem") (name token p.name (right token (each section p.sections (right token rest)))))))

-- ---- which have a text

-- brackets nest at most 256 deep over a whole text, and that of the goal's condition is the third level: 253 more may be opened
-- inside it
unfoldable pub goal_levels : ℕ
goal_levels = 253

-- the first bracket of the metric's expression is the third level too: 254 may be opened, that one counted
unfoldable pub metric_levels : ℕ
metric_levels = 254

unfoldable pub IsGoal : Condition → Type 0
IsGoal = IsCondition (suc goal_levels)

unfoldable pub IsMetric : Expr → Type 0
IsMetric = IsExpr metric_levels

abbrev pub IsSection : ProblemSection → Type 0
IsSection (s.Domain place w) = IsName w
IsSection (s.Requirements place words) = All IsWord words
IsSection (s.Objects place gs) = AreGroups Names gs
IsSection (s.Init place facts) = All IsFact facts
IsSection (s.Goal place c) = IsGoal c
IsSection (s.Metric place v) = IsMetric v

-- a problem that has a text, where numbers may have any number of digits
abbrev pub IsProblem : Problem → Type 0
IsProblem p = IsName p.name × All IsSection p.sections

-- ---- the same without places

abbrev pub bare_section : ProblemSection → ProblemSection
bare_section (s.Domain place w) = s.Domain nowhere (bare_word w)
bare_section (s.Requirements place words) = s.Requirements nowhere (map bare_word words)
bare_section (s.Objects place gs) = s.Objects nowhere (bare_groups gs)
bare_section (s.Init place facts) = s.Init nowhere (map bare_fact facts)
bare_section (s.Goal place c) = s.Goal nowhere (bare_condition c)
bare_section (s.Metric place v) = s.Metric nowhere (bare_expr v)

abbrev pub bare_problem : Problem → Problem
bare_problem p = record { name = bare_word p.name; sections = map bare_section p.sections; place = nowhere }
