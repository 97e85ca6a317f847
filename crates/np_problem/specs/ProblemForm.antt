-- How problems are read.
use Rattle.std.specs.Prelude.{List, codes}
use Rattle.np_lex.specs.Tokens.{left, named}
use Rattle.np_problem.specs.declared.problem.Problem.{Problem}
use Rattle.np_problem.specs.declared.problem.ProblemSection.{ProblemSection}
use Rattle.np_problem.specs.declared.problem.ProblemSection.TheVariants as s
use Rattle.np_problem.specs.FactForm.{fact}
use Rattle.np_problem.specs.ProblemText.{goal_levels, metric_levels}
use Rattle.np_read.specs.ItemReaders.{Reader, expect, open_with, after, both, made, row}
use Rattle.np_read.specs.PlacedReaders.{place_if, placed, either_by}
use Rattle.np_conditions.specs.declared.condition.Condition.{Condition}
use Rattle.np_words.specs.declared.expr.Expr.{Expr}
use Rattle.np_words.specs.declared.word.ListKind.TheVariants.{Names}
use Rattle.np_words.specs.declared.word.Word.{Word}
use Rattle.np_conditions.specs.ConditionForm.{condition, closed}
use Rattle.np_syntax.specs.DomainForm.{typed_list}
use Rattle.np_words.specs.ExprForm.{expr}
use Rattle.np_words.specs.ReadingForm.{name, requirement}
use Rattle.np_words.specs.Text.{keyword_lexeme}

-- a name, a goal and a metric, each with the bracket after it
unfoldable pub last_name : Reader Word
last_name = closed name

unfoldable pub last_goal : Reader Condition
last_goal = closed (condition goal_levels)

unfoldable pub last_metric : Reader Expr
last_metric = after (expect (named (codes "minimize"))) (closed (expr metric_levels))

-- ---- the kinds of sections after the bracket, each with those that are tried after it

unfoldable pub from_metric : Reader ProblemSection
from_metric = made (λ x. s.Metric x.0 x.1) (both (placed (keyword_lexeme (codes "metric"))) last_metric)

unfoldable pub from_goal : Reader ProblemSection
from_goal = either_by (place_if (keyword_lexeme (codes "goal"))) (λ place. made (λ c. s.Goal place c) last_goal) from_metric

unfoldable pub from_init : Reader ProblemSection
from_init = either_by (place_if (keyword_lexeme (codes "init"))) (λ place. made (λ facts. s.Init place facts) (row fact)) from_goal

unfoldable pub from_objects : Reader ProblemSection
from_objects = either_by (place_if (keyword_lexeme (codes "objects"))) (λ place. made (λ gs. s.Objects place gs) (typed_list Names)) from_init

unfoldable pub from_requirements : Reader ProblemSection
from_requirements = either_by (place_if (keyword_lexeme (codes "requirements"))) (λ place. made (λ words. s.Requirements place words) (row requirement)) from_objects

unfoldable pub from_domain : Reader ProblemSection
from_domain = either_by (place_if (keyword_lexeme (codes "domain"))) (λ place. made (λ w. s.Domain place w) last_name) from_requirements

-- a section
unfoldable pub section : Reader ProblemSection
section = after (expect left) from_domain

-- what follows the brackets before a problem's name
unfoldable pub named_sections : Reader (Word × List ProblemSection)
named_sections = both last_name (row section)

-- (define (problem name) section ..)
unfoldable pub problem : Reader Problem
problem =
    made (λ x. record { name = x.1.0; sections = x.1.1; place = x.0 })
    (both (placed left) (after (expect (named (codes "define"))) (after (open_with (named (codes "problem"))) named_sections)))
