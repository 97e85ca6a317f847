-- Sections are read by their keywords.
use Rattle.std.proofs.Common.{◌≡◌, List, Result}
use Rattle.np_lex.specs.declared.reading.Lexer.{Lexer}
use Rattle.np_lex.specs.declared.token.Place.{Place}
use Rattle.np_lex.specs.Lexers.{items_left, Leaves}
use Rattle.np_lex.specs.Tokens.{Item}
use Rattle.np_problem.specs.declared.problem.ProblemSection.{ProblemSection}
use Rattle.np_problem.specs.FactForm.{fact}
use Rattle.np_problem.specs.ProblemForm.{last_name, last_goal, from_metric, from_goal, from_init, from_objects, from_requirements, from_domain}
use Rattle.np_problem.proofs.Sections.{domain_word, objects_word, init_word, goal_word, goal_of, init_of, objects_of, requirements_of, domain_of, metric_nothing, goal_nothing, init_nothing, objects_nothing, requirements_nothing}
use Rattle.np_read.specs.declared.fault.ReadFault.{ReadFault}
use Rattle.np_read.specs.ItemAnswers.{Gives}
use Rattle.np_read.specs.ItemReaders.{Outcome, made, row}
use Rattle.np_read.specs.Takes.{TakesAt}
use Rattle.np_words.specs.declared.word.ListKind.TheVariants.{Names}
use Rattle.np_syntax.specs.DomainForm.{typed_list}
use Rattle.np_words.specs.ReadingForm.{requirement}
use Rattle.np_syntax.proofs.SectionLexing.{by_taken, by_left}
use Rattle.np_syntax.proofs.Sections.{requirements_word}

abbrev Given : List Item → Result ProblemSection ReadFault → Outcome ProblemSection → Type 0
Given rest r read = Gives (λ v. v) rest r read

module _ (old new : Lexer) (rest : List Item) (r : Result ProblemSection ReadFault) where
  pub goal_taken : (place : Place) → TakesAt old new goal_word place → Given rest r (made (goal_of place) last_goal (items_left new)) → Given rest r (from_goal (items_left old))
  unfolding from_goal
  goal_taken place takes gives = by_taken old new rest r goal_word goal_of last_goal from_metric place takes gives

  pub goal_left : Leaves old new (λ found. found ≡ goal_word) → Given rest r (from_metric (items_left new)) → Given rest r (from_goal (items_left old))
  unfolding from_goal
  goal_left leaves gives = by_left old new rest r goal_word goal_of last_goal from_metric metric_nothing leaves gives

  pub init_taken : (place : Place) → TakesAt old new init_word place → Given rest r (made (init_of place) (row fact) (items_left new)) → Given rest r (from_init (items_left old))
  unfolding from_init
  init_taken place takes gives = by_taken old new rest r init_word init_of (row fact) from_goal place takes gives

  pub init_left : Leaves old new (λ found. found ≡ init_word) → Given rest r (from_goal (items_left new)) → Given rest r (from_init (items_left old))
  unfolding from_init
  init_left leaves gives = by_left old new rest r init_word init_of (row fact) from_goal goal_nothing leaves gives

  pub objects_taken : (place : Place) → TakesAt old new objects_word place → Given rest r (made (objects_of place) (typed_list Names) (items_left new)) → Given rest r (from_objects (items_left old))
  unfolding from_objects
  objects_taken place takes gives = by_taken old new rest r objects_word objects_of (typed_list Names) from_init place takes gives

  pub objects_left : Leaves old new (λ found. found ≡ objects_word) → Given rest r (from_init (items_left new)) → Given rest r (from_objects (items_left old))
  unfolding from_objects
  objects_left leaves gives = by_left old new rest r objects_word objects_of (typed_list Names) from_init init_nothing leaves gives

  pub requirements_taken : (place : Place) → TakesAt old new requirements_word place → Given rest r (made (requirements_of place) (row requirement) (items_left new)) → Given rest r (from_requirements (items_left old))
  unfolding from_requirements
  requirements_taken place takes gives = by_taken old new rest r requirements_word requirements_of (row requirement) from_objects place takes gives

  pub requirements_left : Leaves old new (λ found. found ≡ requirements_word) → Given rest r (from_objects (items_left new)) → Given rest r (from_requirements (items_left old))
  unfolding from_requirements
  requirements_left leaves gives = by_left old new rest r requirements_word requirements_of (row requirement) from_objects objects_nothing leaves gives

  pub domain_taken : (place : Place) → TakesAt old new domain_word place → Given rest r (made (domain_of place) last_name (items_left new)) → Given rest r (from_domain (items_left old))
  unfolding from_domain
  domain_taken place takes gives = by_taken old new rest r domain_word domain_of last_name from_requirements place takes gives

  pub domain_left : Leaves old new (λ found. found ≡ domain_word) → Given rest r (from_requirements (items_left new)) → Given rest r (from_domain (items_left old))
  unfolding from_domain
  domain_left leaves gives = by_left old new rest r domain_word domain_of last_name from_requirements requirements_nothing leaves gives
