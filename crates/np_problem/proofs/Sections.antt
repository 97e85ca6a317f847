-- Sections are read as they are spelled, and keep the places of their words and numbers.
use Rattle.std.proofs.Common.{◌≡◌, ◌⊎◌, inl, inr, ℕ, false, List, [], ◌∷◌, refl, subst, codes}
use Rattle.std.specs.List.{All}
use Rattle.np_lex.specs.declared.token.Place.{Place}
use Rattle.np_lex.specs.Tokens.{Lexeme, left, right, named}
use Rattle.np_problem.specs.declared.problem.Fact.{Fact}
use Rattle.np_problem.specs.declared.problem.ProblemSection.{ProblemSection}
use Rattle.np_problem.specs.declared.problem.ProblemSection.TheVariants as s
use Rattle.np_problem.specs.FactForm.{fact}
use Rattle.np_problem.specs.FactText.{IsFact, bare_fact}
use Rattle.np_problem.specs.ProblemForm.{last_name, last_goal, last_metric, from_metric, from_goal, from_init, from_objects, from_requirements, from_domain, section}
use Rattle.np_problem.specs.ProblemText.{goal_levels, metric_levels, IsGoal, IsMetric, section_inside, IsSection, bare_section}
use Rattle.np_problem.specs.ProblemText as printed
use Rattle.np_problem.proofs.Facts.{starting_fact, reads_fact, fact_ends, placed_fact}
use Rattle.np_read.specs.Same.{same_lexeme}
use Rattle.np_read.specs.ItemReaders.{expect, both, row}
use Rattle.np_read.specs.PlacedReaders.{place_if, placed}
use Rattle.np_read.proofs.EachRows.{reads_each_row}
use Rattle.np_read.proofs.Good.{Good, Starting, good_of}
use Rattle.np_read.proofs.GoodParts.{starts_expect, starts_after, starts_both, starts_made, good_after, good_before, good_row}
use Rattle.np_read.proofs.Marked.{Placed, plain, placed_expect, placed_same, placed_both, placed_made, placed_after, placed_before, placed_row}
use Rattle.np_read.proofs.PlacedParts.{Refuses, MadeOf, IsAnyPlace, SamePlace, starts_placed, reads_placed, placed_placed, made_refuses, both_refuses, token_refuses, token_nothing, silent}
use Rattle.np_read.proofs.Spelled.{Reads, Avoids, Made, GoodPair, SamePair, reads_expect, reads_same, reads_both, reads_made, reads_after, reads_before}
use Rattle.np_conditions.specs.declared.condition.Condition.{Condition}
use Rattle.np_words.specs.declared.expr.Expr.{Expr}
use Rattle.np_words.specs.declared.word.Group.{Group}
use Rattle.np_words.specs.declared.word.ListKind.TheVariants.{Names}
use Rattle.np_words.specs.declared.word.Word.{Word}
use Rattle.np_words.specs.Bare.{nowhere, bare_word}
use Rattle.np_conditions.specs.ConditionForm.{condition, closed}
use Rattle.np_conditions.specs.ConditionText as condition_text
use Rattle.np_syntax.specs.DomainForm.{typed_list}
use Rattle.np_words.specs.ExprForm.{expr}
use Rattle.np_words.specs.ExprText as expr_text
use Rattle.np_words.specs.ReadingForm.{name, requirement}
use Rattle.np_words.specs.Text.{spelled, marked, keyword_lexeme}
use Rattle.np_words.specs.Text as text
use Rattle.np_words.specs.Written.{IsWord, IsName, AreGroups}
use Rattle.np_conditions.proofs.ConditionPlaced.{placed_condition}
use Rattle.np_conditions.proofs.ConditionReads.{SameCondition, reads_condition}
use Rattle.np_conditions.proofs.ConditionStarts.{starting_condition}
use Rattle.np_syntax.proofs.Declarations.{after_left_avoids}
use Rattle.np_words.proofs.ExprPlaced.{placed_expr}
use Rattle.np_words.proofs.ExprReads.{SameExpr, reads_expr}
use Rattle.np_words.proofs.ExprStarts.{closes, starting_expr}
use Rattle.np_words.proofs.ReadingWords.{SameWord, starting_name, reads_name, placed_name, starting_requirement, reads_requirement, placed_requirement, requirement_avoids}
use Rattle.np_syntax.proofs.Sections.{requirements_word, other_place, starts_by_place, by_place_avoids, by_place_nothing, reads_by_place, placed_by_place}
use Rattle.np_syntax.proofs.TypedLists.{good_typed_list, reads_typed_list, placed_typed_list}

-- ---- keywords, and how sections are made

abbrev pub domain_word : Lexeme
domain_word = keyword_lexeme (codes "domain")

abbrev pub objects_word : Lexeme
objects_word = keyword_lexeme (codes "objects")

abbrev pub init_word : Lexeme
init_word = keyword_lexeme (codes "init")

abbrev pub goal_word : Lexeme
goal_word = keyword_lexeme (codes "goal")

abbrev pub metric_word : Lexeme
metric_word = keyword_lexeme (codes "metric")

abbrev pub minimize : Lexeme
minimize = named (codes "minimize")

abbrev metric_of : Place × Expr → ProblemSection
metric_of x = s.Metric x.0 x.1

abbrev pub goal_of : Place → Condition → ProblemSection
goal_of place c = s.Goal place c

abbrev pub init_of : Place → List Fact → ProblemSection
init_of place facts = s.Init place facts

abbrev pub objects_of : Place → List Group → ProblemSection
objects_of place gs = s.Objects place gs

abbrev pub requirements_of : Place → List Word → ProblemSection
requirements_of place words = s.Requirements place words

abbrev pub domain_of : Place → Word → ProblemSection
domain_of place w = s.Domain place w

-- ---- which sections are read

abbrev FromMetric : ProblemSection → Type 0
FromMetric = Made metric_of (GoodPair IsAnyPlace IsMetric)

abbrev FromGoal : ProblemSection → Type 0
FromGoal v = MadeOf goal_of IsAnyPlace IsGoal v ⊎ FromMetric v

abbrev FromInit : ProblemSection → Type 0
FromInit v = MadeOf init_of IsAnyPlace (All IsFact) v ⊎ FromGoal v

abbrev FromObjects : ProblemSection → Type 0
FromObjects v = MadeOf objects_of IsAnyPlace (AreGroups Names) v ⊎ FromInit v

abbrev FromRequirements : ProblemSection → Type 0
FromRequirements v = MadeOf requirements_of IsAnyPlace (All IsWord) v ⊎ FromObjects v

abbrev FromDomain : ProblemSection → Type 0
FromDomain v = MadeOf domain_of IsAnyPlace IsName v ⊎ FromRequirements v

section_is : (v : ProblemSection) → FromDomain v → IsSection v
section_is v (inl h) = subst IsSection h.2 h.4
section_is v (inr (inl h)) = subst IsSection h.2 h.4
section_is v (inr (inr (inl h))) = subst IsSection h.2 h.4
section_is v (inr (inr (inr (inl h)))) = subst IsSection h.2 h.4
section_is v (inr (inr (inr (inr (inl h))))) = subst IsSection h.2 h.4
section_is v (inr (inr (inr (inr (inr h))))) = subst IsSection h.1 h.2.1

is_section : (v : ProblemSection) → IsSection v → FromDomain v
is_section (s.Domain place w) h = inl (place, w, refl, tt, h)
is_section (s.Requirements place words) h = inr (inl (place, words, refl, tt, h))
is_section (s.Objects place gs) h = inr (inr (inl (place, gs, refl, tt, h)))
is_section (s.Init place facts) h = inr (inr (inr (inl (place, facts, refl, tt, h))))
is_section (s.Goal place c) h = inr (inr (inr (inr (inl (place, c, refl, tt, h)))))
is_section (s.Metric place v) h = inr (inr (inr (inr (inr ((place, v), refl, (tt, h))))))

-- ---- the readers go by the next item, are good, and refuse what begins otherwise

pub good_name : (k : ℕ) → Good k last_name
unfolding last_name
good_name k = good_before k name (expect right) (good_of k name (starting_name k)) (closes k)

good_goal : (k : ℕ) → Good k last_goal
unfolding last_goal
good_goal k = good_before k (condition goal_levels) (expect right) (good_of k (condition goal_levels) (starting_condition goal_levels k)) (closes k)

good_metric : (k : ℕ) → Good k last_metric
unfolding last_metric
good_metric k =
    good_after k (expect minimize) (closed (expr metric_levels)) (good_of k (expect minimize) (starts_expect k minimize))
    (good_before k (expr metric_levels) (expect right) (good_of k (expr metric_levels) (starting_expr metric_levels k)) (closes k))

starting_from_metric : Starting from_metric
unfolding from_metric
starting_from_metric k = starts_made k metric_of (both (placed metric_word) last_metric) (starts_both k (placed metric_word) last_metric (starts_placed k metric_word) (good_metric k))

pub metric_nothing : Refuses from_metric []
unfolding from_metric
metric_nothing = made_refuses metric_of (both (placed metric_word) last_metric) [] (both_refuses (placed metric_word) last_metric [] (token_nothing (place_if metric_word)))

metric_avoids : (other : Lexeme) → same_lexeme other metric_word ≡ false → Avoids other from_metric
unfolding from_metric
metric_avoids other d item items is =
    made_refuses metric_of (both (placed metric_word) last_metric) (item ∷ items)
    (both_refuses (placed metric_word) last_metric (item ∷ items) (token_refuses (place_if metric_word) item items (silent (place_if metric_word) item other is (other_place other metric_word d item.place))))

starting_from_goal : Starting from_goal
unfolding from_goal
starting_from_goal k = starts_by_place goal_word goal_of last_goal from_metric k (good_goal k) (starting_from_metric k)

pub goal_nothing : Refuses from_goal []
unfolding from_goal
goal_nothing = by_place_nothing goal_word goal_of last_goal from_metric

goal_avoids : (other : Lexeme) → same_lexeme other goal_word ≡ false → same_lexeme other metric_word ≡ false → Avoids other from_goal
unfolding from_goal
goal_avoids other d metric = by_place_avoids goal_word goal_of last_goal from_metric other d (metric_avoids other metric)

starting_from_init : Starting from_init
unfolding from_init
starting_from_init k = starts_by_place init_word init_of (row fact) from_goal k (good_row fact starting_fact k) (starting_from_goal k)

pub init_nothing : Refuses from_init []
unfolding from_init
init_nothing = by_place_nothing init_word init_of (row fact) from_goal

init_avoids : (other : Lexeme) → same_lexeme other init_word ≡ false → same_lexeme other goal_word ≡ false → same_lexeme other metric_word ≡ false → Avoids other from_init
unfolding from_init
init_avoids other d goal metric = by_place_avoids init_word init_of (row fact) from_goal other d (goal_avoids other goal metric)

starting_from_objects : Starting from_objects
unfolding from_objects
starting_from_objects k = starts_by_place objects_word objects_of (typed_list Names) from_init k (good_typed_list Names k) (starting_from_init k)

pub objects_nothing : Refuses from_objects []
unfolding from_objects
objects_nothing = by_place_nothing objects_word objects_of (typed_list Names) from_init

objects_avoids : (other : Lexeme) → same_lexeme other objects_word ≡ false → same_lexeme other init_word ≡ false → same_lexeme other goal_word ≡ false → same_lexeme other metric_word ≡ false → Avoids other from_objects
unfolding from_objects
objects_avoids other d init goal metric = by_place_avoids objects_word objects_of (typed_list Names) from_init other d (init_avoids other init goal metric)

starting_from_requirements : Starting from_requirements
unfolding from_requirements
starting_from_requirements k = starts_by_place requirements_word requirements_of (row requirement) from_objects k (good_row requirement starting_requirement k) (starting_from_objects k)

pub requirements_nothing : Refuses from_requirements []
unfolding from_requirements
requirements_nothing = by_place_nothing requirements_word requirements_of (row requirement) from_objects

requirements_avoids : (other : Lexeme) → same_lexeme other requirements_word ≡ false → same_lexeme other objects_word ≡ false → same_lexeme other init_word ≡ false → same_lexeme other goal_word ≡ false → same_lexeme other metric_word ≡ false → Avoids other from_requirements
unfolding from_requirements
requirements_avoids other d objects init goal metric = by_place_avoids requirements_word requirements_of (row requirement) from_objects other d (objects_avoids other objects init goal metric)

starting_from_domain : Starting from_domain
unfolding from_domain
starting_from_domain k = starts_by_place domain_word domain_of last_name from_requirements k (good_name k) (starting_from_requirements k)

pub starting_section : Starting section
unfolding section
starting_section k = starts_after k (expect left) from_domain (starts_expect k left) (good_of k from_domain (starting_from_domain k))

pub section_ends : Avoids right section
unfolding section
section_ends = after_left_avoids from_domain right refl

-- ---- read as they are spelled

-- the same but for places
abbrev pub SameSection : ProblemSection → ProblemSection → Type 0
SameSection a b = bare_section a ≡ bare_section b

pub reads_last_name : Reads IsName (λ (w : Word) ls. text.name spelled w (right ∷ ls)) SameWord last_name
unfolding last_name
reads_last_name = reads_before reads_name (reads_expect right)

reads_last_goal : Reads IsGoal (λ (c : Condition) ls. condition_text.condition spelled c (right ∷ ls)) SameCondition last_goal
unfolding last_goal IsGoal
reads_last_goal = reads_before (reads_condition goal_levels) (reads_expect right)

reads_last_metric : Reads IsMetric (λ (v : Expr) ls. minimize ∷ expr_text.expr spelled v (right ∷ ls)) SameExpr last_metric
unfolding last_metric IsMetric
reads_last_metric = reads_after (reads_expect minimize) (reads_before (reads_expr metric_levels) (reads_expect right))

same_metric : (x y : Place × Expr) → SamePair SamePlace SameExpr x y → SameSection (metric_of x) (metric_of y)
same_metric x y h = λ i. s.Metric nowhere (h.1 i)

reads_from_metric : Reads FromMetric (section_inside spelled) SameSection from_metric
unfolding from_metric
reads_from_metric = reads_made metric_of (section_inside spelled) SameSection (λ x ls. refl) same_metric (reads_both (reads_placed metric_word) reads_last_metric)

reads_from_goal : Reads FromGoal (section_inside spelled) SameSection from_goal
unfolding from_goal
reads_from_goal =
    reads_by_place goal_word goal_of last_goal from_metric (λ place c ls. refl) (λ p q x y h. λ i. s.Goal nowhere (h i)) reads_last_goal
    reads_from_metric metric_nothing (metric_avoids goal_word refl)

reads_from_init : Reads FromInit (section_inside spelled) SameSection from_init
unfolding from_init
reads_from_init =
    reads_by_place init_word init_of (row fact) from_goal (λ place facts ls. refl) (λ p q x y h. λ i. s.Init nowhere (h i)) (reads_each_row bare_fact starting_fact reads_fact fact_ends)
    reads_from_goal goal_nothing (goal_avoids init_word refl refl)

reads_from_objects : Reads FromObjects (section_inside spelled) SameSection from_objects
unfolding from_objects
reads_from_objects =
    reads_by_place objects_word objects_of (typed_list Names) from_init (λ place gs ls. refl) (λ p q x y h. λ i. s.Objects nowhere (h i)) (reads_typed_list Names)
    reads_from_init init_nothing (init_avoids objects_word refl refl refl)

reads_from_requirements : Reads FromRequirements (section_inside spelled) SameSection from_requirements
unfolding from_requirements
reads_from_requirements =
    reads_by_place requirements_word requirements_of (row requirement) from_objects (λ place words ls. refl) (λ p q x y h. λ i. s.Requirements nowhere (h i)) (reads_each_row bare_word starting_requirement reads_requirement (requirement_avoids right (λ place. refl)))
    reads_from_objects objects_nothing (objects_avoids requirements_word refl refl refl refl)

reads_from_domain : Reads FromDomain (section_inside spelled) SameSection from_domain
unfolding from_domain
reads_from_domain =
    reads_by_place domain_word domain_of last_name from_requirements (λ place w ls. refl) (λ p q x y h. λ i. s.Domain nowhere (h i)) reads_last_name
    reads_from_requirements requirements_nothing (requirements_avoids domain_word refl refl refl refl refl)

pub reads_section : Reads IsSection (printed.section spelled) SameSection section
unfolding section
reads_section = reads_same IsSection section_is is_section (reads_after (reads_expect left) reads_from_domain)

-- ---- at their places

pub placed_last_name : Placed IsName (λ (w : Word) ms. text.name marked w (plain right ∷ ms)) last_name
unfolding last_name
placed_last_name = placed_before placed_name (placed_expect right)

placed_last_goal : Placed IsGoal (λ (c : Condition) ms. condition_text.condition marked c (plain right ∷ ms)) last_goal
unfolding last_goal IsGoal
placed_last_goal = placed_before (placed_condition goal_levels) (placed_expect right)

placed_last_metric : Placed IsMetric (λ (v : Expr) ms. plain minimize ∷ expr_text.expr marked v (plain right ∷ ms)) last_metric
unfolding last_metric IsMetric
placed_last_metric = placed_after (placed_expect minimize) (placed_before (placed_expr metric_levels) (placed_expect right))

placed_from_metric : Placed FromMetric (section_inside marked) from_metric
unfolding from_metric
placed_from_metric = placed_made metric_of (section_inside marked) (λ x ms. refl) (placed_both (placed_placed metric_word) placed_last_metric)

placed_from_goal : Placed FromGoal (section_inside marked) from_goal
unfolding from_goal
placed_from_goal = placed_by_place goal_word goal_of last_goal from_metric (λ place c ms. refl) placed_last_goal placed_from_metric

placed_from_init : Placed FromInit (section_inside marked) from_init
unfolding from_init
placed_from_init = placed_by_place init_word init_of (row fact) from_goal (λ place facts ms. refl) (placed_row placed_fact) placed_from_goal

placed_from_objects : Placed FromObjects (section_inside marked) from_objects
unfolding from_objects
placed_from_objects = placed_by_place objects_word objects_of (typed_list Names) from_init (λ place gs ms. refl) (placed_typed_list Names) placed_from_init

placed_from_requirements : Placed FromRequirements (section_inside marked) from_requirements
unfolding from_requirements
placed_from_requirements = placed_by_place requirements_word requirements_of (row requirement) from_objects (λ place words ms. refl) (placed_row placed_requirement) placed_from_objects

placed_from_domain : Placed FromDomain (section_inside marked) from_domain
unfolding from_domain
placed_from_domain = placed_by_place domain_word domain_of last_name from_requirements (λ place w ms. refl) placed_last_name placed_from_requirements

pub placed_section : Placed IsSection (printed.section marked) section
unfolding section
placed_section = placed_same IsSection section_is (placed_after (placed_expect left) placed_from_domain)
