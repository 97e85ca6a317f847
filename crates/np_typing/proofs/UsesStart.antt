-- What the sections of a problem say, with one more section.
use Rattle.std.proofs.Common.{◌≡◌, List, [], ◌∷◌, ◌++◌, None, Some, refl, sym, ap, subst, ◌∙◌}
use Rattle.std.specs.List.{flat_map}
use Rattle.std.proofs.lemmas.List.{append-nil}
use Rattle.std.proofs.lemmas.List.Concat.{flat_map-append}
use Rattle.std.proofs.lemmas.List.Sums.{fold-append}
use Rattle.np_lex.specs.declared.token.Place.{Place}
use Rattle.np_conditions.specs.declared.condition.Condition.{Condition}
use Rattle.np_words.specs.declared.expr.Expr.{Expr}
use Rattle.np_problem.specs.declared.problem.Fact.{Fact}
use Rattle.np_problem.specs.declared.problem.ProblemSection.{ProblemSection}
use Rattle.np_problem.specs.declared.problem.ProblemSection.TheVariants as p
use Rattle.np_typing.specs.declared.uses.start.Start.{Start}
use Rattle.np_typing.specs.Scopes.{Scope}
use Rattle.np_typing.specs.Resolved.{sum_of, conditions_of}
use Rattle.np_typing.specs.TaskOf.{section_facts, section_goals, metric_with}
use Rattle.np_typing.specs.LookUps.{HasFacts, HasStart}

-- what each gives, with one more
one : {A B : Type 0} (f : A → List B) (before : List A) (s : A) → flat_map f (before ++ s ∷ []) ≡ flat_map f before ++ f s
one f before s = flat_map-append f before (s ∷ []) ∙ ap (λ ys. flat_map f before ++ ys) (append-nil (f s))

module _ (scope : Scope) where
  start_more : (before : List ProblemSection) (s : ProblemSection) (old new : Start) → HasStart scope before old
      → HasFacts scope (flat_map section_facts before ++ section_facts s) new.facts
      → new.goal ≡ old.goal ++ flat_map (conditions_of scope) (section_goals s) → new.metric ≡ metric_with scope old.metric s
      → HasStart scope (before ++ s ∷ []) new
  start_more before s old new h facts goal metric = record {
    facts = subst (λ fs. HasFacts scope fs new.facts) (sym (one section_facts before s)) facts;
    goal = goal ∙ ap (λ cs. cs ++ flat_map (conditions_of scope) (section_goals s)) h.goal
        ∙ sym (flat_map-append (conditions_of scope) (flat_map section_goals before) (section_goals s))
        ∙ ap (flat_map (conditions_of scope)) (sym (one section_goals before s));
    metric = metric ∙ ap (λ m. metric_with scope m s) h.metric ∙ sym (fold-append (metric_with scope) None before (s ∷ []));
  }

  -- the facts stay
  same_facts : (before : List ProblemSection) (old new : Start) → HasStart scope before old → new.facts ≡ old.facts
      → HasFacts scope (flat_map section_facts before ++ []) new.facts
  same_facts before old new h same =
      subst (λ fs. HasFacts scope fs new.facts) (sym (append-nil (flat_map section_facts before))) (subst (HasFacts scope (flat_map section_facts before)) (sym same) h.facts)

  pub with_init : (before : List ProblemSection) (s : ProblemSection) (place : Place) (facts : List Fact) (old new : Start) → s ≡ p.Init place facts → HasStart scope before old
      → HasFacts scope (flat_map section_facts before ++ facts) new.facts × (new.goal ≡ old.goal) × (new.metric ≡ old.metric)
      → HasStart scope (before ++ s ∷ []) new
  with_init before s place facts old new is h e =
      subst (λ x. HasStart scope (before ++ x ∷ []) new) (sym is) (start_more before (p.Init place facts) old new h e.0 (e.1 ∙ sym (append-nil old.goal)) e.2)

  pub with_condition : (before : List ProblemSection) (s : ProblemSection) (place : Place) (c : Condition) (old new : Start) → s ≡ p.Goal place c → HasStart scope before old
      → (new.facts ≡ old.facts) × (new.goal ≡ old.goal ++ conditions_of scope c) × (new.metric ≡ old.metric)
      → HasStart scope (before ++ s ∷ []) new
  with_condition before s place c old new is h e =
      subst (λ x. HasStart scope (before ++ x ∷ []) new) (sym is)
      (start_more before (p.Goal place c) old new h (same_facts before old new h e.0) (e.1 ∙ ap (λ cs. old.goal ++ cs) (sym (append-nil (conditions_of scope c)))) e.2)

  pub with_sum : (before : List ProblemSection) (s : ProblemSection) (place : Place) (v : Expr) (old new : Start) → s ≡ p.Metric place v → HasStart scope before old
      → (new.facts ≡ old.facts) × (new.goal ≡ old.goal) × (new.metric ≡ Some (sum_of scope v))
      → HasStart scope (before ++ s ∷ []) new
  with_sum before s place v old new is h e =
      subst (λ x. HasStart scope (before ++ x ∷ []) new) (sym is)
      (start_more before (p.Metric place v) old new h (same_facts before old new h e.0) (e.1 ∙ sym (append-nil old.goal)) e.2)

  -- other sections say nothing
  pub with_other : (before : List ProblemSection) (s t : ProblemSection) (old : Start) → s ≡ t
      → section_facts t ≡ [] → section_goals t ≡ [] → metric_with scope old.metric t ≡ old.metric → HasStart scope before old
      → HasStart scope (before ++ s ∷ []) old
  with_other before s t old is facts goals metric h =
      subst (λ x. HasStart scope (before ++ x ∷ []) old) (sym is)
      (start_more before t old old h
      (subst (λ fs. HasFacts scope (flat_map section_facts before ++ fs) old.facts) (sym facts) (same_facts before old old h refl))
      (sym (append-nil old.goal) ∙ ap (λ cs. old.goal ++ flat_map (conditions_of scope) cs) (sym goals)) (sym metric))
