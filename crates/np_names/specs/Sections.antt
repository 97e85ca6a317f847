-- Sections: which come again, which are missing, and the name of the domain.
use Rattle.std.specs.Prelude.{Bool, true, false, not, ◌&&◌, List, [], ◌∷◌, ◌++◌, map, filter, bytes_eq, if◌then◌else◌}
use Rattle.std.specs.List.{list_any, flat_map}
use Rattle.np_lex.specs.declared.token.Place.{Place}
use Rattle.np_words.specs.declared.word.Word.{Word}
use Rattle.np_syntax.specs.declared.domain.Domain.{Domain}
use Rattle.np_syntax.specs.declared.domain.DomainSection.{DomainSection}
use Rattle.np_syntax.specs.declared.domain.DomainSection.TheVariants as d
use Rattle.np_problem.specs.declared.problem.Problem.{Problem}
use Rattle.np_problem.specs.declared.problem.ProblemSection.{ProblemSection}
use Rattle.np_problem.specs.declared.problem.ProblemSection.TheVariants as p
use Rattle.np_names.specs.declared.fault.TypeFault.{TypeFault}
use Rattle.np_names.specs.declared.fault.Source.TheVariants.{Domain as InDomain, Problem as InProblem}
use Rattle.np_names.specs.declared.fault.TypeWhy.TheVariants.{SectionTwice, SectionMissing, OtherDomain}
use Rattle.np_names.specs.Names.{each_after}
use Rattle.np_names.specs.Faults.{faults_at, faults_of}

-- ---- sections that come again

-- the section itself where one before it is the same
abbrev pub if_again : {A : Type 0} → (A → A → Bool) → List A → A → List A
if_again same before s = if list_any (same s) before then s ∷ [] else []

-- two sections of a domain are of one kind, of which there may be one alone
abbrev pub same_section : DomainSection → DomainSection → Bool
same_section (d.Requirements place words) (d.Requirements other more) = true
same_section (d.Types place groups) (d.Types other more) = true
same_section (d.Constants place groups) (d.Constants other more) = true
same_section (d.Predicates place declared) (d.Predicates other more) = true
same_section (d.Functions place declared) (d.Functions other more) = true
same_section _ _ = false

abbrev pub place_of : DomainSection → Place
place_of (d.Requirements place words) = place
place_of (d.Types place groups) = place
place_of (d.Constants place groups) = place
place_of (d.Predicates place declared) = place
place_of (d.Functions place declared) = place
place_of (d.Action place w groups c e) = place

-- the same of a problem
abbrev pub same_problem_section : ProblemSection → ProblemSection → Bool
same_problem_section (p.Domain place w) (p.Domain other more) = true
same_problem_section (p.Requirements place words) (p.Requirements other more) = true
same_problem_section (p.Objects place groups) (p.Objects other more) = true
same_problem_section (p.Init place facts) (p.Init other more) = true
same_problem_section (p.Goal place c) (p.Goal other more) = true
same_problem_section (p.Metric place v) (p.Metric other more) = true
same_problem_section _ _ = false

abbrev pub problem_place_of : ProblemSection → Place
problem_place_of (p.Domain place w) = place
problem_place_of (p.Requirements place words) = place
problem_place_of (p.Objects place groups) = place
problem_place_of (p.Init place facts) = place
problem_place_of (p.Goal place c) = place
problem_place_of (p.Metric place v) = place

-- the keywords of the sections that come again
abbrev pub sections_twice : Domain → List TypeFault
sections_twice domain = faults_at InDomain SectionTwice (map place_of (each_after (if_again same_section) [] domain.sections))

abbrev pub problem_sections_twice : Problem → List TypeFault
problem_sections_twice problem = faults_at InProblem SectionTwice (map problem_place_of (each_after (if_again same_problem_section) [] problem.sections))

-- ---- sections that are missing

abbrev pub is_domain_name : ProblemSection → Bool
is_domain_name (p.Domain place w) = true
is_domain_name _ = false

abbrev pub is_goal : ProblemSection → Bool
is_goal (p.Goal place c) = true
is_goal _ = false

-- a problem names its domain and has a goal; else the fault is at its first token
abbrev pub sections_missing : Problem → List TypeFault
sections_missing problem =
    if list_any is_domain_name problem.sections && list_any is_goal problem.sections then [] else faults_at InProblem SectionMissing (problem.place ∷ [])

-- ---- the name of the domain

-- the name in a section `:domain`
abbrev pub domain_names : ProblemSection → List Word
domain_names (p.Domain place w) = w ∷ []
domain_names _ = []

-- the names of domains in a problem that aren't the domain's
abbrev pub other_domains : Domain → Problem → List TypeFault
other_domains domain problem =
    faults_of InProblem OtherDomain (filter (λ w. not (bytes_eq w.text domain.name.text)) (flat_map domain_names problem.sections))

-- ---- and all of these, rule after rule: a rule looks at the domain, then at the problem, in the order of the text

-- sections: none but `:action` comes again, none that has to be there is missing, and the problem is one of this domain
abbrev pub section_faults : Domain → Problem → List TypeFault
section_faults domain problem =
    sections_twice domain ++ (problem_sections_twice problem ++ (sections_missing problem ++ other_domains domain problem))
