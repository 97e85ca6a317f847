use Rattle.std.proofs.Common.{◌≡◌, ◌++◌, ap, ◌∙◌}
use Rattle.np_names.specs.declared.declarations.Declarations.{Declarations}
use Rattle.np_names.specs.declared.fault.Source.TheVariants.{Problem}
use Rattle.np_names.specs.declared.fault.TypeWhy.TheVariants.{NameTwice}
use Rattle.np_names.specs.Declarations.{names_twice, problem_names_twice, all_objects}
use Rattle.np_names.specs.Faults.{faults_of}
use Rattle.np_names.specs.DeclaredNames.{HasDeclared}
use Rattle.np_names.specs.Names.{repeats, texts, words_of}
use Rattle.np_names.proofs.DeclarationLaws.{answers_like, objects_faults, declared_both}
use Rattle.np_names.proofs.declarations.declared_names.Goals as goal

pub returns : goal.returns
returns c =
    let domain = c.args.domain.now in
    let problem = c.args.problem.now in
    let all = c.in_ok-all.all in
    answers_like (faults_of Problem NameTwice (repeats all.objects (words_of (all_objects problem)))) (names_twice domain ++ problem_names_twice domain problem)
    (λ (new : Declarations). (new.objects ≡ all.objects ++ texts (words_of (all_objects problem))) × (new.predicates ≡ all.predicates) × (new.functions ≡ all.functions) × (new.actions ≡ all.actions) × (new.types ≡ all.types))
    (HasDeclared domain problem)
    (ap (λ fs. fs ++ problem_names_twice domain problem) c.in_ok-all.ensures.0 ∙ objects_faults domain problem all c.in_ok-all.ensures.1)
    (λ new h. declared_both domain problem all c.in_ok-all.ensures.1 new h.0 h.1 h.2 h.3 h.4) c.with_objects.result c.with_objects.ensures
