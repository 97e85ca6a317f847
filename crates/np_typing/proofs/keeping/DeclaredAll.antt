-- The task of a well-formed pair keeps what every task keeps of its declarations.
use Rattle.std.specs.Prelude.{◌≡◌, ◌<◌, length, All, []}
use Rattle.np_model.specs.declared.task.TaskParts.{TaskParts}
use Rattle.np_model.specs.Tasks.{AreShort, AreNamed, AreTypeNames, IsSignature, FixedIsStatic, names_predicate, names_function}
use Rattle.np_syntax.specs.declared.domain.Domain.{Domain}
use Rattle.np_problem.specs.declared.problem.Problem.{Problem}
use Rattle.np_typing.specs.Rules.{all_faults}
use Rattle.np_typing.specs.TaskOf.{task_of}
use Rattle.np_typing.specs.Typing.{IsSpelledPair}
use Rattle.np_typing.proofs.keeping.DeclaredParts.{BreaksNoRule, breaks_no_rule}
use Rattle.np_typing.proofs.keeping.DeclaredTypes.{declared_types}
use Rattle.np_typing.proofs.keeping.DeclaredNamed.{declared_named}
use Rattle.np_typing.proofs.keeping.DeclaredKnown.{declared_objects}
use Rattle.np_typing.proofs.keeping.DeclaredShort.{declared_short}
use Rattle.np_typing.proofs.keeping.DeclaredSignatures.{declared_predicates, declared_functions}
use Rattle.np_typing.proofs.keeping.DeclaredFixed.{declared_fixed_predicates, declared_fixed_functions}

-- those fields of `IsTask` that speak of declarations
pub record KeepsDeclarations (task : TaskParts) : Type 0 where
  pub short : AreShort task
  pub named : AreNamed task
  pub types : AreTypeNames task.types
  pub objects : All (λ o. o.of < length task.types) task.objects
  pub predicates : All (IsSignature task) task.predicates
  pub functions : All (IsSignature task) task.functions
  pub fixed_predicates : FixedIsStatic task names_predicate task.predicates
  pub fixed_functions : FixedIsStatic task names_function task.functions

pub declarations_kept : (domain : Domain) (problem : Problem) → IsSpelledPair domain problem → all_faults domain problem ≡ [] → KeepsDeclarations (task_of domain problem)
declarations_kept domain problem spelled none =
    let h : BreaksNoRule domain problem = breaks_no_rule domain problem none in
    record {
      short = declared_short domain problem spelled;
      named = declared_named domain problem spelled h;
      types = declared_types domain problem h;
      objects = declared_objects domain problem h;
      predicates = declared_predicates domain problem spelled h;
      functions = declared_functions domain problem spelled h;
      fixed_predicates = declared_fixed_predicates domain problem h;
      fixed_functions = declared_fixed_functions domain problem h;
    }
