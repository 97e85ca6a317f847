-- The least task is well-formed.
use Rattle.std.proofs.Common.{◌≡◌, ℕ, zero, suc, ◌<◌, refl, sym, subst, arith, lit<, []}
use Rattle.std.specs.Prelude.{codes, IsTrue}
use Rattle.std.proofs.lemmas.Option.{none-some}
use Rattle.np_model.specs.declared.task.TaskParts.{TaskParts}
use Rattle.np_model.specs.Types.{is_under}
use Rattle.np_model.specs.Names.{is_name}
use Rattle.np_model.specs.Tasks.{is_ground_atom, is_ground_term, is_condition, IsSignature, IsAction, AreNames, IsTask}
use Rattle.np_model.proofs.Distinct.{none, alone, distinct_none, distinct_one}
use Rattle.np_run_cases.specs.Least.{least}

no_names : AreNames []
no_names = record { spelled = none (λ n. IsTrue (is_name n)); distinct = distinct_none }

rooted : (of : ℕ) → of < 1 → IsTrue (is_under least.types of 0)
rooted zero h = refl
rooted (suc n) h = absurd (omega arith)

pub least_is_a_task : IsTask least
least_is_a_task = record {
  short = record { types = lit< tt; objects = lit< tt; predicates = lit< tt; functions = lit< tt; actions = lit< tt; atoms = lit< tt; values = lit< tt; goal = lit< tt };
  named = record {
    types = record { spelled = alone (λ n. IsTrue (is_name n)) (codes "object") refl; distinct = distinct_one (codes "object") };
    objects = no_names;
    predicates = no_names;
    functions = no_names;
    actions = no_names;
  };
  types = record { first = refl; parents = alone (λ t. t.parent < 1) (record { name = codes "object"; parent = 0 }) (lit< tt); rooted = rooted };
  objects = none (λ o. o.of < 1);
  predicates = none (IsSignature least);
  functions = none (IsSignature least);
  fixed_predicates = λ n s e. absurd (none-some s e);
  fixed_functions = λ n s e. absurd (none-some s e);
  actions = none (IsAction least);
  atoms = none (λ a. IsTrue (is_ground_atom least a));
  distinct_atoms = distinct_none;
  values = none (λ v. IsTrue (is_ground_term least v.0));
  distinct_terms = distinct_none;
  goal = none (λ c. IsTrue (is_condition least [] c));
  metric = tt;
}

-- and so are parts that are equal to it
pub least_stands : (parts : TaskParts) → parts ≡ least → IsTask parts
least_stands parts e = subst IsTask (sym e) least_is_a_task
