-- The errand is a task.
use Rattle.std.proofs.Common.{◌≡◌, ℕ, zero, suc, ◌<◌, refl, sym, subst, arith, lit<, [], ◌∷◌}
use Rattle.std.specs.Prelude.{codes, IsTrue}
use Rattle.std.proofs.lemmas.Option.{none-some}
use Rattle.np_model.specs.declared.task.Action.{Action}
use Rattle.np_model.specs.declared.task.TaskParts.{TaskParts}
use Rattle.np_model.specs.Types.{is_under}
use Rattle.np_model.specs.Names.{is_name}
use Rattle.np_model.specs.Tasks.{is_ground_atom, is_ground_term, is_condition, is_effect, IsSignature, IsAction, AreNames, IsTask}
use Rattle.np_model.proofs.Distinct.{none, two, distinct_none, distinct_two, texts_differ}
use Rattle.np_text_cases.specs.Errand.{errand}

no_names : AreNames []
no_names = record { spelled = none (λ n. IsTrue (is_name n)); distinct = distinct_none }

rooted : (of : ℕ) → of < 2 → IsTrue (is_under errand.types of 0)
rooted zero h = refl
rooted (suc zero) h = refl
rooted (suc (suc n)) h = absurd (omega arith)

abbrev inc : Action
inc = record { name = codes "inc"; parameters = []; needs = []; effects = [] }

abbrev move : Action
move = record { name = codes "move"; parameters = 1 ∷ 0 ∷ []; needs = []; effects = [] }

inc_is : IsAction errand inc
inc_is = record {
  short_parameters = lit< tt;
  short_needs = lit< tt;
  short_effects = lit< tt;
  typed = none (λ of. of < 2);
  needs = none (λ c. IsTrue (is_condition errand [] c));
  effects = none (λ e. IsTrue (is_effect errand [] e));
}

move_is : IsAction errand move
move_is = record {
  short_parameters = lit< tt;
  short_needs = lit< tt;
  short_effects = lit< tt;
  typed = two (λ of. of < 2) 1 0 (lit< tt) (lit< tt);
  needs = none (λ c. IsTrue (is_condition errand (1 ∷ 0 ∷ []) c));
  effects = none (λ e. IsTrue (is_effect errand (1 ∷ 0 ∷ []) e));
}

pub errand_is_a_task : IsTask errand
errand_is_a_task = record {
  short = record { types = lit< tt; objects = lit< tt; predicates = lit< tt; functions = lit< tt; actions = lit< tt; atoms = lit< tt; values = lit< tt; goal = lit< tt };
  named = record {
    types = record { spelled = two (λ n. IsTrue (is_name n)) (codes "object") (codes "thing") refl refl; distinct = distinct_two (codes "object") (codes "thing") (texts_differ (codes "object") (codes "thing") refl) };
    objects = record { spelled = two (λ n. IsTrue (is_name n)) (codes "a") (codes "b") refl refl; distinct = distinct_two (codes "a") (codes "b") (texts_differ (codes "a") (codes "b") refl) };
    predicates = no_names;
    functions = no_names;
    actions = record { spelled = two (λ n. IsTrue (is_name n)) (codes "inc") (codes "move") refl refl; distinct = distinct_two (codes "inc") (codes "move") (texts_differ (codes "inc") (codes "move") refl) };
  };
  types = record { first = refl; parents = two (λ t. t.parent < 2) (record { name = codes "object"; parent = 0 }) (record { name = codes "thing"; parent = 0 }) (lit< tt) (lit< tt); rooted = rooted };
  objects = two (λ o. o.of < 2) (record { name = codes "a"; of = 1 }) (record { name = codes "b"; of = 0 }) (lit< tt) (lit< tt);
  predicates = none (IsSignature errand);
  functions = none (IsSignature errand);
  fixed_predicates = λ n s e. absurd (none-some s e);
  fixed_functions = λ n s e. absurd (none-some s e);
  actions = two (IsAction errand) inc move inc_is move_is;
  atoms = none (λ a. IsTrue (is_ground_atom errand a));
  distinct_atoms = distinct_none;
  values = none (λ v. IsTrue (is_ground_term errand v.0));
  distinct_terms = distinct_none;
  goal = none (λ c. IsTrue (is_condition errand [] c));
  metric = tt;
}

-- and so are parts that are equal to it
pub errand_stands : (parts : TaskParts) → parts ≡ errand → IsTask parts
errand_stands parts e = subst IsTask (sym e) errand_is_a_task
