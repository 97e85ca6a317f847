-- Which tasks are well-formed: the counter is, and a task without the type `object` isn't.
use Rattle.std.proofs.Common.{◌≡◌, ℕ, zero, suc, ◌<◌, Bool, true, false, refl, sym, ◌∙◌, ap, arith, lit<, List, []}
use Rattle.std.specs.Prelude.{pos, codes, IsTrue, slice_get}
use Rattle.std.proofs.lemmas.Option.{none-some, same_Some}
use Rattle.std.proofs.Math.Bool.{and-true}
use Rattle.np_frac.specs.Fractions.{Fraction, whole}
use Rattle.np_model.specs.declared.task.Ref.{Ref}
use Rattle.np_model.specs.declared.task.Sum.TheVariants as expr
use Rattle.np_model.specs.declared.task.Op.{Op}
use Rattle.np_model.specs.declared.task.Op.TheVariants.{AtLeast, Equal}
use Rattle.np_model.specs.declared.task.Cond.TheVariants.{Compare}
use Rattle.np_model.specs.declared.task.TaskParts.{TaskParts}
use Rattle.np_model.specs.Values.{every_read, every_read_from}
use Rattle.np_model.specs.Types.{is_under}
use Rattle.np_model.specs.Names.{is_name}
use Rattle.np_model.specs.Tasks.{is_ground_atom, is_ground_term, is_sum, is_use, is_condition, is_effect, has_parts_from, depth_from, is_fixed, names_function, IsSignature, IsAction, FixedIsStatic, IsTask}
use Rattle.np_model.proofs.Expressions.{fold-Number, fold-Value}
use Rattle.np_model.proofs.Distinct.{none, alone, two, distinct_none, distinct_one, distinct_two, texts_differ}
use Rattle.np_model.proofs.Counter.{counter, changed, x}

-- a number is allowed anywhere
pub is_sum-Number : (task : TaskParts) (parameters : List ℕ) (n : Fraction) → is_sum task parameters (expr.Number n) ≡ true
is_sum-Number task parameters n = rw (fold-Number Bool (every_read_from (is_use task task.functions parameters)) n, fold-Number Bool has_parts_from n, fold-Number ℕ depth_from n) refl

-- a term is allowed where its function and its arguments are
pub is_sum-Value : (task : TaskParts) (parameters : List ℕ) (function : ℕ) (refs : List Ref) → is_sum task parameters (expr.Value function refs) ≡ is_use task task.functions parameters function refs
is_sum-Value task parameters function refs =
    rw (fold-Value Bool (every_read_from (is_use task task.functions parameters)) function refs, fold-Value Bool has_parts_from function refs, fold-Value ℕ depth_from function refs)
    (and-true (is_use task task.functions parameters function refs))

-- a number reads nothing
pub reads_nothing : (test : ℕ → List Ref → Bool) (n : Fraction) → every_read test (expr.Number n) ≡ true
reads_nothing test n = fold-Number Bool (every_read_from test) n

-- effects that change a value by a number, and comparisons of a value with a number
changes_formed : (up : Bool) (function n : ℕ) → is_use counter counter.functions [] function [] ≡ true → is_effect counter [] (changed up function n) ≡ true
changes_formed up function n h =
    rw (h, is_sum-Number counter [] (whole (pos n)), reads_nothing (λ f _. is_fixed counter.functions f) (whole (pos n))) refl

comparison_formed : (op : Op) (n : ℕ) → is_condition counter [] (Compare op (expr.Value 0 []) (expr.Number (whole (pos n)))) ≡ true
comparison_formed op n = rw (is_sum-Value counter [] 0 [], is_sum-Number counter [] (whole (pos n))) refl

rooted : (of : ℕ) → of < 1 → IsTrue (is_under counter.types of 0)
rooted zero h = refl
rooted (suc n) h = absurd (omega arith)

fixed_functions : FixedIsStatic counter names_function counter.functions
fixed_functions zero s e = sym (ap (λ x. x.fixed) (same_Some _ s e))
fixed_functions (suc zero) s e = sym (ap (λ x. x.fixed) (same_Some _ s e))
fixed_functions (suc (suc n)) s e = absurd (none-some s e)

function_formed : (name : List ℕ) → IsSignature counter (record { name = name; parameters = []; fixed = false })
function_formed name = record { short = lit< tt; typed = none (λ of. of < 1) }

-- the counter is well-formed
pub counter_is_a_task : IsTask counter
counter_is_a_task = record {
  short = record { types = lit< tt; objects = lit< tt; predicates = lit< tt; functions = lit< tt; actions = lit< tt; atoms = lit< tt; values = lit< tt; goal = lit< tt };
  named = record {
    types = record { spelled = alone (λ n. IsTrue (is_name n)) (codes "object") refl; distinct = distinct_one (codes "object") };
    objects = record { spelled = none (λ n. IsTrue (is_name n)); distinct = distinct_none };
    predicates = record { spelled = none (λ n. IsTrue (is_name n)); distinct = distinct_none };
    functions = record { spelled = two (λ n. IsTrue (is_name n)) (codes "x") (codes "c") refl refl; distinct = distinct_two (codes "x") (codes "c") (texts_differ _ _ refl) };
    actions = record { spelled = two (λ n. IsTrue (is_name n)) (codes "inc") (codes "dec") refl refl; distinct = distinct_two (codes "inc") (codes "dec") (texts_differ _ _ refl) };
  };
  types = record { first = refl; parents = alone (λ t. t.parent < 1) (record { name = codes "object"; parent = 0 }) (lit< tt); rooted = rooted };
  objects = none (λ o. o.of < 1);
  predicates = none (IsSignature counter);
  functions = two (IsSignature counter) _ _ (function_formed (codes "x")) (function_formed (codes "c"));
  fixed_predicates = λ n s e. absurd (none-some s e);
  fixed_functions = fixed_functions;
  actions = two (IsAction counter) _ _
      (record {
        short_parameters = lit< tt;
        short_needs = lit< tt;
        short_effects = lit< tt;
        typed = none (λ of. of < 1);
        needs = none (λ c. IsTrue (is_condition counter [] c));
        effects = two (λ e. IsTrue (is_effect counter [] e)) (changed true 0 3) (changed true 1 2) (changes_formed true 0 3 refl) (changes_formed true 1 2 refl);
      })
      (record {
        short_parameters = lit< tt;
        short_needs = lit< tt;
        short_effects = lit< tt;
        typed = none (λ of. of < 1);
        needs = alone (λ c. IsTrue (is_condition counter [] c)) (Compare AtLeast (expr.Value 0 []) (expr.Number (whole (pos 1)))) (comparison_formed AtLeast 1);
        effects = two (λ e. IsTrue (is_effect counter [] e)) (changed false 0 1) (changed true 1 1) (changes_formed false 0 1 refl) (changes_formed true 1 1 refl);
      });
  atoms = none (λ a. IsTrue (is_ground_atom counter a));
  distinct_atoms = distinct_none;
  values = alone (λ v. IsTrue (is_ground_term counter v.0)) (x, whole (pos 0)) refl;
  distinct_terms = distinct_one x;
  goal = alone (λ c. IsTrue (is_condition counter [] c)) (Compare Equal (expr.Value 0 []) (expr.Number (whole (pos 4)))) (comparison_formed Equal 4);
  metric = is_sum-Value counter [] 1 [];
}

-- no task without types is well-formed
pub no_task_without_types : (task : TaskParts) → task.types ≡ [] → ¬ IsTask task
no_task_without_types task e t = none-some _ (sym (ap (λ ts. slice_get ts 0) e) ∙ t.types.first)
