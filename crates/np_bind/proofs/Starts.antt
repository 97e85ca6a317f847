-- The start follows itself.
use Rattle.std.proofs.Common.{◌≡◌, sym, ◌∙◌, ap, Some}
use Rattle.std.specs.Option.{option_map_or}
use Rattle.np_frac.specs.Fractions.{Fraction}
use Rattle.np_model.specs.declared.task.Term.{Term}
use Rattle.np_model.specs.declared.task.TaskParts.{TaskParts}
use Rattle.np_model.specs.Plans.{start_values, start_of}
use Rattle.np_model.proofs.Starts.{start_has, start_among}
use Rattle.np_linear.specs.Linears.{zero, value_in}
use Rattle.np_bind.proofs.LeftConditions.{Follows}

pub start_follows : (task : TaskParts) → Follows task (start_values task) (start_of task)
start_follows task = record {
  keeps = record {
    missing = λ t e. start_among task t ∙ e;
    there = λ t x e. there t x (start_among task t ∙ e);
    static = λ t x fixed e. start_among task t ∙ e;
  };
  atoms = λ a fixed. start_has task a;
}
  where
    there : (t : Term) (x : Fraction) → (start_of task).value t ≡ Some x → (start_of task).value t ≡ Some (value_in (start_of task) t)
    there t x e = e ∙ ap (λ o. Some (option_map_or (λ y. y) o zero)) (sym e)
