-- What a bound on the flat plans of a task says of its plans.
use Rattle.std.proofs.Common.{true≢false, sym, leb-true}
use Rattle.np_model.specs.declared.task.TaskParts.{TaskParts}
use Rattle.np_model.specs.Tasks.{IsTask}
use Rattle.np_flat.specs.declared.parts.Parts.{Parts}
use Rattle.np_flat.specs.Plans.{cost_sum}
use Rattle.np_scale.specs.Scaling.{IsFlatTaskOf}
use Rattle.np_cert.specs.declared.certificate.Limit.{Limit}
use Rattle.np_cert.specs.declared.certificate.Limit.TheVariants.{Number, Absent}
use Rattle.np_check.specs.Bounds.{Bounds}
use Rattle.np_commands.specs.Checking.{IsTrueClaim}
use Rattle.np_commands.proofs.NamedBounds.{none_below, unsolvable}

-- what bounds the flat plans bounds the plans
pub claim_by_names : (task : TaskParts) (flat : Parts) → IsTask task → IsFlatTaskOf task flat → (claim : Limit) → Bounds flat claim → IsTrueClaim claim task
claim_by_names task flat well of (Number n) bounds = none_below task flat well of n (λ numbers leads. leb-true n (cost_sum flat numbers) (bounds numbers leads))
claim_by_names task flat well of Absent bounds = unsolvable task flat well of (λ numbers leads. true≢false (sym (bounds numbers leads)))
