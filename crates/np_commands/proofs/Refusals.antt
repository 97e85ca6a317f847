-- From a fault of binding or of scaling, to what the refusal of a task says.
use Rattle.std.proofs.Common.{◌≡◌, inl, inr, Some, Ok, Err}
use Rattle.std.proofs.lemmas.Option.{none-some}
use Rattle.np_model.specs.declared.task.TaskParts.{TaskParts}
use Rattle.np_bind.specs.declared.bound.BoundParts.{BoundParts}
use Rattle.np_bind.specs.declared.bound.BindFault.{BindFault}
use Rattle.np_bind.specs.declared.bound.BindFault.TheVariants as bind
use Rattle.np_bind.specs.Answers as bound
use Rattle.np_bind.specs.Binding.{bind_task}
use Rattle.np_scale.specs.declared.fault.ScaleFault.{ScaleFault}
use Rattle.np_scale.specs.declared.fault.ScaleFault.TheVariants as scale
use Rattle.np_scale.specs.Answers as scaled
use Rattle.np_scale.specs.Scaling.{scale_task}
use Rattle.np_answers.specs.declared.answer.refusal.Refusal.{Refusal}
use Rattle.np_answers.specs.declared.answer.Answer.{Answer}
use Rattle.np_answers.specs.declared.answer.Answer.TheVariants.{Refused, OutOfMemory}
use Rattle.np_commands.specs.FlatTasks.{bind_refusal, scale_refusal, IsNotFlat}
use Rattle.np_commands.specs.Steps.{IsRefusal}

module _ (task : TaskParts) where
  -- the fault of binding for which a refusal is
  bind_fault : (fault : BindFault) (refusal : Refusal) → bound.Refuses fault (bind_task task) → bind_refusal task fault ≡ Some refusal → bind_task task ≡ Err fault
  bind_fault bind.TooManyTuples refusal is e = is
  bind_fault bind.TooManySteps refusal is e = is
  bind_fault (bind.NotLinear at) refusal is e = is
  bind_fault bind.GoalUndefined refusal is e = is
  bind_fault bind.MetricUndefined refusal is e = is
  bind_fault (bind.NumberWide at) refusal is e = is
  bind_fault bind.Memory refusal is e = absurd (none-some refusal e)

  -- the task isn't bound
  pub unbound : (fault : BindFault) (answer : Answer) → bound.Refuses fault (bind_task task) → IsRefusal (bind_refusal task fault) answer → IsNotFlat task answer
  unbound fault (Refused refusal) is e = inl (record { fault = fault; unbound = bind_fault fault refusal is e; refusal_is = e })
  unbound fault OutOfMemory is e = tt
  unbound fault answer is e = absurd e

  module _ (parts : BoundParts) (bound_is : bind_task task ≡ Ok parts) where
    -- the fault of scaling for which a refusal is
    scale_fault : (fault : ScaleFault) (refusal : Refusal) → scaled.Refuses fault (scale_task parts) → scale_refusal task fault ≡ Some refusal → scale_task parts ≡ Err fault
    scale_fault scale.TooManyFacts refusal is e = is
    scale_fault scale.TooManyValues refusal is e = is
    scale_fault scale.TooManySubgoals refusal is e = is
    scale_fault scale.UnitWide refusal is e = is
    scale_fault (scale.NumberWide at) refusal is e = is
    scale_fault (scale.FormLong at) refusal is e = is
    scale_fault (scale.CostNegative step) refusal is e = is
    scale_fault (scale.CostNotWhole step) refusal is e = is
    scale_fault (scale.CostWide step) refusal is e = is
    scale_fault scale.Memory refusal is e = absurd (none-some refusal e)

    -- the bound task isn't scaled
    pub unscaled : (fault : ScaleFault) (answer : Answer) → scaled.Refuses fault (scale_task parts) → IsRefusal (scale_refusal task fault) answer → IsNotFlat task answer
    unscaled fault (Refused refusal) is e = inr (record { bound = parts; bound_is = bound_is; fault = fault; unscaled = scale_fault fault refusal is e; refusal_is = e })
    unscaled fault OutOfMemory is e = tt
    unscaled fault answer is e = absurd e
