use Rattle.std.proofs.Common.{◌∙◌, ap}
use Rattle.std.specs.Prelude.{slice_get}
use Rattle.std.proofs.lemmas.Int.{to_z-of_z}
use mir.Syntax.{w128}
use Rattle.np_cases.proofs.GraphPlans.{first_some, first_none}
use Rattle.np_cases.proofs.space.place_of.Goals as goal

pub returns-in-Some : goal.returns-in-Some
returns-in-Some c =
    to_z-of_z w128 c.copy.result (record { sfits = c.copy.type_inv })
    ∙ first_some c.args.s.now.cells.items c.in-Some.place.now c.copy.result (c.in-Some.ensures.value ∙ ap (λ zs. slice_get zs 0) c.as_slice.ensures.value) c.copy.ensures

pub returns-in-None : goal.returns-in-None
returns-in-None c = first_none c.args.s.now.cells.items (c.in-None.ensures.value ∙ ap (λ zs. slice_get zs 0) c.as_slice.ensures.value)
