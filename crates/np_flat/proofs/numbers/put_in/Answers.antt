use Rattle.std.proofs.Common.{sym, ◌∙◌, subst}
use Rattle.np_flat.specs.Flats.{IsAscending}
use Rattle.np_flat.proofs.Ascending.{place_new, place_there, ascending_put_in}
use Rattle.np_flat.proofs.numbers.put_in.Goals as goal

pub returns-in_ok-insert-clause-put : goal.returns-in_ok-insert-clause-put
returns-in_ok-insert-clause-put c = c.in_ok-insert.ensures.items ∙ sym (place_new c.as_slice.result.now c.args.numbers.now.items c.args.number c.in-Err.place c.as_slice.ensures.value c.in-Err.ensures.position c.requires)

pub returns-in_ok-insert-clause-ascending : goal.returns-in_ok-insert-clause-ascending
returns-in_ok-insert-clause-ascending c =
    subst IsAscending
    (sym (c.in_ok-insert.ensures.items ∙ sym (place_new c.as_slice.result.now c.args.numbers.now.items c.args.number c.in-Err.place c.as_slice.ensures.value c.in-Err.ensures.position c.requires)))
    (ascending_put_in c.args.number c.args.numbers.now.items c.requires)

pub returns-in_default-clause-put : goal.returns-in_default-clause-put
returns-in_default-clause-put c = sym (place_there c.as_slice.result.now c.args.numbers.now.items c.args.number c.in_default.field-0 c.as_slice.ensures.value c.in_default.ensures.position c.requires)
