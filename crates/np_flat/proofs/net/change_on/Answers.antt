use Rattle.std.proofs.Common.{rules, ◌<◌, ◌^◌, pos, unsigned_abs, get_or, length, arith}
use Rattle.std.proofs.lemmas.Int.{to_z-of_z}
use Rattle.std.proofs.lemmas.List.Sorted.{answers_always}
use mir.Syntax.{w128}
use mir.Val.{SFits}
use Rattle.np_flat.proofs.Changes.{fits_wide}
use Rattle.np_flat.proofs.Searches.{place_within, read_found, read_absent}
use Rattle.np_flat.proofs.net.change_on.Goals as goal

pub returns-in-Ok-clause-value : goal.returns-in-Ok-clause-value
returns-in-Ok-clause-value c =
    let facts = c.binary_search_by_key.ensures in
    let position = facts.position (λ y. y.0) (answers_always _ _ _ (λ f a r g called. search rules)) in
    let within : c.in-Ok.at < length c.args.changes.now = place_within c.args.changes.now c.binary_search_by_key.result c.in-Ok.at facts.bound c.in-Ok.is in
    let small : unsigned_abs (get_or c.args.changes.now c.in-Ok.at (0, pos 0)).1 < 2 ^ 62 = c.requires.small c.in-Ok.at (0, pos 0) within in
    let fits : SFits w128 (get_or c.args.changes.now c.in-Ok.at (0, pos 0)).1 = fits_wide (get_or c.args.changes.now c.in-Ok.at (0, pos 0)).1 (omega arith) in
    rw (to_z-of_z w128 (get_or c.args.changes.now c.in-Ok.at (0, pos 0)).1 fits)
    (read_found c.args.changes.now c.args.number c.binary_search_by_key.result c.in-Ok.at (0, pos 0) c.requires.ascending facts.bound position c.in-Ok.is)

pub returns-in-Err-clause-value : goal.returns-in-Err-clause-value
returns-in-Err-clause-value c =
    let position = c.binary_search_by_key.ensures.position (λ y. y.0) (answers_always _ _ _ (λ f a r g called. search rules)) in
    read_absent c.args.changes.now c.args.number c.binary_search_by_key.result c.in-Err.field-0 c.requires.ascending position c.in-Err.is
