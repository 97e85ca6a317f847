use Rattle.std.proofs.Common.{◌≡◌, ◌+◌, map, length, get_or, sym, ap, ◌∙◌, arith, rules}
use Rattle.std.proofs.lemmas.List.{get_or-map}
use Rattle.np_simplex.specs.Tableau.{nought, at}
use Rattle.np_simplex.proofs.Shapes.{width_read}
use Rattle.np_simplex.proofs.Places.{place_some, place_none, place_within}
use Rattle.np_simplex.proofs.answer.weight.Goals as goal

pub index-requires : goal.index-requires
index-requires g c =
    let w : length (get_or c.args.rows.now c.in-Some.place c.index-rows-place.result).numbers.items ≡ c.args.last + 1 =
    ap (λ row. length row.numbers.items) (sym c.index-rows-place.is)
    ∙ width_read g.N.Scalar.value c.args.rows.now (c.args.last + 1) c.in-Some.place c.index-rows-place.result c.requires
    (place_within c.args.rows.now c.args.column c.in-Some.place c.index-rows-place.result (sym c.basic_place.ensures
    ∙ c.in-Some.is)) c.index-rows-place.is in
    search rules

pub returns-in-None : goal.returns-in-None
returns-in-None g c = c.zero.ensures ∙ sym
    (place_none g.N.Scalar.value (λ row. at row.numbers c.args.last) c.args.rows.now c.args.column (sym c.basic_place.ensures ∙ c.in-None.is))

pub returns-in-Some : goal.returns-in-Some
returns-in-Some g c =
    let w : length (get_or c.args.rows.now c.in-Some.place c.index-rows-place.result).numbers.items ≡ c.args.last + 1 =
    ap (λ row. length row.numbers.items) (sym c.index-rows-place.is)
    ∙ width_read g.N.Scalar.value c.args.rows.now (c.args.last + 1) c.in-Some.place c.index-rows-place.result c.requires
    (place_within c.args.rows.now c.args.column c.in-Some.place c.index-rows-place.result (sym c.basic_place.ensures
    ∙ c.in-Some.is)) c.index-rows-place.is in
    sym (place_some g.N.Scalar.value (λ row. at row.numbers c.args.last) c.args.rows.now c.args.column c.in-Some.place c.index-rows-place.result
    (sym c.basic_place.ensures ∙ c.in-Some.is) c.index-rows-place.is
    ∙ ap (λ row. at (map g.N.Scalar.value row.numbers.items) c.args.last) c.index-rows-place.is
    ∙ get_or-map g.N.Scalar.value (get_or c.args.rows.now c.in-Some.place c.index-rows-place.result).numbers.items c.args.last c.index.result.now
    nought (omega arith)
    ∙ ap g.N.Scalar.value (sym c.index.ensures))
