use Rattle.std.proofs.Common.{◌≡◌, ◌+◌, ◌<◌, map, length, get_or, sym, ap, ◌∙◌, arith, rules}
use Rattle.std.proofs.lemmas.List.{get_or-map, length-map}
use Rattle.np_frac.specs.Fractions.{minus}
use Rattle.np_simplex.specs.Tableau.{nought, at, blank, basic_amount}
use Rattle.np_frac.specs.Sizes.{are_wide}
use Rattle.np_simplex.specs.Views.{line}
use Rattle.np_simplex.proofs.Shapes.{width_read, ok_same, on_err_map}
use Rattle.np_simplex.proofs.Places.{place_some, place_none, place_within}
use Rattle.np_simplex.proofs.answer.slope.Goals as goal

pub index-requires : goal.index-requires
index-requires g c =
    let w : length (get_or c.args.rows.now c.in-Some.place c.index-rows-place.result).numbers.items ≡ c.args.last + 1 =
    ap (λ row. length row.numbers.items) (sym c.index-rows-place.is)
    ∙ width_read g.A.N.Scalar.value c.args.rows.now (c.args.last + 1) c.in-Some.place c.index-rows-place.result c.requires.shaped
    (place_within c.args.rows.now c.args.column c.in-Some.place c.index-rows-place.result (sym c.basic_place.ensures
    ∙ c.in-Some.is)) c.index-rows-place.is in
    search rules

pub returns-in-None-clause-value : goal.returns-in-None-clause-value
returns-in-None-clause-value g c = c.zero.ensures
    ∙ sym (place_none g.A.N.Scalar.value (λ row. minus nought (at row.numbers c.args.slot)) c.args.rows.now c.args.column (sym c.basic_place.ensures
    ∙ c.in-None.is))

pub returns-in-Some-clause-value : goal.returns-in-Some-clause-value
returns-in-Some-clause-value g c =
    let w : length (get_or c.args.rows.now c.in-Some.place c.index-rows-place.result).numbers.items ≡ c.args.last + 1 =
    ap (λ row. length row.numbers.items) (sym c.index-rows-place.is)
    ∙ width_read g.A.N.Scalar.value c.args.rows.now (c.args.last + 1) c.in-Some.place c.index-rows-place.result c.requires.shaped
    (place_within c.args.rows.now c.args.column c.in-Some.place c.index-rows-place.result (sym c.basic_place.ensures
    ∙ c.in-Some.is)) c.index-rows-place.is in
    ok_same g.A.N.Scalar.value c.negated.result (minus nought (g.A.N.Scalar.value c.index.result.now))
    (basic_amount (λ row. minus nought (at row.numbers c.args.slot))
    (map (line g.A.N.Scalar.value) c.args.rows.now) c.args.column) c.negated.ensures.value
    (sym (place_some g.A.N.Scalar.value (λ row. minus nought
    (at row.numbers c.args.slot)) c.args.rows.now c.args.column c.in-Some.place c.index-rows-place.result (sym c.basic_place.ensures
    ∙ c.in-Some.is) c.index-rows-place.is
    ∙ ap (λ row. minus nought (at (map g.A.N.Scalar.value row.numbers.items) c.args.slot)) c.index-rows-place.is
    ∙ ap (λ x. minus nought x) (get_or-map g.A.N.Scalar.value
    (get_or c.args.rows.now c.in-Some.place c.index-rows-place.result).numbers.items c.args.slot c.index.result.now nought
    (omega (arith, c.requires.within))
    ∙ ap g.A.N.Scalar.value (sym c.index.ensures))))

pub returns-in-Some-clause-only : goal.returns-in-Some-clause-only
returns-in-Some-clause-only g c =
    let w : length (get_or c.args.rows.now c.in-Some.place c.index-rows-place.result).numbers.items ≡ c.args.last + 1 =
    ap (λ row. length row.numbers.items) (sym c.index-rows-place.is)
    ∙ width_read g.A.N.Scalar.value c.args.rows.now (c.args.last + 1) c.in-Some.place c.index-rows-place.result c.requires.shaped
    (place_within c.args.rows.now c.args.column c.in-Some.place c.index-rows-place.result (sym c.basic_place.ensures
    ∙ c.in-Some.is)) c.index-rows-place.is in
    let l : c.in-Some.place < length c.args.rows.now = place_within c.args.rows.now c.args.column c.in-Some.place c.index-rows-place.result
    (sym c.basic_place.ensures ∙ c.in-Some.is) in
    λ s. on_err_map c.negated.result (c.negated.ensures.only s) (λ n. record {
      place = c.in-Some.place;
      column = c.args.slot;
      within = omega (arith, l, length-map c.args.rows.now (line g.A.N.Scalar.value));
      wide = ap (λ x. are_wide nought (at x.numbers c.args.slot))
          (get_or-map (line g.A.N.Scalar.value) c.args.rows.now c.in-Some.place c.index-rows-place.result blank l)
          ∙ ap (λ x. are_wide nought x) (get_or-map g.A.N.Scalar.value
          (get_or c.args.rows.now c.in-Some.place c.index-rows-place.result).numbers.items c.args.slot c.index.result.now nought
          (omega (arith, c.requires.within))
          ∙ ap g.A.N.Scalar.value (sym c.index.ensures)) ∙ n;
    })
