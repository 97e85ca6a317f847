use Rattle.std.proofs.Common.{◌≡◌, ◌+◌, ◌<◌, map, length, get_or, arith, sym, ap, ◌∙◌, rules}
use Rattle.std.proofs.lemmas.List.{length-map}
use Rattle.np_simplex.specs.Tableau.{is_before, line_at}
use Rattle.np_simplex.specs.Widths.{is_wide_pair}
use Rattle.np_simplex.proofs.Least.{IsLeast}
use Rattle.np_simplex.specs.Views.{line}
use Rattle.np_simplex.proofs.Shapes.{width_read, line_read, leaving_some, on_err, above_read, better_then, better_else, wide_pair}
use Rattle.np_simplex.proofs.choice.better.Goals as goal

pub index-requires : goal.index-requires
index-requires g c =
    let w : length c.index-rows-k.result.numbers.items ≡ c.args.last + 1 = width_read g.A.N.Scalar.value c.args.rows.now
    (c.args.last + 1) c.args.k c.index-rows-k.result c.requires.shaped c.requires.place c.index-rows-k.is in
    let v : length (get_or c.args.rows.now c.args.k c.index-rows-k.result).numbers.items ≡ c.args.last + 1 = ap (λ row. length row.numbers.items)
    (sym c.index-rows-k.is) ∙ w in search rules

pub offset_bounds-rows-b : goal.offset_bounds-rows-b
offset_bounds-rows-b g c = let l : c.in-Some.b < length c.args.rows.now = omega (
  arith,
  (leaving_some c.args.last c.args.entering (map (line g.A.N.Scalar.value) c.args.rows.now) c.args.k c.in-Some.b (sym c.requires.so_far
      ∙ c.in-Some.is)).within,
) in search rules

pub bounds-rows-b : goal.bounds-rows-b
bounds-rows-b g c = omega (
  arith,
  (leaving_some c.args.last c.args.entering (map (line g.A.N.Scalar.value) c.args.rows.now) c.args.k c.in-Some.b
      (sym c.requires.so_far ∙ c.in-Some.is)).within,
)

pub is_before-requires-clause-a_width : goal.is_before-requires-clause-a_width
is_before-requires-clause-a_width g c = width_read g.A.N.Scalar.value c.args.rows.now
    (c.args.last + 1) c.args.k c.index-rows-k-in-Some.result c.requires.shaped c.requires.place c.index-rows-k-in-Some.is

pub is_before-requires-clause-b_width : goal.is_before-requires-clause-b_width
is_before-requires-clause-b_width g c = width_read g.A.N.Scalar.value c.args.rows.now
    (c.args.last + 1) c.in-Some.b c.index-rows-b.result c.requires.shaped
    (omega (
      arith,
      (leaving_some c.args.last c.args.entering (map (line g.A.N.Scalar.value) c.args.rows.now) c.args.k c.in-Some.b
          (sym c.requires.so_far ∙ c.in-Some.is)).within,
    )) c.index-rows-b.is

pub returns-in_err-is_before-in-Some-clause-only : goal.returns-in_err-is_before-in-Some-clause-only
returns-in_err-is_before-in-Some-clause-only g c = λ s. on_err c.from_residual.result (
    let r : IsLeast c.args.last c.args.entering
    (map (line g.A.N.Scalar.value) c.args.rows.now) c.args.k c.in-Some.b = leaving_some c.args.last c.args.entering
    (map (line g.A.N.Scalar.value) c.args.rows.now) c.args.k c.in-Some.b (sym c.requires.so_far ∙ c.in-Some.is) in
    wide_pair c.args.last c.args.entering (map (line g.A.N.Scalar.value) c.args.rows.now) c.args.k c.in-Some.b
    (omega (arith, c.requires.place, length-map c.args.rows.now (line g.A.N.Scalar.value)))
    (omega (arith, r.within, c.requires.place, length-map c.args.rows.now (line g.A.N.Scalar.value)))
    (above_read g.A.N.Scalar.value c.args.rows.now c.args.k c.args.entering c.index-rows-k.result c.index.result.now c.requires.place
    (let w : length (get_or c.args.rows.now c.args.k c.index-rows-k.result).numbers.items ≡ c.args.last + 1 = ap (λ row. length row.numbers.items)
    (sym c.index-rows-k.is) ∙ width_read g.A.N.Scalar.value c.args.rows.now
    (c.args.last + 1) c.args.k c.index-rows-k.result c.requires.shaped c.requires.place c.index-rows-k.is in omega
    (arith, c.requires.within)) c.index.ensures ∙ sym c.is_above.ensures ∙ c.if-not-is_above.false) r.above
    (ap (λ x. is_wide_pair c.args.last c.args.entering x (line_at (map (line g.A.N.Scalar.value) c.args.rows.now) c.in-Some.b))
    (line_read g.A.N.Scalar.value c.args.rows.now c.args.k c.index-rows-k-in-Some.result c.requires.place c.index-rows-k-in-Some.is)
    ∙ ap (λ x. is_wide_pair c.args.last c.args.entering (line g.A.N.Scalar.value c.index-rows-k-in-Some.result) x)
    (line_read g.A.N.Scalar.value c.args.rows.now c.in-Some.b c.index-rows-b.result
    (omega (
      arith,
      (leaving_some c.args.last c.args.entering (map (line g.A.N.Scalar.value) c.args.rows.now) c.args.k c.in-Some.b
          (sym c.requires.so_far ∙ c.in-Some.is)).within,
    )) c.index-rows-b.is) ∙ c.in_err-is_before-in-Some.ensures.only s))

pub returns-then-branch-clause-value : goal.returns-then-branch-clause-value
returns-then-branch-clause-value g c = better_then c.args.last c.args.entering
    (map (line g.A.N.Scalar.value) c.args.rows.now) c.args.best c.in-Some.b c.args.k c.in-Some.is
    (above_read g.A.N.Scalar.value c.args.rows.now c.args.k c.args.entering c.index-rows-k.result c.index.result.now c.requires.place
    (let w : length (get_or c.args.rows.now c.args.k c.index-rows-k.result).numbers.items ≡ c.args.last + 1 = ap (λ row. length row.numbers.items)
    (sym c.index-rows-k.is) ∙ width_read g.A.N.Scalar.value c.args.rows.now
    (c.args.last + 1) c.args.k c.index-rows-k.result c.requires.shaped c.requires.place c.index-rows-k.is in omega
    (arith, c.requires.within)) c.index.ensures ∙ sym c.is_above.ensures ∙ c.if-not-is_above.false)
    (ap (λ x. is_before c.args.last c.args.entering x (line_at (map (line g.A.N.Scalar.value) c.args.rows.now) c.in-Some.b))
    (line_read g.A.N.Scalar.value c.args.rows.now c.args.k c.index-rows-k-in-Some.result c.requires.place c.index-rows-k-in-Some.is)
    ∙ ap (λ x. is_before c.args.last c.args.entering (line g.A.N.Scalar.value c.index-rows-k-in-Some.result) x)
    (line_read g.A.N.Scalar.value c.args.rows.now c.in-Some.b c.index-rows-b.result
    (omega (
      arith,
      (leaving_some c.args.last c.args.entering (map (line g.A.N.Scalar.value) c.args.rows.now) c.args.k c.in-Some.b
          (sym c.requires.so_far ∙ c.in-Some.is)).within,
    )) c.index-rows-b.is) ∙ sym c.in_ok-is_before-in-Some.ensures.value ∙ c.if-branch.true)

pub returns-else-branch-clause-value : goal.returns-else-branch-clause-value
returns-else-branch-clause-value g c = better_else c.args.last c.args.entering
    (map (line g.A.N.Scalar.value) c.args.rows.now) c.args.best c.in-Some.b c.args.k c.in-Some.is
    (ap (λ x. is_before c.args.last c.args.entering x (line_at (map (line g.A.N.Scalar.value) c.args.rows.now) c.in-Some.b))
    (line_read g.A.N.Scalar.value c.args.rows.now c.args.k c.index-rows-k-in-Some.result c.requires.place c.index-rows-k-in-Some.is)
    ∙ ap (λ x. is_before c.args.last c.args.entering (line g.A.N.Scalar.value c.index-rows-k-in-Some.result) x)
    (line_read g.A.N.Scalar.value c.args.rows.now c.in-Some.b c.index-rows-b.result
    (omega (
      arith,
      (leaving_some c.args.last c.args.entering (map (line g.A.N.Scalar.value) c.args.rows.now) c.args.k c.in-Some.b
          (sym c.requires.so_far ∙ c.in-Some.is)).within,
    )) c.index-rows-b.is) ∙ sym c.in_ok-is_before-in-Some.ensures.value ∙ c.if-branch.false)
