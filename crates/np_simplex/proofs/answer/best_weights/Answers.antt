use Rattle.std.proofs.Common.{◌≡◌, length, map, ap, ◌∙◌, rules}
use Rattle.np_simplex.specs.Tableau.{at, basic_amount}
use Rattle.np_simplex.specs.Views.{line}
use Rattle.np_simplex.proofs.Made.{pushed_map}
use Rattle.np_simplex.proofs.answer.best_weights.Goals as goal

pub loop-k-preserved : goal.loop-k-preserved
loop-k-preserved g c = let n : c.len.result ≡ length c.args.table.now.columns.items = search rules in
    pushed_map g.N.Scalar.value c.loop-k.made.items c.push.new.self.items
    (basic_amount (λ row. at row.numbers (length c.args.table.now.columns.items))
    (map (line g.N.Scalar.value) c.args.table.now.rows.items)) c.loop-k.k c.weight.result c.in_ok-push.ensures.items
    (c.weight.ensures ∙ ap (λ last. basic_amount (λ row. at row.numbers last) (map (line g.N.Scalar.value) c.as_slice.result.now) c.loop-k.k) n
    ∙ ap (λ rows. basic_amount (λ row. at row.numbers (length c.args.table.now.columns.items))
    (map (line g.N.Scalar.value) rows) c.loop-k.k) c.as_slice.ensures.value) c.loop-k.invariant
