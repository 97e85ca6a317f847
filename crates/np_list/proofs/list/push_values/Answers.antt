use Rattle.std.proofs.Common.{string_bytes, ◌≡◌, ◌<◌, ◌++◌, List, ℕ, ℤ, Option, length, get_or, ◌∙◌, ap, subst}
use Rattle.std.specs.Prelude.{slice_get}
use Rattle.np_model.specs.declared.task.Term.{Term}
use Rattle.np_list.specs.ListText.{value_line}
use Rattle.np_list.proofs.Lines.{lines_more}
use Rattle.np_list.proofs.list.push_values.Goals as goal

pub loop-number-preserved : goal.loop-number-preserved
loop-number-preserved c =
    let task = c.args.task.now in
    let flat = c.args.parts.now in
    let n = c.loop-number.number in
    let t = c.term-item.result in
    let before = string_bytes c.loop-number.text in
    let within : n < length flat.values = subst (λ (xs : List Term). n < length xs) c.as_slice-term-items.ensures c.loop-number-test.true in
    let at : t ≡ get_or flat.values n t = subst (λ (xs : List Term). t ≡ get_or xs n t) c.as_slice-term-items.ensures c.term-item.is in
    let start : c.value_of.result ≡ slice_get flat.start.values n = c.value_of.ensures ∙ ap (λ (vs : List ℤ). slice_get vs n) c.as_slice-starts.ensures in
    c.in_ok-push_value_line.ensures
    ∙ ap (λ (o : Option ℤ). before ++ value_line task o n t) start
    ∙ ap (λ (x : List ℕ). x ++ value_line task (slice_get flat.start.values n) n t) c.loop-number.invariant
    ∙ lines_more (λ k u. value_line task (slice_get flat.start.values k) k u) (string_bytes c.args.text.now) flat.values n t within at
