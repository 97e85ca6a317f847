use Rattle.std.proofs.Common.{string_bytes, ◌≡◌, ◌<◌, ◌++◌, List, Bool, ℕ, length, get_or, ◌∙◌, ap, subst}
use Rattle.np_model.specs.declared.task.Atom.{Atom}
use Rattle.np_flat.specs.States.{has}
use Rattle.np_list.specs.ListText.{fact_line}
use Rattle.np_list.proofs.Lines.{lines_more}
use Rattle.np_list.proofs.list.push_facts.Goals as goal

pub loop-number-preserved : goal.loop-number-preserved
loop-number-preserved c =
    let task = c.args.task.now in
    let flat = c.args.parts.now in
    let n = c.loop-number.number in
    let a = c.atom-item.result in
    let before = string_bytes c.loop-number.text in
    let within : n < length flat.facts = subst (λ (xs : List Atom). n < length xs) c.as_slice-atom-items.ensures c.loop-number-test.true in
    let at : a ≡ get_or flat.facts n a = subst (λ (xs : List Atom). a ≡ get_or xs n a) c.as_slice-atom-items.ensures c.atom-item.is in
    c.in_ok-push_fact.ensures
    ∙ ap (λ (h : Bool). before ++ fact_line task h n a) c.has-holds.ensures
    ∙ ap (λ (t : List ℕ). t ++ fact_line task (has flat.start.facts n) n a) c.loop-number.invariant
    ∙ lines_more (λ k b. fact_line task (has flat.start.facts k) k b) (string_bytes c.args.text.now) flat.facts n a within at
