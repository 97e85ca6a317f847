use Rattle.std.proofs.Common.{rules, ◌∙◌}
use Rattle.std.proofs.lemmas.List.Sorted.{answers_always}
use Rattle.np_flat.proofs.Ascending.{has_found}
use Rattle.np_count.proofs.facts.has.Goals as goal

pub returns : goal.returns
returns c =
    let position = c.binary_search_by_key.ensures.position (λ y. y) (answers_always _ _ _ (λ f a r g called. search rules)) in
    c.is_ok.ensures.value ∙ has_found c.args.numbers.now c.args.number c.binary_search_by_key.result position c.requires
