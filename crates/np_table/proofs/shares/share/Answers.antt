use Rattle.std.proofs.Common.{◌+◌, ap, ◌∙◌, arith}
use Rattle.np_table.specs.Lowering.{capped}
use Rattle.np_table.proofs.Divides.{share_value, sum_small}
use Rattle.np_table.proofs.shares.share.Goals as goal

pub overflow_add-sum-3 : goal.overflow_add-sum-3
overflow_add-sum-3 c =
    record { fits = sum_small c.args.lack c.args.cost c.args.net c.product-first.result (c.product.result + c.product-2.result) c.requires.net c.requires.few c.requires.cost (omega arith) c.product-first.ensures.value (omega (arith, c.product.ensures.small, c.product-2.ensures.small)) }

pub returns : goal.returns
returns c = c.cut.ensures ∙ ap capped (share_value c.args.lack c.args.cost c.args.net c.product-first.result c.product.result c.product-2.result c.requires.net c.product-first.ensures.value c.product.ensures.value c.product-2.ensures.value)
