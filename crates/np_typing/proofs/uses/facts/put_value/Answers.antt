use Rattle.std.proofs.Common.{◌≡◌, false, map, sym, ◌∙◌}
use Rattle.np_model.specs.declared.task.Term.{Term}
use Rattle.np_words.specs.declared.word.Ident.TheVariants as ident
use Rattle.np_words.specs.Numbers.{fraction_of}
use Rattle.np_typing.specs.Uses.{function_faults}
use Rattle.np_typing.specs.Facts.{term_of}
use Rattle.np_typing.proofs.UsesValues.{value_twice, value_once, value_put}
use Rattle.np_typing.proofs.uses.facts.put_value.Goals as goal

pub returns-in-Some : goal.returns-in-Some
returns-in-Some c =
    let t : Term = record { function = c.in_ok-call.call.symbol; objects = c.in_ok-call.call.objects } in
    let u = term_of c.args.scope.now c.args.word.now c.args.words.now in
    let same : t ≡ u = λ i. record { function = c.in_ok-call.ensures.1.0 i; objects = c.in_ok-call.ensures.1.1 i } in
    value_twice (function_faults c.args.scope.now false c.args.word.now (map ident.Name c.args.words.now)) c.args.scope.now c.args.word.now.place t u
    c.args.values.now.entries c.in-Some.field-0 c.fault.result c.in_ok-call.ensures.0 same (sym c.in-Some.is ∙ c.in_ok-insert.ensures.old) c.fault.ensures

pub returns-in-None : goal.returns-in-None
returns-in-None c =
    let t : Term = record { function = c.in_ok-call.call.symbol; objects = c.in_ok-call.call.objects } in
    let u = term_of c.args.scope.now c.args.word.now c.args.words.now in
    let same : t ≡ u = λ i. record { function = c.in_ok-call.ensures.1.0 i; objects = c.in_ok-call.ensures.1.1 i } in (
      value_once (function_faults c.args.scope.now false c.args.word.now (map ident.Name c.args.words.now)) c.args.scope.now c.args.word.now.place t u
          c.args.values.now.entries c.in_ok-call.ensures.0 same (sym c.in-None.is ∙ c.in_ok-insert.ensures.old),
      value_put t u c.in_ok-value.value (fraction_of c.args.number.now) c.args.values.now.entries c.insert.new.self.entries same c.in_ok-value.ensures.1
          (sym c.in-None.is ∙ c.in_ok-insert.ensures.old) c.in_ok-insert.ensures.entries,
    )
