use Rattle.std.proofs.Common.{◌<◌, map, length, ◌∙◌, arith}
use Rattle.np_words.specs.declared.word.Word.{Word}
use Rattle.np_words.specs.declared.word.Ident.TheVariants as ident
use Rattle.np_names.specs.Names.{number_of}
use Rattle.np_declared.specs.Symbols.{object_names}
use Rattle.np_typing.proofs.UsesAnswers.{handed}
use Rattle.np_typing.proofs.UsesArguments.{arguments_fault, arguments_left, mapped_more, same_length, name_at}
use Rattle.np_typing.proofs.uses.calls.objects.Goals as goal

pub returns-in_err-object : goal.returns-in_err-object
returns-in_err-object c =
    let words = c.args.words.now in
    let i = c.loop-place.place in
    let w = c.index-words-place.result in
    handed _ _ c.from_residual.result c.in_err-object.field-0.0 c.from_residual.ensures.1
    (arguments_fault c.args.scope.now c.args.wanted.now (map ident.Name words) i (ident.Name w) _ _
    c.loop-place-test.true (same_length c.args.wanted.now words c.requires) (name_at c.args.wanted.now words i w c.loop-place-test.true c.requires c.index-words-place.is)
    c.loop-place.invariant.left c.in_err-object.ensures)

pub loop-place-preserved : goal.loop-place-preserved
loop-place-preserved c =
    let words = c.args.words.now in
    let i = c.loop-place.place in
    let w = c.index-words-place.result in
    let inside : i < length words = omega (arith, c.loop-place-test.true, c.requires) in
    record {
      left = arguments_left c.args.scope.now c.args.wanted.now (map ident.Name words) i (ident.Name w) _
          c.loop-place-test.true (same_length c.args.wanted.now words c.requires) (name_at c.args.wanted.now words i w c.loop-place-test.true c.requires c.index-words-place.is)
          c.loop-place.invariant.left c.in_ok-object.ensures.0;
      so_far = c.in_ok-push.ensures.ok ∙ mapped_more (λ (x : Word). number_of (object_names c.args.scope.now.objects) x.text) words c.loop-place.objects i w c.in_ok-object.field-0
          inside c.index-words-place.is c.loop-place.invariant.so_far c.in_ok-object.ensures.1;
    }
