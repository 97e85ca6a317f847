use Rattle.std.proofs.Common.{◌≡◌, ◌++◌, ◌+◌, drop, sym, ap, ◌∙◌, arith}
use Rattle.std.proofs.lemmas.Grind.{common_steps}
use Rattle.np_names.specs.declared.fault.TypeWhy.TheVariants.{NameTwice}
use Rattle.np_names.specs.Faults.{faults_of}
use Rattle.np_names.specs.Names.{repeats, texts, words_of}
use Rattle.np_names.proofs.Answering.{first_in}
use Rattle.np_names.proofs.Lists.{flat_map_next}
use Rattle.np_names.proofs.Repeats.{repeat_faults_more, repeats_after, names_more}
use Rattle.np_names.proofs.names.put_groups.Goals as goal

pub returns-in_err-put_words : goal.returns-in_err-put_words
returns-in_err-put_words c =
    let rest = words_of (drop (c.loop-group.group-index + 1) c.args.groups.now) in
    let next : words_of (drop c.loop-group.group-index c.args.groups.now) ≡ c.as_slice.result.now ++ rest =
    flat_map_next (λ g. g.words) c.args.groups.now c.loop-group.group-index c.group-item.result c.loop-group-test.true c.group-item.is
    ∙ ap (λ ws. ws ++ rest) (sym c.as_slice.ensures) in
    let all : faults_of c.args.source NameTwice (repeats c.args.names.now (words_of c.args.groups.now)) ≡ faults_of c.args.source NameTwice (repeats c.loop-group.names c.as_slice.result.now) ++ faults_of c.args.source NameTwice (repeats (c.loop-group.names ++ texts c.as_slice.result.now) rest)
    = ap (faults_of c.args.source NameTwice) (c.loop-group.invariant.1 ∙ ap (repeats c.loop-group.names) next)
    ∙ repeat_faults_more c.args.source NameTwice c.loop-group.names c.as_slice.result.now rest in
    let first = first_in (faults_of c.args.source NameTwice (repeats c.args.names.now (words_of c.args.groups.now))) (faults_of c.args.source NameTwice (repeats c.loop-group.names c.as_slice.result.now)) (faults_of c.args.source NameTwice (repeats (c.loop-group.names ++ texts c.as_slice.result.now) rest)) all in
    grind (arith, common_steps, first)

pub loop-group-preserved : goal.loop-group-preserved
loop-group-preserved c =
    let rest = words_of (drop (c.loop-group.group-index + 1) c.args.groups.now) in
    let next : words_of (drop c.loop-group.group-index c.args.groups.now) ≡ c.as_slice.result.now ++ rest =
    flat_map_next (λ g. g.words) c.args.groups.now c.loop-group.group-index c.group-item.result c.loop-group-test.true c.group-item.is
    ∙ ap (λ ws. ws ++ rest) (sym c.as_slice.ensures) in
    let answer = c.in_ok-put_words.ensures in (
      c.loop-group.invariant.0 ∙ (ap (λ ws. c.loop-group.names ++ texts ws) next ∙ (names_more c.loop-group.names c.as_slice.result.now rest ∙ ap (λ ns. ns ++ texts rest) (sym answer.1))),
      c.loop-group.invariant.1 ∙ (ap (repeats c.loop-group.names) next ∙ (repeats_after c.args.source NameTwice c.loop-group.names c.as_slice.result.now rest answer.0 ∙ ap (λ ns. repeats ns rest) (sym answer.1))),
    )
