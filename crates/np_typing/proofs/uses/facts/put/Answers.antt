use Rattle.std.proofs.Common.{◌≡◌, List, refl, sym, ap, ◌∙◌}
use Rattle.np_words.specs.declared.word.Word.{Word}
use Rattle.np_problem.specs.declared.problem.Fact.TheVariants as fact
use Rattle.np_typing.specs.Facts.{fact_faults}
use Rattle.np_typing.proofs.UsesAnswers.{answers_same}
use Rattle.np_typing.proofs.UsesValues.{with_fact_atom, with_fact_not, with_fact_value, faults_value}
use Rattle.np_typing.proofs.uses.facts.put.Goals as goal

pub returns-in-Atom : goal.returns-in-Atom
returns-in-Atom c = λ before h.
    let w = c.in-Atom.word in
    let words = c.as_slice.result.now in
    let is : c.args.fact.now ≡ fact.Atom w words = c.in-Atom.is ∙ ap (λ (ws : List Word). fact.Atom w ws) (sym c.as_slice.ensures) in
    answers_same _ _ _ _ c.put_atom.result (ap (fact_faults c.args.scope.now before) is)
    (λ u e. with_fact_atom c.args.scope.now before c.args.fact.now w words c.args.facts.now _ is h e refl) c.put_atom.ensures

pub returns-in-NotAtom : goal.returns-in-NotAtom
returns-in-NotAtom c = λ before h.
    let w = c.in-NotAtom.word in
    let words = c.as_slice-in-NotAtom.result.now in
    let is : c.args.fact.now ≡ fact.NotAtom w words = c.in-NotAtom.is ∙ ap (λ (ws : List Word). fact.NotAtom w ws) (sym c.as_slice-in-NotAtom.ensures) in
    answers_same _ _ _ _ c.negated.result (ap (fact_faults c.args.scope.now before) is)
    (λ u e. with_fact_not c.args.scope.now before c.args.fact.now w words c.args.facts.now is h) c.negated.ensures

pub returns-in-Value : goal.returns-in-Value
returns-in-Value c = λ before h.
    let w = c.in-Value.word in
    let words = c.as_slice-in-Value.result.now in
    let alone = c.in-Value.field-2 in
    let number = c.in-Value.number in
    let is : c.args.fact.now ≡ fact.Value w words alone number = c.in-Value.is ∙ ap (λ (ws : List Word). fact.Value w ws alone number) (sym c.as_slice-in-Value.ensures) in
    answers_same _ _ _ _ c.put_value.result (faults_value c.args.scope.now before c.args.fact.now w words alone number c.args.facts.now is h)
    (λ u e. with_fact_value c.args.scope.now before c.args.fact.now w words alone number c.args.facts.now _ is h refl e) c.put_value.ensures
