use Rattle.std.proofs.Common.{◌∙◌, ap, sym, subst, Bool, true, false, not, filter}
use Rattle.std.proofs.lemmas.List.{take_all}
use Rattle.np_model.specs.declared.task.Atom.{Atom}
use Rattle.np_model.specs.States.{is_among}
use Rattle.np_flat.specs.Flats.{IsAscending}
use Rattle.np_flat.specs.States.{put_all}
use Rattle.np_scale.specs.Code.{fact_of, facts_in}
use Rattle.np_scale.proofs.Steps.{test_at, facts_passed, facts_left}
use Rattle.np_scale.proofs.step.deleted_numbers.Goals.{then-not-has+in_ok-put_fact, else-not-has}
use Rattle.np_scale.proofs.step.deleted_numbers.Goals as goal

pub loop-atom-preserved : goal.loop-atom-preserved
loop-atom-preserved c =
    let unadded : Atom → Bool = λ a. not (is_among c.args.adds.now a) in
    elim c.if-not-has.branch [
      | then-not-has+in_ok-put_fact w ↦ record {
        put = facts_passed c.args.facts.now c.args.deletes.now unadded c.loop-atom.numbers.items c.if-not-has.numbers.items c.loop-atom.atom-index c.atom-item.result c.loop-atom-test.true
            (test_at c.args.adds.now c.in_ok-added.added c.args.deletes.now c.loop-atom.atom-index c.atom-item.result c.has.result true c.atom-item.is c.in_ok-added.ensures c.has.ensures (ap not w.if-not-has.true))
            c.loop-atom.invariant.put
            (ap (λ v. v.items) w.numbers-is ∙ w.in_ok-put_fact.ensures.put ∙ ap (λ x. put_all (fact_of c.args.facts.now x) c.loop-atom.numbers.items) c.atom-item.is);
        ascending = subst (λ v. IsAscending v.items) (sym w.numbers-is) w.in_ok-put_fact.ensures.ascending;
      }
      | else-not-has w ↦ record {
        put = ap (λ v. v.items) w.numbers-is ∙ facts_left c.args.facts.now c.args.deletes.now unadded c.loop-atom.numbers.items c.loop-atom.atom-index c.atom-item.result c.loop-atom-test.true
            (test_at c.args.adds.now c.in_ok-added.added c.args.deletes.now c.loop-atom.atom-index c.atom-item.result c.has.result false c.atom-item.is c.in_ok-added.ensures c.has.ensures (ap not w.if-not-has.false))
            c.loop-atom.invariant.put;
        ascending = subst (λ v. IsAscending v.items) (sym w.numbers-is) c.loop-atom.invariant.ascending;
      }
    ]

pub returns : goal.returns
returns c =
    c.from_vec.ensures ∙ c.loop-atom.invariant.put
    ∙ ap (λ l. facts_in c.args.facts.now (filter (λ a. not (is_among c.args.adds.now a)) l)) (take_all c.loop-atom.atom-index c.args.deletes.now c.loop-atom-test.false)
