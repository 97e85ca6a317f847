use Rattle.std.proofs.Common.{◌≡◌, ◌||◌, drop, is_some}
use Rattle.std.specs.Borrow.{Bor}
use Rattle.indexmap.specs.IndexSet as sets
use Rattle.np_model.specs.declared.task.Term.{Term}
use Rattle.np_model.specs.Ground.{same_term}
use Rattle.np_model.specs.States.{value_among}
use Rattle.np_model.specs.Plans.{with_zeros}
use Rattle.np_bind.proofs.starting.with_zeros.Given as goal

-- the terms that are left are given what they need; a term has a value where it had one or was met
abbrev pub invariant-loop-term : goal.invariant-loop-term
invariant-loop-term l =
    (with_zeros l.values l.terms ≡ with_zeros l.all (drop l.term-index l.terms))
    × ((q : Bor Term) → is_some (value_among l.all q.now) ≡ (is_some (value_among l.values q.now) || sets.contains (λ x y. same_term x.now y.now) l.met q))
