use Rattle.std.proofs.Common.{map, string_bytes, Global}
use Rattle.np_planner.proofs.Promises.{promise_of, word_of}
use Rattle.np_planner.specs.Promises.{call_of}
use Rattle.np_planner.proofs.Complete.{complete_of}
use Rattle.np_planner.proofs.Exactness.{exact_of}
use Rattle.np_planner.proofs.entry.planner.Goals as goal

pub returns-clause-promised : goal.returns-clause-promised
returns-clause-promised g c =
    promise_of (map (string_bytes {Z = Global}) c.args.words.now) (g.S.Shelf.seen c.args.shelf.now) (g.S.Shelf.seen c.answer-answer.new.shelf) (g.O.Sink.seen c.args.out.now) (g.O.Sink.seen c.say.new.out) c.say.result
    (record { answer = c.answer-answer.result; right = c.answer-answer.ensures; given = c.say.ensures.given })

pub returns-clause-headline : goal.returns-clause-headline
returns-clause-headline g c =
    word_of (map (string_bytes {Z = Global}) c.args.words.now) (g.S.Shelf.seen c.args.shelf.now) (g.S.Shelf.seen c.answer-answer.new.shelf) (g.O.Sink.seen c.args.out.now) (g.O.Sink.seen c.say.new.out) c.say.result
    (record { answer = c.answer-answer.result; right = c.answer-answer.ensures; given = c.say.ensures.given })

pub returns-clause-complete : goal.returns-clause-complete
returns-clause-complete g c =
    complete_of (call_of (map (string_bytes {Z = Global}) c.args.words.now) (g.S.Shelf.seen c.args.shelf.now) (g.S.Shelf.seen c.answer-answer.new.shelf) (g.O.Sink.seen c.args.out.now) (g.O.Sink.seen c.say.new.out)) c.say.result
    (record { answer = c.answer-answer.result; right = c.answer-answer.ensures; given = c.say.ensures.given })

pub returns-clause-exact : goal.returns-clause-exact
returns-clause-exact g c =
    exact_of (call_of (map (string_bytes {Z = Global}) c.args.words.now) (g.S.Shelf.seen c.args.shelf.now) (g.S.Shelf.seen c.answer-answer.new.shelf) (g.O.Sink.seen c.args.out.now) (g.O.Sink.seen c.say.new.out)) c.say.result
    (record { answer = c.answer-answer.result; right = c.answer-answer.ensures; given = c.say.ensures.given })
