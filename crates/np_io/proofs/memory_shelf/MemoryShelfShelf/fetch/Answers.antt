-- A failed read is one more noted failure, and what follows from that.
use Rattle.std.proofs.Common.{false, refl}
use Rattle.np_io.proofs.Puts.{noted_behind, noted_rose, noted_only}
use Rattle.np_io.proofs.memory_shelf.MemoryShelfShelf.fetch.Goals as goal

pub returns-clause-noted : goal.returns-clause-noted
returns-clause-noted c failed =
    noted_behind c.args.self.now.failed.items c.prepare.new.failed.items c.note.new.failed.items c.in_ok-failure.failure false c.args.name.now
    c.in_ok-failure.ensures.items
    c.in_ok-failure.ensures.failure
    c.note.ensures

pub returns-clause-failed : goal.returns-clause-failed
returns-clause-failed c failed =
    noted_rose c.args.self.now.failed.items c.note.new.failed.items false c.args.name.now (returns-clause-noted c failed)

pub returns-clause-absent : goal.returns-clause-absent
returns-clause-absent c absent other = returns-clause-failed c refl

pub returns-clause-reads : goal.returns-clause-reads
returns-clause-reads c =
    noted_only c.args.self.now.failed.items c.note.new.failed.items false c.args.name.now (returns-clause-noted c refl)
