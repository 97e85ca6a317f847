-- A failed write is one more noted failure, and what follows from that.
use Rattle.std.proofs.Common.{true, refl}
use Rattle.np_io.proofs.Puts.{noted_behind, noted_rose, noted_only, noted_kind}
use Rattle.np_io.proofs.memory_shelf.MemoryShelf.put_part.Goals as goal

pub returns-clause-noted : goal.returns-clause-noted
returns-clause-noted c failed =
    noted_behind c.args.self.now.failed.items c.prepare.new.failed.items c.note.new.failed.items c.in_ok-failure.failure true c.args.name.now
    c.in_ok-failure.ensures.items
    c.in_ok-failure.ensures.failure
    c.note.ensures

pub returns-clause-failed : goal.returns-clause-failed
returns-clause-failed c failed =
    noted_rose c.args.self.now.failed.items c.note.new.failed.items true c.args.name.now (returns-clause-noted c failed)

pub returns-clause-writes : goal.returns-clause-writes
returns-clause-writes c =
    noted_only c.args.self.now.failed.items c.note.new.failed.items true c.args.name.now (returns-clause-noted c refl)

pub returns-clause-reads : goal.returns-clause-reads
returns-clause-reads c =
    noted_kind c.args.self.now.failed.items c.note.new.failed.items true c.args.name.now (returns-clause-noted c refl)
