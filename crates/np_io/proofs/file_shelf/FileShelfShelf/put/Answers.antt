-- A failed write is one more noted failure, and what follows from that.
use Rattle.std.proofs.Common.{true, refl}
use Rattle.np_io.proofs.Puts.{noted_behind, noted_rose, noted_only}
use Rattle.np_io.proofs.file_shelf.FileShelfShelf.put.Goals as goal

pub returns-in-Err-Failed-clause-noted : goal.returns-in-Err-Failed-clause-noted
returns-in-Err-Failed-clause-noted g c failed =
    noted_behind c.args.self.now.failed.items c.prepare.new.failed.items c.note.new.failed.items c.in_ok-failure.failure true c.args.name.now
    c.in_ok-failure.ensures.items
    c.in_ok-failure.ensures.failure
    c.note.ensures

pub returns-in-Err-Failed-clause-failed : goal.returns-in-Err-Failed-clause-failed
returns-in-Err-Failed-clause-failed g c failed =
    noted_rose c.args.self.now.failed.items c.note.new.failed.items true c.args.name.now (returns-in-Err-Failed-clause-noted g c failed)

pub returns-in-Err-Failed-clause-writes : goal.returns-in-Err-Failed-clause-writes
returns-in-Err-Failed-clause-writes g c =
    noted_only c.args.self.now.failed.items c.note.new.failed.items true c.args.name.now (returns-in-Err-Failed-clause-noted g c refl)
