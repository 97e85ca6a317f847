-- What was read so far is what left the reader, and is within the limit.
use Rattle.std.proofs.Common.{◌≤◌, ◌<◌, length, vec_len}
use Rattle.std.specs.Io.KnownBytes.{Consumes}
use Rattle.np_io.proofs.stream.read_chunks.Given as goal

abbrev pub invariant-loop : goal.invariant-loop
invariant-loop g l =
    (vec_len l.bytes ≤ l.limit) × (0 < length l.chunk) × Consumes (g.F.Read.remaining l.fn.reader) (g.F.Read.remaining l.reader) l.bytes.items
