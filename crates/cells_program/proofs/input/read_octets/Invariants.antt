use Rattle.std.proofs.Common.{◌≤◌, length}
use Rattle.std.specs.Io.KnownBytes.{Consumes}
use Rattle.cells_program.specs.RunFault.{input_limit}
use Rattle.cells_program.proofs.input.read_octets.Given as goal

-- each read so far gave an octet at least
abbrev pub invariant-loop-read : goal.invariant-loop-read
invariant-loop-read g l =
    (l._read ≤ length l.octets.items) × (length l.octets.items ≤ input_limit)
    × Consumes (g.R.Read.remaining l.fn.reader) (g.R.Read.remaining l.reader) l.octets.items
