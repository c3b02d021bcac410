use Rattle.std.proofs.Common.{◌≡◌, ◌+◌, length}
use Rattle.std.specs.Io.KnownBytes.{Consumes}
use Rattle.wh_disk.proofs.files.read_pieces.Given as goal

abbrev pub invariant-loop-count : goal.invariant-loop-count
invariant-loop-count g l = record {
  count : length l.text.bytes + l.left ≡ l.limit;
  read : Consumes (g.T.Read.remaining l.initial.from) (g.T.Read.remaining l.from) l.text.bytes;
}

abbrev pub decreases-loop-count : goal.decreases-loop-count
decreases-loop-count g l = l.left
