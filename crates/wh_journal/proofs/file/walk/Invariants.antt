use Rattle.std.proofs.Common.{◌≡◌, ◌+◌, length}
use Rattle.wh_journal.specs.File.{span, walk}
use Rattle.wh_journal.specs.Journal.{bodies_of}
use Rattle.wh_journal.proofs.Walks.{ahead}
use Rattle.wh_journal.proofs.file.walk.Given as goal

abbrev pub invariant-loop-body : goal.invariant-loop-body
invariant-loop-body l = record {
  walks : ahead (bodies_of l.bodies) (walk l.rest) ≡ walk l.file;
  place : span (bodies_of l.bodies) + length l.rest ≡ length l.file;
}

abbrev pub decreases-loop-body : goal.decreases-loop-body
decreases-loop-body l = length l.rest
