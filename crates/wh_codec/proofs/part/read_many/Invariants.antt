use Rattle.std.proofs.Common.{◌≡◌, ◌-◌}
use Rattle.wh_codec.specs.Reading.{many_at}
use Rattle.wh_codec.proofs.Loop.{with_front}
use Rattle.wh_codec.proofs.part.read_many.Given as goal

abbrev pub invariant-loop : goal.invariant-loop
invariant-loop g l = with_front l.parts (many_at g.T.Part.part_at (l.count - l.counter) l.rest) ≡ many_at g.T.Part.part_at l.count l.bytes
