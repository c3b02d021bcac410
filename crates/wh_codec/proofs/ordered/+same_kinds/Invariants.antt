use Rattle.std.proofs.Common.{length}
use Rattle.wh_codec.proofs.ordered.+same_kinds.Given as goal

abbrev pub decreases-same_kinds : goal.decreases-same_kinds
decreases-same_kinds l = length l.a.now
