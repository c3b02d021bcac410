use Rattle.std.proofs.Common.{◌≡◌, ◌∷◌, drop}
use Rattle.wh_codec.specs.Reading.{ascends}
use Rattle.wh_codec.proofs.ordered.ascends.Given as goal

abbrev pub invariant-loop-row : goal.invariant-loop-row
invariant-loop-row l = ascends (l.last ∷ drop l.row-index l.rest) ≡ ascends l.rows
