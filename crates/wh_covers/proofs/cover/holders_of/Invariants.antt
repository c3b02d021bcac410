use Rattle.std.proofs.Common.{◌≡◌, take}
use Rattle.wh_covers.specs.Covers.{holders_of}
use Rattle.wh_covers.proofs.cover.holders_of.Given as goal

abbrev pub invariant-loop-piece : goal.invariant-loop-piece
invariant-loop-piece l = l.flags ≡ holders_of (take l.piece-index l.pieces) l.name
