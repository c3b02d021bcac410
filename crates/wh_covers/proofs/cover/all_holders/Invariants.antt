use Rattle.std.proofs.Common.{◌≡◌, map, take}
use Rattle.wh_covers.specs.Covers.{holders_of}
use Rattle.wh_covers.proofs.cover.all_holders.Given as goal

abbrev pub invariant-loop-name : goal.invariant-loop-name
invariant-loop-name l = l.lists ≡ map (holders_of l.pieces) (take l.name-index l.names)
