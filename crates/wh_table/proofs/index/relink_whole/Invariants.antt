use Rattle.std.proofs.Common.{◌≡◌, ◌+◌, length, map, take}
use Rattle.wh_table.specs.Hash.{hash_of}
use Rattle.wh_table.specs.Slots.{rows_of}
use Rattle.wh_table.proofs.index.relink_whole.Given as goal

abbrev pub invariant-loop-slot : goal.invariant-loop-slot
invariant-loop-slot l = record {
  keys : l.chains.keys ≡ map (hash_of) (rows_of (take l.slot-index l.slots));
  spare : l.chains.spare + l.slot-index ≡ l.fn.chains.spare + length l.fn.chains.keys;
}
