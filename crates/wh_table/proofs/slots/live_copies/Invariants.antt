use Rattle.std.proofs.Common.{◌≡◌, take}
use Rattle.wh_table.specs.Slots.{live_rows}
use Rattle.wh_table.proofs.slots.live_copies.Given as goal

abbrev pub invariant-loop-slot : goal.invariant-loop-slot
invariant-loop-slot l = l.rows ≡ live_rows (take l.slot-index l.slots)
