use Rattle.wh_table.specs.Slots.{is_row}
use Rattle.wh_table.proofs.Walks.{Walks, past}
use Rattle.wh_table.proofs.walk.slot_of.Given as goal

abbrev pub invariant-loop-at : goal.invariant-loop-at
invariant-loop-at l = Walks (is_row l.row) l.slots l.chains.keys l.key l.at

abbrev pub decreases-loop-at : goal.decreases-loop-at
decreases-loop-at l = past l.at
