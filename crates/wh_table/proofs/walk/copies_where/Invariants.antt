use Rattle.wh_table.specs.Slots.{has_at}
use Rattle.wh_table.proofs.Walks.{Gathers, past}
use Rattle.wh_table.proofs.walk.copies_where.Given as goal

abbrev pub invariant-loop-at : goal.invariant-loop-at
invariant-loop-at l = Gathers (has_at l.places l.values) l.slots l.chains.keys l.key l.at l.kept

abbrev pub decreases-loop-at : goal.decreases-loop-at
decreases-loop-at l = past l.at
