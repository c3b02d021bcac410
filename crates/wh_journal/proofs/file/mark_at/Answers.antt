use Rattle.wh_journal.proofs.Walks.{nothing_walks, shut_walks}
use Rattle.wh_journal.proofs.file.mark_at.Goals as goal

pub returns-in_default : goal.returns-in_default
returns-in_default c = nothing_walks c.args.bytes.now c.in_default.len_below

pub returns-else-mark-eq-OPEN : goal.returns-else-mark-eq-OPEN
returns-else-mark-eq-OPEN c = shut_walks c.args.bytes.now c.in-len1-up.len_at_least c.if-mark-eq-OPEN.false
