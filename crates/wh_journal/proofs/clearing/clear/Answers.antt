use Rattle.wh_journal.proofs.Clears.{place_cleared}
use Rattle.wh_journal.proofs.clearing.clear.Goals as goal

pub returns-clause-place : goal.returns-clause-place
returns-clause-place g c = place_cleared _ _ c.in_ok-shut_and_cut.ensures.file
