use Rattle.wh_laws.proofs.Changes.{broken_none}
use Rattle.wh_laws.proofs.legal_breaks_nothing.Goals as goal

pub returns : goal.returns
returns c = broken_none
