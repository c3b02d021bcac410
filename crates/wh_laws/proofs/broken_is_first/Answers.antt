use Rattle.wh_laws.proofs.Broken.{broken_first}
use Rattle.wh_laws.proofs.broken_is_first.Goals as goal

pub returns : goal.returns
returns c = broken_first
