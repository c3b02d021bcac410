use Rattle.wh_laws.proofs.Changes.{inclusion_carried}
use Rattle.wh_laws.proofs.broken_inclusions_are_carried.Goals as goal

pub returns : goal.returns
returns c = inclusion_carried
