use Rattle.wh_laws.proofs.Broken.{broken_carried}
use Rattle.wh_laws.proofs.broken_is_carried.Goals as goal

pub returns : goal.returns
returns c = λ spec s t. broken_carried spec t s
