use Rattle.wh_laws.proofs.Changes.{key_carried}
use Rattle.wh_laws.proofs.broken_keys_are_carried.Goals as goal

pub returns : goal.returns
returns c = key_carried
