use Rattle.wh_laws.proofs.Changes.{complement_same_at_key}
use Rattle.wh_laws.proofs.quiet_keys_stay.Goals as goal

pub returns : goal.returns
returns c = complement_same_at_key
