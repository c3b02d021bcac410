use Rattle.wh_laws.proofs.Stored.{stored_ascending}
use Rattle.wh_laws.proofs.stored_is_in_order.Goals as goal

pub returns : goal.returns
returns c = stored_ascending
