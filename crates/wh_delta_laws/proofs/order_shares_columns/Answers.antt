use Rattle.wh_delta_laws.proofs.Connected.{order_shares}
use Rattle.wh_delta_laws.proofs.order_shares_columns.Goals as goal

pub returns : goal.returns
returns c = order_shares
