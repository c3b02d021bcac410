use Rattle.wh_delta_laws.proofs.Connected.{connected_has_orders}
use Rattle.wh_delta_laws.proofs.connected_has_orders.Goals as goal

pub returns : goal.returns
returns c = connected_has_orders
