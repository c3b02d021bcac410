use Rattle.wh_delta_laws.proofs.Connected.{outward_is_exact}
use Rattle.wh_delta_laws.proofs.outward_order_is_exact.Goals as goal

pub returns : goal.returns
returns c = outward_is_exact
