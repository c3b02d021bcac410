use Rattle.wh_delta_laws.proofs.Grouping.{any_order}
use Rattle.wh_delta_laws.proofs.view_in_any_order.Goals as goal

pub returns : goal.returns
returns c = any_order
