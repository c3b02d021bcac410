use Rattle.wh_delta_laws.proofs.Grouping
use Rattle.wh_delta_laws.proofs.candidates_in_orders.Goals as goal

pub returns : goal.returns
returns c = Grouping.candidates_in_orders
