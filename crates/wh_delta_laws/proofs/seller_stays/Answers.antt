use Rattle.wh_delta_laws.proofs.Example
use Rattle.wh_delta_laws.proofs.seller_stays.Goals as goal

pub returns : goal.returns
returns c = Example.seller_stays
