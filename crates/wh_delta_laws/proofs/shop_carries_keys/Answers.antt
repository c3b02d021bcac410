use Rattle.wh_delta_laws.proofs.Example.{shop_carries}
use Rattle.wh_delta_laws.proofs.shop_carries_keys.Goals as goal

pub returns : goal.returns
returns c = shop_carries
