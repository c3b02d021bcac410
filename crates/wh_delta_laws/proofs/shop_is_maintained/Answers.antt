use Rattle.wh_delta_laws.proofs.Example.{shop_maintained}
use Rattle.wh_delta_laws.proofs.shop_is_maintained.Goals as goal

pub returns : goal.returns
returns c = shop_maintained
