use Rattle.std.proofs.Common.{refl}
use Rattle.wh_fit.proofs.Example.{storable}
use Rattle.wh_fit.proofs.shop_fits.Goals as goal

pub returns : goal.returns
returns c = (storable, refl, refl, refl)
