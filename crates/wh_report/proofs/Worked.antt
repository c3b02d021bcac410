-- The worked rows, computed.
use Rattle.std.proofs.Common.{refl}
use Rattle.std.specs.Fmt.{digits}
use Rattle.wh_report.specs.Example.{ClerksAreAudited, ShopIsReported}

pub shop_is_reported : ShopIsReported
unfolding digits
shop_is_reported = refl

pub clerks_are_audited : ClerksAreAudited
unfolding digits
clerks_are_audited = refl
