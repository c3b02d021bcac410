use Rattle.std.proofs.Common.{length}
use Rattle.wh_store.proofs.tables.+fits_attrs.Given as goal

abbrev pub decreases-fits_attrs : goal.decreases-fits_attrs
decreases-fits_attrs l = length l.attrs.now
