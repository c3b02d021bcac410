use Rattle.wh_fit.proofs.HeldLemmas.{standing_fits}
use Rattle.wh_fit.proofs.standing_fits.Goals as goal

pub returns : goal.returns
returns c = standing_fits
