use Rattle.wh_fit.proofs.HeldLemmas.{image_fits}
use Rattle.wh_fit.proofs.images_fit.Goals as goal

pub returns : goal.returns
returns c = image_fits
