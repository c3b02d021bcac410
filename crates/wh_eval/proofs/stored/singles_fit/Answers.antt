use Rattle.wh_eval.proofs.StoredLemmas.{fits_begun}
use Rattle.wh_eval.proofs.stored.singles_fit.Goals as goal

pub returns : goal.returns
returns c = fits_begun
