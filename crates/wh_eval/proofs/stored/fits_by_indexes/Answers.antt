use Rattle.wh_eval.proofs.StoredLemmas.{fits_from, fits_to}
use Rattle.wh_eval.proofs.stored.fits_by_indexes.Goals as goal

pub returns : goal.returns
returns c = λ attrs t. (fits_from attrs t, fits_to attrs t)
