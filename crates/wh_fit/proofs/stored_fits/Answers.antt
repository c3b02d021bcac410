use Rattle.wh_fit.proofs.Carried.{fitting_is_state}
use Rattle.wh_fit.proofs.StoredKinds as kinds
use Rattle.wh_fit.proofs.TextSpecs.{found}
use Rattle.wh_fit.proofs.stored_fits.Goals as goal

pub returns : goal.returns
returns c = λ text spec s e fit. let f = found text spec e in (fitting_is_state spec s fit, kinds.stored_fits spec s f.well_formed f.kinded fit)
