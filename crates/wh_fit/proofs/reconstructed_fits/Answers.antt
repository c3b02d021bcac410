use Rattle.wh_fit.proofs.Refreshes.{fits_back, spelled_back}
use Rattle.wh_fit.proofs.TextSpecs.{found}
use Rattle.wh_fit.proofs.reconstructed_fits.Goals as goal

pub returns : goal.returns
returns c = λ text spec tables e fit. let f = found text spec e in (fits_back spec f.well_formed tables f.kinded fit, spelled_back spec f.well_formed tables)
