use Rattle.wh_fit.proofs.Refreshes.{refreshed}
use Rattle.wh_fit.proofs.TextSpecs.{found}
use Rattle.wh_fit.proofs.refreshes_are_stored.Goals as goal

pub returns : goal.returns
returns c = λ text spec tables lines e fit spelled fitting. let f = found text spec e in refreshed spec f.well_formed tables f.kinded fit spelled lines fitting
