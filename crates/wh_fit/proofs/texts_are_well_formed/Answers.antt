use Rattle.wh_fit.proofs.TextSpecs.{found}
use Rattle.wh_fit.proofs.texts_are_well_formed.Goals as goal

pub returns : goal.returns
returns c = λ text spec e. let f = found text spec e in (f.well_formed, f.within)
