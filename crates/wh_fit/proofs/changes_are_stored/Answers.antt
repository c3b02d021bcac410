use Rattle.wh_fit.proofs.DifferenceLemmas.{changes_stored}
use Rattle.wh_fit.proofs.TextSpecs.{found}
use Rattle.wh_fit.proofs.changes_are_stored.Goals as goal

pub returns : goal.returns
returns c = λ text spec s t e a b. let f = found text spec e in changes_stored spec f.well_formed f.kinded s t a b
