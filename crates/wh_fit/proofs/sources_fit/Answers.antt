use Rattle.wh_fit.proofs.Sources.{sources_fit, sources_spelled}
use Rattle.wh_fit.proofs.TextSpecs.{found}
use Rattle.wh_fit.proofs.sources_fit.Goals as goal

pub returns : goal.returns
returns c = λ text spec s e st. let f = found text spec e in (sources_fit spec s f.well_formed st f.kinded, sources_spelled spec s f.well_formed st)
