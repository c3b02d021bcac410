use Rattle.wh_fit.proofs.SpelledTables.{rows_spelled, stored_spelled}
use Rattle.wh_fit.proofs.TextSpecs.{found}
use Rattle.wh_fit.proofs.stored_is_spelled.Goals as goal

pub returns : goal.returns
returns c = λ text spec s e fit spelled. let f = found text spec e in (rows_spelled spec s f.well_formed f.kinded fit spelled, stored_spelled spec s f.well_formed f.kinded fit spelled)
