use Rattle.wh_fit.proofs.LineLemmas.{changes_fit}
use Rattle.wh_fit.proofs.changes_fit.Goals as goal

pub returns : goal.returns
returns c = changes_fit
