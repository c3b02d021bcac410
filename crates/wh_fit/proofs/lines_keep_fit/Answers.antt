use Rattle.wh_fit.proofs.LineLemmas.{lines_keep_fit}
use Rattle.wh_fit.proofs.lines_keep_fit.Goals as goal

pub returns : goal.returns
returns c = lines_keep_fit
