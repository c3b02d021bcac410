use Rattle.wh_laws.proofs.Lists.{empty_list}
use Rattle.wh_laws.proofs.Lossless.{marked_empty}
use Rattle.wh_laws.proofs.marked_is_empty.Goals as goal

pub returns : goal.returns
returns c = λ spec s a r l e. empty_list _ (marked_empty spec s a.rules a.state a.legal r l e)
