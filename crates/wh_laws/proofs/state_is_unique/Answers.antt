use Rattle.wh_laws.proofs.Reconstruction.{only_state}
use Rattle.wh_laws.proofs.state_is_unique.Goals as goal

pub returns : goal.returns
returns c = λ spec s t a b. only_state spec s t a.rules a.state b.state a.legal b.legal
