use Rattle.wh_laws.proofs.Covered.{relation_is_parts}
use Rattle.wh_laws.proofs.relation_is_parts.Goals as goal

pub returns : goal.returns
returns c = λ spec s a. relation_is_parts spec s a.rules a.state a.legal
