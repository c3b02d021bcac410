use Rattle.wh_rewrite.proofs.PartLemmas.{from_none}
use Rattle.wh_rewrite.proofs.conditions.part_outside.Goals as goal

pub returns : goal.returns
returns c = from_none c.with_side.result _ c.with_side.ensures
