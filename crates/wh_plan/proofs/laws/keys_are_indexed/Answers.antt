use Rattle.wh_plan.proofs.IndexLemmas.{key_indexed}
use Rattle.wh_plan.proofs.laws.keys_are_indexed.Goals as goal

pub returns : goal.returns
returns c = key_indexed
