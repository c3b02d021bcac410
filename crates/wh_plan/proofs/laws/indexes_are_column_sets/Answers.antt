use Rattle.wh_plan.proofs.IndexLemmas.{column_sets}
use Rattle.wh_plan.proofs.laws.indexes_are_column_sets.Goals as goal

pub returns : goal.returns
returns c = column_sets
