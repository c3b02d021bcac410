use Rattle.std.proofs.Common.{◌≡◌, take}
use Rattle.wh_plan.specs.Indexes.{key_sets}
use Rattle.wh_plan.proofs.indexes.key_sets.Given as goal

abbrev pub invariant-loop-relation : goal.invariant-loop-relation
invariant-loop-relation l = l.sets ≡ key_sets l.columns (take l.relation-index l.relations)
