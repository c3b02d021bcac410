use Rattle.std.proofs.Common.{◌≡◌, take, map}
use Rattle.wh_base.specs.Columns.{names_of}
use Rattle.wh_plan.specs.Indexes.{index_sets}
use Rattle.wh_plan.proofs.indexes.complement_indexes.Given as goal

abbrev pub invariant-loop-relation : goal.invariant-loop-relation
invariant-loop-relation l = l.lists ≡ map (λ r. index_sets l.spec (names_of r.attrs)) (take l.relation-index l.relation-items)
