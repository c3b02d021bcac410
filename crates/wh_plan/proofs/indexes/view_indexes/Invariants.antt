use Rattle.std.proofs.Common.{◌≡◌, take, map}
use Rattle.wh_plan.specs.Indexes.{index_sets}
use Rattle.wh_plan.proofs.indexes.view_indexes.Given as goal

abbrev pub invariant-loop-view : goal.invariant-loop-view
invariant-loop-view l = l.lists ≡ map (λ v. index_sets l.spec v.head) (take l.view-index l.view-items)
