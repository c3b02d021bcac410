use Rattle.std.proofs.Common.{◌≡◌}
use Rattle.wh_plan.specs.Indexes.{single_sets}
use Rattle.wh_plan.proofs.indexes.single_sets.Given as goal

abbrev pub invariant-loop-place : goal.invariant-loop-place
invariant-loop-place l = l.sets ≡ single_sets l.place
