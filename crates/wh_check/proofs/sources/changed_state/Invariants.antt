use Rattle.std.proofs.Common.{◌≡◌, map}
use Rattle.wh_schema.specs.Warehouse.{numbers}
use Rattle.wh_check.proofs.HeldLemmas.{changed_at}
use Rattle.wh_check.proofs.sources.changed_state.Given as goal

abbrev pub invariant-loop-relation : goal.invariant-loop-relation
invariant-loop-relation l = l.changed ≡ map (changed_at l.held l.d) (numbers l.relation)
