use Rattle.std.proofs.Common.{◌≡◌, [], map, get_or}
use Rattle.wh_schema.specs.Warehouse.{numbers}
use Rattle.wh_load.proofs.views.relation_lists.Given as goal

abbrev pub invariant-loop-relation : goal.invariant-loop-relation
invariant-loop-relation l = l.lists ≡ map (λ i. get_or l.s i []) (numbers l.relation)
