use Rattle.std.proofs.Common.{◌≡◌, take}
use Rattle.std.specs.List.{flat_map}
use Rattle.wh_schema.specs.Warehouse.{columns_of}
use Rattle.wh_lossless.proofs.joining.columns_of_all.Given as goal

abbrev pub invariant-loop-relation : goal.invariant-loop-relation
invariant-loop-relation l = l.names.items ≡ flat_map (columns_of l.spec) (take l.relation-index l.relations)
