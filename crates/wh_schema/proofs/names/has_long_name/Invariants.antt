use Rattle.std.proofs.Common.{◌≡◌, map, drop}
use Rattle.wh_schema.specs.Rules.{has_long_name}
use Rattle.wh_schema.proofs.names.has_long_name.Given as goal

abbrev pub invariant-loop-item : goal.invariant-loop-item
invariant-loop-item g l = has_long_name (map g.N.Named.name_of l.items) ≡ has_long_name (map g.N.Named.name_of (drop l.item-index l.items))
