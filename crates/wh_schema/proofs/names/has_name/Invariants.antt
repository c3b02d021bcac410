use Rattle.std.proofs.Common.{◌≡◌, map, drop}
use Rattle.wh_base.specs.Columns.{is_in}
use Rattle.wh_schema.proofs.names.has_name.Given as goal

abbrev pub invariant-loop-item : goal.invariant-loop-item
invariant-loop-item g l = is_in (map g.N.Named.name_of l.items) l.name ≡ is_in (map g.N.Named.name_of (drop l.item-index l.items)) l.name
