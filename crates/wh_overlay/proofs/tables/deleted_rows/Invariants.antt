use Rattle.std.proofs.Common.{◌≡◌, map, take}
use Rattle.wh_base.specs.declared.value.Delta.{Delta}
use Rattle.wh_overlay.proofs.tables.deleted_rows.Given as goal

abbrev pub invariant-loop-delta : goal.invariant-loop-delta
invariant-loop-delta l = l.rows ≡ map (λ (d : Delta). d.deleted) (take l.delta-index l.deltas)
