use Rattle.std.proofs.Common.{◌≡◌, take, map}
use Rattle.wh_base.specs.Columns.{picked}
use Rattle.wh_eval.proofs.rows.pick_all.Given as goal

abbrev pub invariant-loop-row : goal.invariant-loop-row
invariant-loop-row l = l.cuts ≡ map (picked l.places) (take l.row-index l.rows)
