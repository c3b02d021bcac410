use Rattle.std.proofs.Common.{◌≡◌, drop, length}
use Rattle.wh_base.specs.Columns.{picked}
use Rattle.wh_base.specs.Value.{row_eq}
use Rattle.wh_eval.proofs.look_up.has_values.Given as goal

abbrev pub invariant-loop-place : goal.invariant-loop-place
invariant-loop-place l = row_eq (picked l.places l.row) l.values ≡ row_eq (picked (drop (length l.yielded) l.places) l.row) (drop (length l.yielded) l.values)
