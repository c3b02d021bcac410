use Rattle.std.proofs.Common.{◌≡◌, take}
use Rattle.wh_base.specs.Columns.{picked}
use Rattle.wh_base.proofs.columns.pick_at.Given as goal

abbrev pub invariant-loop-place : goal.invariant-loop-place
invariant-loop-place l = l.values ≡ picked (take l.place-index l.places) l.row
