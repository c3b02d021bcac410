use Rattle.std.proofs.Common.{◌≡◌, take}
use Rattle.wh_base.specs.Columns.{picked}
use Rattle.wh_base.proofs.columns.pick.Given as goal

abbrev pub invariant-loop-place : goal.invariant-loop-place
invariant-loop-place l = l.row ≡ picked (take l.place-index l.places) l.r
