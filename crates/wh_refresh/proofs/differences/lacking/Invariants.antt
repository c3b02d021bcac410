use Rattle.std.proofs.Common.{◌≡◌, take}
use Rattle.wh_base.specs.Tables.{without}
use Rattle.wh_refresh.proofs.differences.lacking.Given as goal

abbrev pub invariant-loop-row : goal.invariant-loop-row
invariant-loop-row l = l.found ≡ without (take l.row-index l.rows) l.others
