use Rattle.std.proofs.Common.{◌≡◌, ◌*◌, ◌≤◌, take}
use Rattle.wh_command.specs.Load.{row_count}
use Rattle.wh_command.proofs.load.row_count.Given as goal

abbrev pub invariant-loop-rows : goal.invariant-loop-rows
invariant-loop-rows l = record {
  counted : l.count ≡ row_count (take l.rows-index l.rows-items);
  bounded : l.count ≤ l.rows-index * 18446744073709551616;
}
