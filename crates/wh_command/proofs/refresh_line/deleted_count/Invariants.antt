use Rattle.std.proofs.Common.{◌≡◌, ◌*◌, ◌≤◌, take}
use Rattle.wh_command.specs.Refresh.{deleted_count}
use Rattle.wh_command.proofs.refresh_line.deleted_count.Given as goal

abbrev pub invariant-loop-delta : goal.invariant-loop-delta
invariant-loop-delta l = record {
  counted : l.count ≡ deleted_count (take l.delta-index l.deltas);
  bounded : l.count ≤ l.delta-index * 18446744073709551616;
}
