use Rattle.std.proofs.Common.{◌≡◌}
use Rattle.wh_table_tests.proofs.change_tests.take_below.Given as goal

abbrev pub invariant-loop-i : goal.invariant-loop-i
invariant-loop-i l = l.table.indexes ≡ l.fn.table.indexes
