use Rattle.std.proofs.Common.{◌≡◌, map}
use Rattle.wh_base.specs.Lines.{csv_text}
use Rattle.wh_gen.specs.Case.{emp_columns, emp_row, numbers}
use Rattle.wh_gen.proofs.dumps.emp_dump.Given as goal

abbrev pub invariant-loop-i : goal.invariant-loop-i
invariant-loop-i l = l.dump.bytes ≡ csv_text emp_columns (map (emp_row l.number l.size) (numbers l.i))
