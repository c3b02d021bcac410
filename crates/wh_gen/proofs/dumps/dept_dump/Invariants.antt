use Rattle.std.proofs.Common.{◌≡◌, map}
use Rattle.wh_base.specs.Lines.{csv_text}
use Rattle.wh_gen.specs.Case.{dept_columns, dept_row, numbers}
use Rattle.wh_gen.proofs.dumps.dept_dump.Given as goal

abbrev pub invariant-loop-i : goal.invariant-loop-i
invariant-loop-i l = l.dump.bytes ≡ csv_text dept_columns (map (dept_row l.number) (numbers l.i))
