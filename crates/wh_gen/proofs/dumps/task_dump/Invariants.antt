use Rattle.std.proofs.Common.{◌≡◌, map}
use Rattle.wh_base.specs.Lines.{csv_text}
use Rattle.wh_gen.specs.Case.{task_columns, task_row, numbers}
use Rattle.wh_gen.proofs.dumps.task_dump.Given as goal

abbrev pub invariant-loop-i : goal.invariant-loop-i
invariant-loop-i l = l.dump.bytes ≡ csv_text task_columns (map (task_row l.number l.size) (numbers l.i))
