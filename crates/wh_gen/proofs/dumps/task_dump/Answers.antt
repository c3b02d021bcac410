use Rattle.std.proofs.Common.{◌∙◌, ◌++◌}
use Rattle.wh_base.specs.Lines.{line, csv_record}
use Rattle.wh_gen.specs.Case.{task_columns, task_row}
use Rattle.wh_gen.proofs.Growing.{csv_text_more}
use Rattle.wh_gen.proofs.dumps.task_dump.Goals as goal

pub loop-i-preserved : goal.loop-i-preserved
loop-i-preserved c =
    c.in_ok-put_line.ensures
    ∙ (λ j. c.loop-i.invariant j ++ line (csv_record (c.in_ok-task_row.ensures j)))
    ∙ csv_text_more task_columns (task_row c.args.number c.args.size) c.loop-i.i
