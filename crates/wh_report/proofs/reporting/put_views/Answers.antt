use Rattle.std.proofs.Common.{◌++◌, ap, ◌∙◌}
use Rattle.wh_answer.specs.Answer.{rows_of}
use Rattle.wh_report.specs.Report.{rows_at, view_line}
use Rattle.wh_report.proofs.Numbered.{flat_more}
use Rattle.wh_report.proofs.reporting.put_views.Goals as goal

pub loop-number-preserved : goal.loop-number-preserved
loop-number-preserved c =
    let piece = view_line c.args.spec.now (rows_at (rows_of c.args.tables.now)) in
    c.in_ok-put_view.ensures ∙ ap (λ text. text ++ piece c.loop-number.number) c.loop-number.invariant ∙ flat_more piece c.args.text.now.bytes c.loop-number.number
