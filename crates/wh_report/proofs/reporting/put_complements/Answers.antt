use Rattle.std.proofs.Common.{◌+◌, ◌++◌, length, ap, ◌∙◌}
use Rattle.wh_answer.specs.Answer.{rows_of}
use Rattle.wh_report.specs.Report.{complement_line, rows_at}
use Rattle.wh_report.proofs.Numbered.{flat_more}
use Rattle.wh_report.proofs.reporting.put_complements.Goals as goal

pub loop-rel-preserved : goal.loop-rel-preserved
loop-rel-preserved c =
    let spec = c.args.plan.now.spec in
    let piece = complement_line spec (λ r. rows_at (rows_of c.args.tables.now) (length spec.views + r)) in
    c.in_ok-put_complement.ensures ∙ ap (λ text. text ++ piece c.loop-rel.rel) c.loop-rel.invariant ∙ flat_more piece c.args.text.now.bytes c.loop-rel.rel
