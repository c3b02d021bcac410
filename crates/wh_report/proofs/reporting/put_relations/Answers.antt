use Rattle.std.proofs.Common.{◌++◌, ap, ◌∙◌}
use Rattle.wh_report.specs.Report.{relation_line, rows_at}
use Rattle.wh_report.proofs.Numbered.{flat_more}
use Rattle.wh_report.proofs.reporting.put_relations.Goals as goal

pub loop-number-preserved : goal.loop-number-preserved
loop-number-preserved c =
    let piece = relation_line c.args.spec.now (rows_at c.args.relations.now) in
    c.in_ok-put_relation.ensures ∙ ap (λ text. text ++ piece c.loop-number.number) c.loop-number.invariant ∙ flat_more piece c.args.text.now.bytes c.loop-number.number
