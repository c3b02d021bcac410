use Rattle.std.proofs.Common.{◌∙◌}
use Rattle.std.proofs.lemmas.Result.{IfOk-weaker}
use Rattle.wh_report.proofs.ReportLemmas.{report_is}
use Rattle.wh_report.proofs.reporting.reported.Goals as goal

pub returns-clause-text : goal.returns-clause-text
returns-clause-text g c =
    IfOk-weaker c.report_of.result _ _ (λ text is i k. is ∙ report_is c.args.w.now i c.in_ok-relations.relations k c.in_ok-relations.ensures.rows) c.report_of.ensures
