use Rattle.wh_report.specs.Report.{report_text}
use Rattle.wh_report.proofs.GivenBack.{appended}
use Rattle.wh_report.proofs.reporting.report.Goals as goal

pub returns-clause-ok : goal.returns-clause-ok
returns-clause-ok g c =
    appended c.args.w.now report_text c.args.out.now.bytes c.as_bytes.result.now c.in_ok-text.text.bytes c.append.new.self.bytes c.append.result c.in_ok-text.ensures.text c.as_bytes.ensures
    c.append.ensures.ok
