use Rattle.std.proofs.Common.{Ok, ap, sym}
use Rattle.wh_report.specs.Report.{report_text}
use Rattle.wh_command.proofs.Asks.{whole_text}
use Rattle.wh_command.proofs.report.report_of.Goals as goal

pub returns-clause-answer : goal.returns-clause-answer
returns-clause-answer g c = λ image of. ap Ok (sym (whole_text _ _ c.into_bytes.result (report_text image) c.new-text.ensures c.into_bytes.ensures (c.in_ok-report.ensures.ok image of)))
