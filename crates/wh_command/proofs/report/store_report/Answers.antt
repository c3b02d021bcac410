use Rattle.std.proofs.Common.{Ok}
use Rattle.wh_report.specs.Report.{report_text}
use Rattle.wh_command.proofs.Asks.{opened_asks}
use Rattle.wh_command.proofs.report.store_report.Goals as goal

pub returns-in-Ok-clause-answer : goal.returns-in-Ok-clause-answer
returns-in-Ok-clause-answer g c =
    opened_asks (g.D.Disk.content c.args.first.now) (g.D.Disk.content c.args.second.now) (λ image. Ok (report_text image)) c.in-Ok.warehouse _ c.in-Ok.ensures.answer c.report_of.ensures.answer
