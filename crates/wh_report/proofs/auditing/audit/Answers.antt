use Rattle.wh_report.specs.Audit.{audit_text}
use Rattle.wh_report.proofs.GivenBack.{appended}
use Rattle.wh_report.proofs.auditing.audit.Goals as goal

pub returns-clause-ok : goal.returns-clause-ok
returns-clause-ok g c =
    appended c.args.w.now (λ i. audit_text i c.args.rel c.args.rows.now) c.args.out.now.bytes c.as_bytes.result.now c.in_ok-text.text.bytes c.append.new.self.bytes c.append.result c.in_ok-text.ensures.text
    c.as_bytes.ensures c.append.ensures.ok
