use Rattle.wh_command.proofs.Audits.{opened_audits, opened_reads}
use Rattle.wh_command.proofs.audit.store_audit.Goals as goal

pub returns-in-Ok-clause-answer : goal.returns-in-Ok-clause-answer
returns-in-Ok-clause-answer g c =
    opened_audits c.args.word.now c.args.file.now (g.D.Disk.content c.args.first.now) (g.D.Disk.content c.args.second.now) (g.F.Files.held c.args.files.now) c.in-Ok.warehouse _ c.in-Ok.ensures.answer c.audit_of.ensures.answer

pub returns-in-Ok-clause-names : goal.returns-in-Ok-clause-names
returns-in-Ok-clause-names g c = opened_reads c.args.word.now c.args.file.now (g.D.Disk.content c.args.first.now) (g.D.Disk.content c.args.second.now) c.in-Ok.warehouse _ c.in-Ok.ensures.answer c.audit_of.ensures.names
