use Rattle.wh_command.proofs.Audits.{named_audits}
use Rattle.wh_command.proofs.audit.audit_of.Goals as goal

pub returns-clause-answer : goal.returns-clause-answer
returns-clause-answer g c = λ image of.
    named_audits c.args.word.now c.args.file.now image c.args.warehouse.now of (g.F.Files.held c.args.files.now) c.in_ok-place.place _ c.in_ok-place.ensures.answer (c.audit_at.ensures.answer image of)
