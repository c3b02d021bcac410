use Rattle.wh_command.proofs.Audits.{read_audits}
use Rattle.wh_command.proofs.audit.audit_at.Goals as goal

pub returns-clause-answer : goal.returns-clause-answer
returns-clause-answer g c = λ image of.
    read_audits c.args.file.now image c.args.warehouse.now of c.args.place c.relation_at-relation.result.now c.relation_at-relation.ensures (g.F.Files.held c.args.files.now) c.in_ok-rows.rows _ c.in_ok-rows.ensures.answer (c.change_to.ensures.answer image of)
