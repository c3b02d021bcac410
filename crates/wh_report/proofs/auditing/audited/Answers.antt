use Rattle.std.proofs.Common.{◌∙◌}
use Rattle.std.proofs.lemmas.Result.{IfOk-weaker}
use Rattle.wh_report.specs.Audit.{change_text}
use Rattle.wh_report.proofs.AuditLemmas.{audit_is}
use Rattle.wh_report.proofs.auditing.audited.Goals as goal

pub returns-clause-text : goal.returns-clause-text
returns-clause-text g c =
    IfOk-weaker c.text_of.result _ _
    (λ text is i k.
    is ∙ (λ j. change_text (c.relation_name.ensures j) (c.in_ok-delta.ensures j)) ∙ audit_is c.args.w.now i c.args.rel c.in_ok-held.held c.args.rows.now k c.in_ok-held.ensures.rows)
    c.text_of.ensures
