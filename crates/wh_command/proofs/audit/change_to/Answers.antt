use Rattle.std.proofs.Common.{Ok, ap, arith, sym}
use Rattle.wh_report.specs.Audit.{audit_text}
use Rattle.wh_store.proofs.TextualLemmas.{textual_is_numbered}
use Rattle.wh_command.proofs.Asks.{whole_text}
use Rattle.wh_command.proofs.audit.change_to.Goals as goal

pub overflow_cast-place : goal.overflow_cast-place
overflow_cast-place g c =
    let numbered = textual_is_numbered c.args.warehouse.now.plan.spec c.requires.form.textual in
    let place = c.requires.place in
    omega (arith, numbered, place)

pub returns-clause-answer : goal.returns-clause-answer
returns-clause-answer g c = λ image of. ap Ok (sym (whole_text _ _ c.into_bytes.result (audit_text image c.args.place c.args.rows.now) c.new-text.ensures c.into_bytes.ensures (c.in_ok-audit.ensures.ok image of)))
