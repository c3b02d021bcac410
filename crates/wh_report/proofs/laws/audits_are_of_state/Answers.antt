use Rattle.wh_report.proofs.AuditLemmas as lemmas
use Rattle.wh_report.proofs.laws.audits_are_of_state.Goals as goal

pub returns : goal.returns
returns c = lemmas.audits_are_of_state
