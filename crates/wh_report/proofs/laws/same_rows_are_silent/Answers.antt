use Rattle.wh_report.proofs.AuditLemmas as lemmas
use Rattle.wh_report.proofs.laws.same_rows_are_silent.Goals as goal

pub returns : goal.returns
returns c = lemmas.same_rows_are_silent
