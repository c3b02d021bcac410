use Rattle.wh_report.proofs.ReportLemmas as lemmas
use Rattle.wh_report.proofs.laws.reports_are_of_state.Goals as goal

pub returns : goal.returns
returns c = lemmas.reports_are_of_state
