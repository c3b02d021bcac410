use Rattle.wh_report.proofs.Worked as lemmas
use Rattle.wh_report.proofs.laws.rows_are_worked.Goals as goal

pub returns-clause-report : goal.returns-clause-report
returns-clause-report c = lemmas.shop_is_reported

pub returns-clause-audit : goal.returns-clause-audit
returns-clause-audit c = lemmas.clerks_are_audited
