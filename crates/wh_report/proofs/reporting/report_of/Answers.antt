use Rattle.std.proofs.Common.{ap, ◌∙◌}
use Rattle.wh_answer.specs.Answer.{rows_of}
use Rattle.wh_store.proofs.TextualLemmas.{textual_is_numbered}
use Rattle.wh_report.specs.Report.{rows_at, total}
use Rattle.wh_report.proofs.ReportLemmas.{written}
use Rattle.wh_report.proofs.reporting.report_of.Goals as goal

pub put_complements-requires-clause-numbered : goal.put_complements-requires-clause-numbered
put_complements-requires-clause-numbered c = textual_is_numbered c.args.w.now.plan.spec c.requires.form.textual

pub returns : goal.returns
returns c =
    let w = c.args.w.now in
    let s = c.args.relations.now in
    written w.plan.spec (rows_of w.tables) s w.seq _ _ _ _ _ _ _ _ c.new-text.ensures c.in_ok-put_refreshes.ensures c.in_ok-put_views.ensures c.in_ok-put_complements.ensures c.in_ok-put_relations.ensures
    c.in_ok-put_totals.ensures (c.stored_total.ensures ∙ ap (total (rows_at (rows_of w.tables))) c.requires.form.count) (c.sources_total.ensures ∙ ap (total (rows_at s)) c.requires.count)
