use Rattle.std.proofs.Common.{length, ap, ◌∙◌}
use Rattle.std.proofs.lemmas.Result.{IfOk-weaker}
use Rattle.wh_base.specs.RowSet.{in_order}
use Rattle.wh_schema.specs.Warehouse.{State, view_table}
use Rattle.wh_load.proofs.EvaluationLemmas.{view_held, view_sorted}
use Rattle.wh_load.proofs.views.view_rows.Goals as goal

pub eval-requires : goal.eval-requires
eval-requires g c =
    let lists = c.new-lists.result in
    view_held c.args.plan.now.spec lists.rows.now c.args.view c.view_of.result.now c.requires.rules (ap length c.new-lists.ensures.rows ∙ c.requires.whole) c.requires.view c.view_of.ensures

pub returns-clause-rows : goal.returns-clause-rows
returns-clause-rows g c =
    let spec = c.args.plan.now.spec in
    let lists = c.new-lists.result in
    IfOk-weaker c.sort_rows.result _ _
    (λ rows is.
    is
    ∙ view_sorted spec lists.heads.now lists.rows.now c.args.view c.view_of.result.now c.in_ok-rows.rows c.requires.rules (c.new-lists.ensures.heads ∙ c.requires.heads) c.requires.view c.view_of.ensures c.in_ok-rows.ensures.rows
    ∙ ap (λ (t : State). in_order (view_table spec t c.args.view).rows) c.new-lists.ensures.rows)
    c.sort_rows.ensures
