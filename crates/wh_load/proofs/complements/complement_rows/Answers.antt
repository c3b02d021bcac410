use Rattle.std.proofs.Common.{sym, subst, ◌∙◌}
use Rattle.std.proofs.lemmas.Result.{IfOk-weaker}
use Rattle.wh_load.specs.Load.{HasDistinctRows}
use Rattle.wh_load.proofs.EvaluationLemmas.{sources_distinct, inverse_held, complement_sorted}
use Rattle.wh_load.proofs.complements.complement_rows.Goals as goal

pub new-lists-requires : goal.new-lists-requires
new-lists-requires g c = subst HasDistinctRows (sym c.requires.sources) (sources_distinct c.args.plan.now.spec c.args.s.now c.requires.distinct)

pub eval-requires : goal.eval-requires
eval-requires g c =
    let lists = c.new-lists.result in
    inverse_held c.args.plan.now.spec c.args.s.now lists.rows.now c.args.relation c.inverse_of.result.now c.requires.rules (c.new-lists.ensures.rows ∙ c.requires.sources) c.requires.relation c.inverse_of.ensures

pub returns-clause-rows : goal.returns-clause-rows
returns-clause-rows g c =
    let lists = c.new-lists.result in
    IfOk-weaker c.sort_rows.result _ _
    (λ rows is.
    is
    ∙ complement_sorted c.args.plan.now.spec lists.heads.now c.args.s.now lists.rows.now c.args.relation c.inverse_of.result.now c.in_ok-covered.covered c.rows_of.result.now c.in_ok-rest.rest c.requires.rules
    (c.new-lists.ensures.heads ∙ c.requires.heads) (c.new-lists.ensures.rows ∙ c.requires.sources) c.requires.relation c.inverse_of.ensures c.in_ok-covered.ensures.rows c.rows_of.ensures c.in_ok-rest.ensures)
    c.sort_rows.ensures
