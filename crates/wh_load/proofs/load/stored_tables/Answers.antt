use Rattle.std.proofs.Common.{◌++◌, [], length, replicate, sym, ap, subst, ◌∙◌}
use Rattle.std.proofs.lemmas.Result.{IfOk-weaker}
use Rattle.wh_load.specs.Load.{HasDistinctRows}
use Rattle.wh_load.specs.Sources.{view_lists}
use Rattle.wh_load.proofs.EvaluationLemmas.{relations_count, relations_distinct, padded_views}
use Rattle.wh_load.proofs.load.stored_tables.Goals as goal

pub view_lists-requires-clause-whole : goal.view_lists-requires-clause-whole
view_lists-requires-clause-whole g c = ap length c.in_ok-relations.ensures ∙ relations_count c.args.plan.now.spec c.args.s.now

pub view_lists-requires-clause-distinct : goal.view_lists-requires-clause-distinct
view_lists-requires-clause-distinct g c = subst HasDistinctRows (sym c.in_ok-relations.ensures) (relations_distinct c.args.plan.now.spec c.args.s.now c.requires.distinct)

pub complement_lists-requires-clause-sources : goal.complement_lists-requires-clause-sources
complement_lists-requires-clause-sources g c =
    let spec = c.args.plan.now.spec in
    let relations = c.in_ok-relations.ensures in
    let count = ap length relations ∙ relations_count spec c.args.s.now in
    let views = c.in_ok-views.ensures.tables ∙ ap (view_lists spec) relations ∙ padded_views spec c.args.s.now c.requires.rules in
    c.in_ok-sources.ensures ∙ (λ i. (relations i ++ views i) ++ replicate (count i) [])

pub returns-clause-tables : goal.returns-clause-tables
returns-clause-tables g c =
    let spec = c.args.plan.now.spec in
    let views = c.in_ok-views.ensures.tables ∙ ap (view_lists spec) c.in_ok-relations.ensures ∙ padded_views spec c.args.s.now c.requires.rules in
    IfOk-weaker c.append_tables.result _ _ (λ tables h. h ∙ (λ i. views i ++ c.in_ok-rests.ensures.tables i)) c.append_tables.ensures
