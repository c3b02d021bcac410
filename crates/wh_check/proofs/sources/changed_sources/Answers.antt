use Rattle.std.proofs.Common.{length, sym, ap, subst, ◌∙◌}
use Rattle.std.proofs.lemmas.Result.{IfOk-weaker}
use Rattle.wh_load.specs.Load.{HasDistinctRows}
use Rattle.wh_schema.specs.Warehouse.{SameState, State}
use Rattle.wh_check.specs.Check.{sources_with}
use Rattle.wh_check.proofs.HeldLemmas.{changed_distinct, changed_length, changed_rows}
use Rattle.wh_check.proofs.sources.changed_sources.Goals as goal

pub returns-clause-count : goal.returns-clause-count
returns-clause-count g c =
    IfOk-weaker c.changed_state.result _ _ (λ s is. ap length is ∙ changed_length c.in_ok-held.held c.args.d.now ∙ c.in_ok-held.ensures.count) c.changed_state.ensures

pub returns-clause-distinct : goal.returns-clause-distinct
returns-clause-distinct g c =
    IfOk-weaker c.changed_state.result _ _ (λ s is. subst HasDistinctRows (sym is) (changed_distinct c.in_ok-held.held c.args.d.now)) c.changed_state.ensures

pub returns-clause-rows : goal.returns-clause-rows
returns-clause-rows g c =
    IfOk-weaker c.changed_state.result _ _
    (λ s is i k.
    subst (λ (x : State). SameState i.spec x (sources_with i c.args.d.now)) (sym is)
    (changed_rows i c.in_ok-held.held c.args.d.now (c.in_ok-held.ensures.count ∙ ap (λ sp. length sp.relations) k.spec) (c.in_ok-held.ensures.rows i k)))
    c.changed_state.ensures
