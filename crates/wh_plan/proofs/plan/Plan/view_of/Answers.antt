use Rattle.std.proofs.Common.{◌∙◌, ap, length}
use Rattle.wh_plan.specs.Expressions.{view_expr}
use Rattle.wh_plan.specs.declared.plan.Plan.{Plan}
use Rattle.wh_plan.proofs.PlanLemmas.{place_within, item_is}
use Rattle.wh_plan.proofs.plan.Plan.view_of.Goals as goal

pub bounds-as_slice-view : goal.bounds-as_slice-view
bounds-as_slice-view c =
    let spec = c.args.self.now.spec in
    place_within (view_expr spec) (length spec.views) c.args.view c.as_slice.result.now c.requires.view (c.as_slice.ensures ∙ ap (λ (p : Plan). p.view_exprs) c.requires.plan)

pub returns : goal.returns
returns c =
    let spec = c.args.self.now.spec in
    item_is (view_expr spec) (length spec.views) c.args.view c.as_slice.result.now c.requires.view (c.as_slice.ensures ∙ ap (λ (p : Plan). p.view_exprs) c.requires.plan) c.index-as_slice-view.result c.index-as_slice-view.is
