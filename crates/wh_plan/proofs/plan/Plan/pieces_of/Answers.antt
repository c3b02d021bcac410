use Rattle.std.proofs.Common.{◌∙◌, ap, length}
use Rattle.wh_schema.specs.Warehouse.{pieces}
use Rattle.wh_plan.specs.declared.plan.Plan.{Plan}
use Rattle.wh_plan.proofs.PlanLemmas.{place_within, item_is}
use Rattle.wh_plan.proofs.plan.Plan.pieces_of.Goals as goal

pub bounds-as_slice-relation : goal.bounds-as_slice-relation
bounds-as_slice-relation c =
    let spec = c.args.self.now.spec in
    place_within (pieces spec) (length spec.relations) c.args.relation c.as_slice.result.now c.requires.relation (c.as_slice.ensures ∙ ap (λ (p : Plan). p.pieces) c.requires.plan)

pub returns : goal.returns
returns c =
    let spec = c.args.self.now.spec in
    item_is (pieces spec) (length spec.relations) c.args.relation c.as_slice.result.now c.requires.relation (c.as_slice.ensures ∙ ap (λ (p : Plan). p.pieces) c.requires.plan) c.index-as_slice-relation.result c.index-as_slice-relation.is
