use Rattle.std.proofs.Common.{None, ◌∙◌, ap, length}
use Rattle.wh_schema.specs.Warehouse.{pieces}
use Rattle.wh_plan.specs.Expressions.{key_probes}
use Rattle.wh_plan.specs.declared.plan.Plan.{Plan}
use Rattle.wh_plan.proofs.PlanLemmas.{place_within, item_or}
use Rattle.wh_plan.proofs.plan.Plan.key_probes_of.Goals as goal

pub bounds-as_slice-relation : goal.bounds-as_slice-relation
bounds-as_slice-relation c =
    let spec = c.args.self.now.spec in
    place_within (λ i. key_probes (pieces spec i)) (length spec.relations) c.args.relation c.as_slice.result.now c.requires.relation (c.as_slice.ensures ∙ ap (λ (p : Plan). p.key_probes) c.requires.plan)

pub returns : goal.returns
returns c =
    let spec = c.args.self.now.spec in
    item_or (λ i. key_probes (pieces spec i)) (length spec.relations) c.args.relation c.as_slice.result.now c.requires.relation (c.as_slice.ensures ∙ ap (λ (p : Plan). p.key_probes) c.requires.plan) None
