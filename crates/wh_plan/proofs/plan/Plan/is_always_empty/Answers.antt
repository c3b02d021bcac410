use Rattle.std.proofs.Common.{false, ◌∙◌, ap, length}
use Rattle.wh_schema.specs.EmptyMark.{always_empty}
use Rattle.wh_plan.specs.declared.plan.Plan.{Plan}
use Rattle.wh_plan.proofs.PlanLemmas.{place_within, item_or}
use Rattle.wh_plan.proofs.plan.Plan.is_always_empty.Goals as goal

pub bounds-as_slice-relation : goal.bounds-as_slice-relation
bounds-as_slice-relation c =
    let spec = c.args.self.now.spec in
    place_within (always_empty spec) (length spec.relations) c.args.relation c.as_slice.result.now c.requires.relation (c.as_slice.ensures ∙ ap (λ (p : Plan). p.empties) c.requires.plan)

pub returns : goal.returns
returns c =
    let spec = c.args.self.now.spec in
    item_or (always_empty spec) (length spec.relations) c.args.relation c.as_slice.result.now c.requires.relation (c.as_slice.ensures ∙ ap (λ (p : Plan). p.empties) c.requires.plan) false
