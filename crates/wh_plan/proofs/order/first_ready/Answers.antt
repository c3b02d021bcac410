use Rattle.std.proofs.Common.{◌≡◌, ◌∙◌, ◌<◌, length, sym, arith, true, false}
use Rattle.wh_schema.specs.Reconstruction.{is_ready}
use Rattle.wh_plan.proofs.OrderLemmas.{found_here, found_later}
use Rattle.wh_plan.proofs.order.first_ready.Goals as goal

pub returns-then-is_ready : goal.returns-then-is_ready
returns-then-is_ready c =
    let spec = c.args.spec.now in
    let i = c.loop-relation.relation in
    let within : i < length spec.relations = omega (arith, c.len-relation-end.ensures) in
    let ready : is_ready spec c.args.taken.now i ≡ true = sym c.is_ready.ensures ∙ c.if-is_ready.true in
    sym (c.loop-relation.invariant ∙ found_here (is_ready spec c.args.taken.now) (length spec.relations) i within ready)

pub loop-relation-preserved : goal.loop-relation-preserved
loop-relation-preserved c =
    let spec = c.args.spec.now in
    let i = c.loop-relation.relation in
    let within : i < length spec.relations = omega (arith, c.len-relation-end.ensures) in
    let ready : is_ready spec c.args.taken.now i ≡ false = sym c.is_ready.ensures ∙ c.if-is_ready.false in
    c.loop-relation.invariant ∙ found_later (is_ready spec c.args.taken.now) (length spec.relations) i within ready
