use Rattle.std.proofs.Common.{◌∙◌, sym, ap, [], length, add-one}
use Rattle.wh_schema.specs.Reconstruction.{iterate, take_next, is_ready}
use Rattle.wh_schema.specs.Warehouse.{numbers}
use Rattle.wh_plan.proofs.OrderLemmas.{iterate_more}
use Rattle.wh_plan.proofs.order.order.Goals as goal

pub loop-turn-preserved : goal.loop-turn-preserved
loop-turn-preserved c =
    let spec = c.args.spec.now in
    let next = take_next (is_ready spec) (numbers (length spec.relations)) in
    c.in_ok-taken.ensures ∙ ap next c.loop-turn.invariant ∙ sym (iterate_more c.loop-turn._turn next []) ∙ ap (λ n. iterate n next []) (sym (add-one c.loop-turn._turn))
