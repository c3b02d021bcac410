use Rattle.std.proofs.Common.{ap, sym, ◌∙◌}
use Rattle.wh_table.specs.Slots.{is_row, is_live_with}
use Rattle.wh_table.proofs.Walks.{begins, falls, passes_on}
use Rattle.wh_table.proofs.walk.slot_of.Goals as goal

pub loop-at-init : goal.loop-at-init
loop-at-init c = begins (is_row c.args.row.now) c.args.slots.now c.args.chains.now.keys c.args.key c.last-at.result c.requires c.last-at.ensures

pub loop-at-smaller : goal.loop-at-smaller
loop-at-smaller c = falls c.args.chains.now.keys c.args.key c.in-Some.slot c.loop-at.at c.before-at.result c.in-Some.is c.before-at.ensures

pub loop-at-preserved : goal.loop-at-preserved
loop-at-preserved c =
    passes_on c.index-slots-slot.result (is_row c.args.row.now) c.args.slots.now c.args.chains.now.keys c.args.key c.in-Some.slot c.loop-at.at c.before-at.result c.requires c.loop-at.invariant c.in-Some.is
    (ap (is_live_with (is_row c.args.row.now)) (sym c.index-slots-slot.is) ∙ sym c.holds.ensures ∙ c.if-holds.false)
    c.before-at.ensures
