use Rattle.std.proofs.Common.{◌≡◌, ap, sym, ◌∙◌, ◌++◌, ◌∷◌, [], ◌<◌, length, get_or}
use Rattle.std.proofs.lemmas.List.{get_or_default}
use Rattle.wh_table.specs.Slots.{has_at, is_live_with}
use Rattle.wh_table.proofs.Walks.{begins, falls, stands_at, gathers_none, gathers_yes, gathers_no}
use Rattle.wh_table.proofs.walk.copies_where.Goals as goal
use Rattle.wh_table.proofs.walk.copies_where.Goals.{then-matches+in_ok-copy+in_ok-push, else-matches}

pub loop-at-init : goal.loop-at-init
loop-at-init c =
    gathers_none (has_at c.args.places.now c.args.values.now) c.args.slots.now c.args.chains.now.keys c.args.key c.last-at.result c.new-kept.result c.new-kept.ensures
    (begins (has_at c.args.places.now c.args.values.now) c.args.slots.now c.args.chains.now.keys c.args.key c.last-at.result c.requires c.last-at.ensures)

pub loop-at-smaller : goal.loop-at-smaller
loop-at-smaller c = falls c.args.chains.now.keys c.args.key c.in-Some.slot c.loop-at.at c.before-at.result c.in-Some.is c.before-at.ensures

pub loop-at-preserved : goal.loop-at-preserved
loop-at-preserved c =
    let x = c.index-slots-slot.result in
    let test = has_at c.args.places.now c.args.values.now in
    let asked : is_live_with test (get_or c.args.slots.now c.in-Some.slot x) ≡ c.matches.result = ap (is_live_with test) (sym c.index-slots-slot.is) ∙ sym c.matches.ensures in
    let within : c.in-Some.slot < length c.args.slots.now = stands_at c.args.chains.now.keys c.args.key (length c.args.slots.now) c.loop-at.at c.in-Some.slot c.loop-at.invariant.standing c.in-Some.is in
    elim c.if-matches.branch [
      | then-matches+in_ok-copy+in_ok-push w ↦
          gathers_yes x test c.args.slots.now c.args.chains.now.keys c.args.key c.in-Some.slot c.loop-at.at c.before-at.result c.loop-at.kept c.if-matches.kept c.requires c.loop-at.invariant c.in-Some.is
          (asked ∙ w.if-matches.true)
          (w.kept-is ∙ w.in_ok-push.ensures.ok ∙ ap (λ r. c.loop-at.kept ++ r ∷ []) (w.in_ok-copy.ensures ∙ ap (λ s. s.row) (get_or_default c.args.slots.now c.in-Some.slot w.index-slots-slot-then-matches.result x within)))
          c.before-at.ensures
      | else-matches w ↦
          gathers_no x test c.args.slots.now c.args.chains.now.keys c.args.key c.in-Some.slot c.loop-at.at c.before-at.result c.loop-at.kept c.if-matches.kept c.requires c.loop-at.invariant c.in-Some.is
          (asked ∙ w.if-matches.false) w.kept-is c.before-at.ensures
    ]
