use Rattle.std.proofs.Common.{◌∙◌, sym, ap, map, take, ◌++◌, ◌∷◌, [], ◌||◌}
use Rattle.wh_base.specs.Columns.{picked}
use Rattle.wh_base.specs.RowSet.{has}
use Rattle.wh_base.specs.Value.{row_eq}
use Rattle.wh_load.specs.Repeats.{comes_twice}
use Rattle.wh_load.proofs.RepeatLemmas.{has_more, twice_held, twice_new, values_more}
use Rattle.wh_load.proofs.repeats.repeats.Goals as goal
use Rattle.wh_load.proofs.repeats.repeats.Goals.{then-branch+in_ok-pick_at-2+in_ok-push, else-branch}

pub loop-row-preserved : goal.loop-row-preserved
loop-row-preserved c =
    let f = picked c.args.places.now in
    let ks = map f (take c.loop-row.row-index c.args.rows.now) in
    let k = c.in_ok-pick_at.field-0 in
    let more = values_more f c.args.rows.now c.loop-row.row-index c.row-item.result k c.loop-row-test.true c.row-item.is c.in_ok-pick_at.ensures in
    let before = sym (c.loop-row.invariant.held k) ∙ sym c.in_ok-was_held.ensures.before in
    record {
      held = λ q. c.in_ok-was_held.ensures.after q ∙ ap (λ b. row_eq k q || b) (c.loop-row.invariant.held q) ∙ has_more ks k q ∙ ap (λ l. has l q) more;
      repeated = elim c.if-branch.branch [
        | then-branch+in_ok-pick_at-2+in_ok-push w ↦ λ q.
            ap (λ rows. has rows q) (w.again-is ∙ w.in_ok-push.ensures.ok ∙ (λ i. c.loop-row.again ++ (w.in_ok-pick_at-2.ensures ∙ sym c.in_ok-pick_at.ensures) i ∷ []))
            ∙ twice_held ks c.loop-row.again k q (before ∙ w.if-branch.true) (c.loop-row.invariant.repeated q)
            ∙ ap (λ l. comes_twice l q) more
        | else-branch w ↦ λ q.
            ap (λ rows. has rows q) w.again-is
            ∙ twice_new ks c.loop-row.again k q (before ∙ w.if-branch.false) (c.loop-row.invariant.repeated q)
            ∙ ap (λ l. comes_twice l q) more
      ];
    }
