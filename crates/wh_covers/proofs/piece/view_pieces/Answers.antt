use Rattle.std.proofs.Common.{◌∙◌, sym, ◌++◌, ◌∷◌, []}
use Rattle.wh_schema.specs.Warehouse.{is_usable_view, view_piece}
use Rattle.wh_covers.proofs.NumberLemmas.{kept_more, dropped_more}
use Rattle.wh_covers.proofs.piece.view_pieces.Goals as goal
use Rattle.wh_covers.proofs.piece.view_pieces.Goals.{then-is_usable_view+in_ok-view_piece+in_ok-push, else-is_usable_view}

pub loop-number-preserved : goal.loop-number-preserved
loop-number-preserved c =
    let kept = kept_more (view_piece c.args.spec.now c.args.rel) (is_usable_view c.args.spec.now c.args.rel) c.loop-number.number in
    let dropped = dropped_more (view_piece c.args.spec.now c.args.rel) (is_usable_view c.args.spec.now c.args.rel) c.loop-number.number in
    elim c.if-is_usable_view.branch [ then-is_usable_view+in_ok-view_piece+in_ok-push w ↦ w.pieces-is ∙ w.in_ok-push.ensures.ok ∙ (λ i. c.loop-number.invariant i ++ w.in_ok-view_piece.ensures i ∷ []) ∙ sym (kept (sym c.is_usable_view.ensures ∙ w.if-is_usable_view.true)) | else-is_usable_view w ↦ w.pieces-is ∙ c.loop-number.invariant ∙ sym (dropped (sym c.is_usable_view.ensures ∙ w.if-is_usable_view.false)) ]
