use Rattle.std.proofs.Common.{◌∙◌, sym, ap, ◌++◌, ◌∷◌, [], append_assoc}
use Rattle.wh_schema.specs.Warehouse.{is_usable_inclusion, inclusion_piece}
use Rattle.wh_covers.proofs.NumberLemmas.{kept_more, dropped_more}
use Rattle.wh_covers.proofs.piece.add_inclusion_pieces.Goals as goal
use Rattle.wh_covers.proofs.piece.add_inclusion_pieces.Goals.{then-is_usable_inclusion+in_ok-inclusion_piece+in_ok-push, else-is_usable_inclusion}

pub loop-number-preserved : goal.loop-number-preserved
loop-number-preserved c =
    let kept = kept_more (inclusion_piece c.args.spec.now c.args.rel) (is_usable_inclusion c.args.spec.now c.args.rel) c.loop-number.number in
    let dropped = dropped_more (inclusion_piece c.args.spec.now c.args.rel) (is_usable_inclusion c.args.spec.now c.args.rel) c.loop-number.number in
    elim c.if-is_usable_inclusion.branch [ then-is_usable_inclusion+in_ok-inclusion_piece+in_ok-push w ↦ w.pieces-is ∙ w.in_ok-push.ensures.ok ∙ (λ i. c.loop-number.invariant i ++ w.in_ok-inclusion_piece.ensures i ∷ []) ∙ append_assoc c.args.others _ _ ∙ ap (λ l. c.args.others ++ l) (sym (kept (sym c.is_usable_inclusion.ensures ∙ w.if-is_usable_inclusion.true))) | else-is_usable_inclusion w ↦ w.pieces-is ∙ c.loop-number.invariant ∙ ap (λ l. c.args.others ++ l) (sym (dropped (sym c.is_usable_inclusion.ensures ∙ w.if-is_usable_inclusion.false))) ]
