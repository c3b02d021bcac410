use Rattle.std.proofs.Common.{◌++◌, sym, ap, ◌∙◌, append_assoc}
use Rattle.std.specs.List.{flat_map}
use Rattle.wh_schema.specs.Warehouse.{numbers}
use Rattle.wh_plan.specs.PlanText.{piece_line}
use Rattle.wh_plan.proofs.OrderLemmas.{flat_numbers_more}
use Rattle.wh_plan.proofs.printing.put_pieces.Goals as goal

pub loop-place-preserved : goal.loop-place-preserved
loop-place-preserved c =
    let f = piece_line c.args.spec.now c.args.heads.now c.args.pieces.now in
    let i = c.loop-place.place in
    let first = c.args.out.now.bytes in
    c.in_ok-put_piece.ensures ∙ ap (λ l. l ++ f i) c.loop-place.invariant
    ∙ append_assoc first (flat_map f (numbers i)) (f i) ∙ ap (λ l. first ++ l) (sym (flat_numbers_more f i))
