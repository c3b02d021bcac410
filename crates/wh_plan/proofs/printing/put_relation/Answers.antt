use Rattle.std.proofs.Common.{◌∙◌, sym, subst}
use Rattle.wh_plan.specs.Held.{AreHeld}
use Rattle.wh_plan.proofs.HeldLemmas.{pieces_held}
use Rattle.wh_plan.proofs.printing.put_relation.Goals as goal

pub put_pieces-requires-clause-held : goal.put_pieces-requires-clause-held
put_pieces-requires-clause-held c =
    let spec = c.args.plan.now.spec in
    subst (AreHeld spec) (sym (c.as_slice-pieces.ensures ∙ c.pieces_of.ensures)) (pieces_held spec c.args.relation)
