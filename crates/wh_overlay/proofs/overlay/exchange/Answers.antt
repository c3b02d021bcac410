use Rattle.std.proofs.lemmas.Result.{IfOk-weaker}
use Rattle.wh_overlay.proofs.OverlayLemmas.{exchanged-is}
use Rattle.wh_overlay.proofs.overlay.exchange.Goals as goal

pub returns : goal.returns
returns c =
    IfOk-weaker c.append-2.result _ _
    (λ changed is. exchanged-is c.args.rows c.args.gone c.args.added c.in_ok-copy.field-0 c.in_ok-leaving.leaving c.in_ok-without.field-0 changed
    c.in_ok-copy.ensures c.in_ok-leaving.ensures c.in_ok-without.ensures is c.requires.rows c.requires.added)
    c.append-2.ensures
