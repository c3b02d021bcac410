use Rattle.std.proofs.lemmas.Result.{IfOk-weaker}
use Rattle.wh_overlay.proofs.OverlayLemmas.{overlaid, seen_once}
use Rattle.wh_overlay.proofs.overlay.OverlayBase.rows.Goals as goal

pub exchange-requires-clause-added : goal.exchange-requires-clause-added
exchange-requires-clause-added g c =
    (seen_once c.in_ok-added.added c.in_ok-copy.field-0 c.delta_at-delta.result.now.inserted c.in_ok-added.ensures c.in_ok-copy.ensures).distinct

pub returns-clause-rows : goal.returns-clause-rows
returns-clause-rows g c =
    let s = c.args.self.now in
    IfOk-weaker c.exchange.result _ _
    (λ changed. overlaid (g.B.Base.rows_at s.lower.now) s.deltas.now c.args.n c.delta_at-delta.result.now c.in_ok-rows.rows c.in_ok-gone.gone c.in_ok-copy.field-0 c.in_ok-added.added changed
    c.delta_at-delta.ensures c.in_ok-rows.ensures.rows.same c.in_ok-gone.ensures c.in_ok-added.ensures c.in_ok-copy.ensures)
    c.exchange.ensures
