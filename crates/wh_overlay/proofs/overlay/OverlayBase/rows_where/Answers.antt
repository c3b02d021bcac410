use Rattle.std.proofs.Common.{◌∙◌, slice_get}
use Rattle.std.proofs.lemmas.Result.{IfOk-weaker}
use Rattle.wh_base.specs.Heads.{columns_at}
use Rattle.wh_eval.specs.Stored.{rows_in}
use Rattle.wh_overlay.proofs.OverlayLemmas.{overlaid-where}
use Rattle.wh_overlay.proofs.overlay.OverlayBase.rows_where.Goals as goal

pub returns-clause-rows : goal.returns-clause-rows
returns-clause-rows g c =
    let s = c.args.self.now in
    let n = c.args.n in
    IfOk-weaker c.exchange.result _ _
    (λ changed. overlaid-where (g.B.Base.rows_at s.lower.now) s.deltas.now n c.as_slice-columns.result.now (columns_at (g.B.Base.heads_of s.lower.now) n) c.as_slice-names.result.now c.args.cols.now c.args.vals.now
    c.in_ok-rows.rows c.in_ok-gone.gone c.in_ok-added.added (rows_in (slice_get s.deleted n)) (rows_in (slice_get s.inserted n)) changed
    (c.as_slice-columns.ensures ∙ c.in_ok-columns.ensures ∙ (λ j. columns_at (c.heads.ensures j) n)) c.as_slice-names.ensures c.in_ok-rows.ensures.rows.same
    c.in_ok-gone.ensures.rows.same (s.deleted_rows n) c.in_ok-added.ensures.rows.same (s.inserted_rows n))
    c.exchange.ensures
