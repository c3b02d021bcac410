use Rattle.std.proofs.lemmas.Result.{IfOk-weaker}
use Rattle.wh_base.specs.Heads.{columns_at}
use Rattle.wh_delta.proofs.Joins.{partners_same}
use Rattle.wh_delta.proofs.join.joined_row.Goals as goal

pub returns-clause-rows : goal.returns-clause-rows
returns-clause-rows g c =
    let base = c.args.base.now in
    IfOk-weaker c.with_partners.result _ _
    (λ rows made.
    partners_same (columns_at (g.B.Base.heads_of base) c.args.n) c.args.key.now c.args.places.now c.args.rest.now c.args.row.now c.in_ok-values.values
    c.as_slice.result.now c.in_ok-partners.partners (g.B.Base.rows_at base c.args.n) rows made c.as_slice.ensures c.in_ok-partners.ensures.rows.same c.in_ok-values.ensures)
    c.with_partners.ensures
