use Rattle.std.proofs.Common.{[], get_or, ◌∙◌}
use Rattle.std.proofs.lemmas.Result.{IfOk-weaker}
use Rattle.wh_base.specs.Heads.{columns_at}
use Rattle.wh_expr.proofs.Congruence.{IsSetOf-matching}
use Rattle.wh_eval.proofs.lists.ListsBase.rows_where.Goals as goal

pub returns-clause-rows : goal.returns-clause-rows
returns-clause-rows g c =
    let s = c.args.self.now in
    IfOk-weaker c.copies_where.result _ _
    (λ kept is. IsSetOf-matching c.as_slice.result.now c.as_slice-2.result.now (columns_at s.heads.now c.args.n) c.args.cols.now c.args.vals.now kept c.list_at.result.now (get_or s.rows.now c.args.n [])
    is (c.as_slice.ensures ∙ c.in_ok-columns.ensures) c.as_slice-2.ensures c.list_at.ensures (s.distinct c.args.n))
    c.copies_where.ensures
