use Rattle.std.proofs.Common.{ℕ}
use Rattle.std.proofs.lemmas.Result.{IfOk-weaker}
use Rattle.wh_base.specs.Tables.{Table}
use Rattle.wh_expr.specs.Meaning.{tables}
use Rattle.wh_eval.proofs.EvaluateLemmas.{where-other}
use Rattle.wh_eval.proofs.evaluate.scanned_where.Goals as goal

pub returns-clause-rows : goal.returns-clause-rows
returns-clause-rows g c =
    let base : ℕ → Table = tables (g.B.Base.heads_of c.args.base.now) (g.B.Base.rows_at c.args.base.now) in
    IfOk-weaker c.narrow.result _ _
    (λ r. where-other base c.args.e.now r c.args.cols.now c.args.vals.now c.in_ok-all.all c.in_ok-all.ensures.rows)
    c.narrow.ensures
