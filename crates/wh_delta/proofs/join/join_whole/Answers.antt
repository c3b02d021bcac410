use Rattle.std.proofs.Common.{◌∙◌}
use Rattle.std.proofs.lemmas.Result.{IfOk-weaker}
use Rattle.wh_base.specs.Heads.{columns_at}
use Rattle.wh_eval.specs.Relation.{table_of}
use Rattle.wh_delta.proofs.Joins.{whole_same}
use Rattle.wh_delta.proofs.join.join_whole.Goals as goal

pub returns-clause-rows : goal.returns-clause-rows
returns-clause-rows g c =
    let base = c.args.base.now in
    IfOk-weaker c.join_rows.result _ _
    (λ both made.
    whole_same (table_of both) (table_of c.args.left) (columns_at (g.B.Base.heads_of base) c.args.n) c.as_slice.result.now c.as_slice-2.result.now c.in_ok-rows.rows
    (g.B.Base.rows_at base c.args.n) made (c.as_slice.ensures ∙ c.requires.columns) c.as_slice-2.ensures c.in_ok-rows.ensures.rows.same)
    c.join_rows.ensures
