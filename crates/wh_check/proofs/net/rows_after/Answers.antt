use Rattle.std.proofs.Common.{ap, ◌∙◌, arith}
use Rattle.std.proofs.lemmas.Result.{IfOk-weaker}
use Rattle.wh_base.specs.RowSet.{has}
use Rattle.wh_check.proofs.NetLemmas.{line_told, lines_told}
use Rattle.wh_check.proofs.net.rows_after.Goals as goal

pub loop-line-init : goal.loop-line-init
loop-line-init c = λ q. c.in_ok-set.ensures q ∙ ap (λ rows. has rows q) c.in_ok-copy.ensures

pub loop-line-preserved : goal.loop-line-preserved
loop-line-preserved c = λ q.
    line_told c.args.relation q c.line-item.result c.args.rows.now c.args.lines.now c.loop-line.line-index _ _ c.loop-line-test.true c.line-item.is (c.loop-line.invariant q) (c.in_ok-apply_line.ensures q)

pub returns : goal.returns
returns c =
    IfOk-weaker c.rows_of.result _ _
    (λ after h s l same q. h q ∙ c.loop-line.invariant q ∙ lines_told c.args.relation q c.args.rows.now c.args.lines.now c.loop-line.line-index s (omega arith) l same)
    c.rows_of.ensures
