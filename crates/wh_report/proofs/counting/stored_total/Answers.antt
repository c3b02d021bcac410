use Rattle.std.proofs.Common.{◌+◌, sym, ◌∙◌, arith}
use Rattle.wh_answer.specs.Answer.{rows_of}
use Rattle.wh_report.specs.Report.{rows_at}
use Rattle.wh_report.proofs.Numbered.{total_more}
use Rattle.wh_report.proofs.counting.stored_total.Goals as goal

pub loop-number-preserved : goal.loop-number-preserved
loop-number-preserved c = record {
  counted = (λ i. c.loop-number.invariant.counted i + c.stored_count.ensures i) ∙ sym (total_more (rows_at (rows_of c.args.tables.now)) c.loop-number.number);
  bounded = omega (arith, c.loop-number.invariant.bounded, c.stored_count.type_inv);
}
