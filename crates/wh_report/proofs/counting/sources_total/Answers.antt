use Rattle.std.proofs.Common.{◌+◌, sym, ◌∙◌, arith}
use Rattle.wh_report.specs.Report.{rows_at}
use Rattle.wh_report.proofs.Numbered.{total_more}
use Rattle.wh_report.proofs.counting.sources_total.Goals as goal

pub loop-number-preserved : goal.loop-number-preserved
loop-number-preserved c = record {
  counted = (λ i. c.loop-number.invariant.counted i + c.relation_count.ensures i) ∙ sym (total_more (rows_at c.args.relations.now) c.loop-number.number);
  bounded = omega (arith, c.loop-number.invariant.bounded, c.relation_count.type_inv);
}
