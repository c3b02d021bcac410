use Rattle.std.proofs.Common.{◌+◌, ◌∙◌, length, get_or, ap, arith}
use Rattle.wh_schema.proofs.Accepted.{next_within, checked_on}
use Rattle.wh_schema.proofs.check.check_spec.Goals as goal

pub loop-index-preserved : goal.loop-index-preserved
loop-index-preserved c =
    let i = c.loop-index.index in
    let spec = c.loop-index.spec in
    let more = c.in_ok-spec.spec in
    let s = c.statement-item.result in
    let same = c.as_slice-statement-items.ensures in
    let is = c.statement-item.is ∙ ap (λ statements. get_or statements i s) same in
    let ok = c.in_ok-spec.ensures in
    let left = next_within spec more (i + 1) s ok c.loop-index.invariant.within in
    record {
      so_far = checked_on c.args.raw.now i spec more s (omega (arith, ap length same)) is ok c.loop-index.invariant.so_far;
      within = left.0;
      counted = omega arith;
    }
