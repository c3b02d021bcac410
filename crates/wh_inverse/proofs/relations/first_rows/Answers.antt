use Rattle.std.proofs.Common.{arith}
use Rattle.wh_inverse.proofs.FilledLemmas.{first-set}
use Rattle.wh_inverse.proofs.relations.first_rows.Goals as goal

pub returns-then-number-len-clause-rows : goal.returns-then-number-len-clause-rows
returns-then-number-len-clause-rows g c =
    let s = c.args.inverse.now in
    first-set s.plan.now.spec (g.B.Base.rows_at s.below.now) c.args.number (omega arith) c.new.result c.new.ensures
