use Rattle.wh_inverse.proofs.GivenLemmas.{where-is}
use Rattle.wh_inverse.proofs.walk.relation_where.Goals as goal

pub returns-clause-rows : goal.returns-clause-rows
returns-clause-rows g c =
    let s = c.args.inverse.now in
    where-is s.plan.now.spec (g.B.Base.rows_at s.below.now) c.args.rel c.args.cols.now c.args.vals.now c.in_ok-found_at.field-0 c.in_ok-found_at.ensures.rows
