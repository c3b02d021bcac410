use Rattle.std.proofs.Common.{◌+◌, length, sym, ◌∙◌}
use Rattle.std.proofs.lemmas.Result.{IfOk-weaker}
use Rattle.wh_inverse.proofs.GivenLemmas.{set-is, given-view}
use Rattle.wh_inverse.proofs.Tests.{lt-from, ge-from}
use Rattle.wh_inverse.proofs.inverse.InverseBase.rows.Goals as goal

pub returns-else-is_relation-clause-rows : goal.returns-else-is_relation-clause-rows
returns-else-is_relation-clause-rows g c =
    let s = c.args.self.now in
    let spec = s.plan.now.spec in
    let high = ge-from c.args.n (length spec.relations) (sym c.is_relation.ensures ∙ c.if-is_relation.false) in
    let low = lt-from c.args.n (length spec.relations + length spec.views) c.requires in
    IfOk-weaker c.rows.result _ _ (λ rows h. set-is rows _ _ h (given-view spec (g.B.Base.rows_at s.below.now) c.args.n high low)) c.rows.ensures.rows
