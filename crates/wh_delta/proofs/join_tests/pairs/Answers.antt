use Rattle.std.proofs.Common.{sym, subst}
use Rattle.std.proofs.lemmas.Result.{IfOk-weaker}
use Rattle.wh_base.specs.RowSet.{AreDistinct}
use Rattle.wh_base.proofs.FirstRows.{IsSetOf-first_seen}
use Rattle.wh_delta.proofs.join_tests.pairs.Goals as goal

pub returns : goal.returns
returns c = IfOk-weaker c.distinct_rows.result _ _ (λ rows is. subst AreDistinct (sym is) (IsSetOf-first_seen _).distinct) c.distinct_rows.ensures
