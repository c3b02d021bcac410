use Rattle.std.proofs.Common.{ap, sym, subst}
use Rattle.wh_base.specs.RowSet.{AreDistinct}
use Rattle.wh_table.proofs.TableLemmas.{AreDistinct-nil}
use Rattle.wh_table.proofs.table.Table.new.Goals as goal

pub invariant_of-result : goal.invariant_of-result
invariant_of-result c = subst AreDistinct (sym (ap (λ v. v.rows) c.in_ok-new.ensures)) AreDistinct-nil
