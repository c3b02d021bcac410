use Rattle.std.proofs.Common.{refl, sym, subst, ap, ◌∙◌}
use Rattle.wh_base.proofs.FirstRows.{IsSetOf-first_seen}
use Rattle.wh_base.specs.RowSet.{AreDistinct, has}
use Rattle.wh_eval.proofs.once.each_once.Goals as goal

pub returns : goal.returns
returns c =
    let first = IsSetOf-first_seen c.args.relation.rows in
    let is = c.in_ok-distinct_rows.ensures in
    record {
      distinct = subst AreDistinct (sym is) first.distinct;
      same = record { columns = refl; rows = λ r. ap (λ rows. has rows r) is ∙ first.same r };
    }
