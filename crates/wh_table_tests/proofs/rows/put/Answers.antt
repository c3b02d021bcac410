use Rattle.std.proofs.Common.{◌∙◌, ap, sym}
use Rattle.wh_base.specs.declared.value.Delta.{Delta}
use Rattle.wh_base.specs.RowSet.{has}
use Rattle.wh_table_tests.proofs.OneRow.{one_comes}
use Rattle.wh_table_tests.proofs.rows.put.Goals as goal

pub apply-requires-clause-fits : goal.apply-requires-clause-fits
apply-requires-clause-fits c =
    one_comes _ c.args.row _ (ap (λ rows. has rows c.args.row) c.prepare.ensures.rows ∙ sym c.contains.ensures ∙ c.if-contains.false)
    (ap (λ (d : Delta). d.deleted) c.in_ok-prepared.ensures.prepared ∙ c.new.ensures)
    (ap (λ (d : Delta). d.inserted) c.in_ok-prepared.ensures.prepared ∙ c.in_ok-one.ensures)
