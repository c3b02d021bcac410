use Rattle.std.proofs.Common.{◌∙◌, ap}
use Rattle.wh_base.specs.declared.value.Delta.{Delta}
use Rattle.wh_table.specs.Table.{IndexedRows}
use Rattle.wh_inverse.proofs.StoredSets.{fresh_applies}
use Rattle.wh_tests.proofs.look_up_tests.filled.Goals as goal

pub apply-requires-clause-fits : goal.apply-requires-clause-fits
apply-requires-clause-fits c =
    fresh_applies _ _ c.args.rows (c.prepare.ensures.rows ∙ ap (λ (t : IndexedRows). t.rows) c.in_ok-table.ensures) (ap (λ (d : Delta). d.deleted) c.in_ok-prepared.ensures.prepared ∙ c.new-2.ensures)
    (ap (λ (d : Delta). d.inserted) c.in_ok-prepared.ensures.prepared) c.requires.rows
