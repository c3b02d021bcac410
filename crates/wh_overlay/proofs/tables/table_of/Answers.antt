use Rattle.std.proofs.Common.{refl, ap, ◌∙◌}
use Rattle.wh_base.specs.declared.value.Delta.{Delta}
use Rattle.wh_overlay.proofs.OverlayLemmas.{seen_once}
use Rattle.wh_overlay.proofs.TableLemmas.{fresh_applies, fresh_rows}
use Rattle.wh_overlay.proofs.tables.table_of.Goals as goal

pub apply-requires-clause-fits : goal.apply-requires-clause-fits
apply-requires-clause-fits c =
    let is = c.in_ok-prepared.ensures.prepared in
    fresh_applies c.prepare.new.self.rows c.in_ok-prepared.prepared (c.prepare.ensures.rows ∙ c.in_ok-table.ensures.rows) (ap (λ (d : Delta). d.deleted) is ∙ c.new.ensures)
    (seen_once c.in_ok-prepared.prepared.inserted c.args.rows c.args.rows (ap (λ (d : Delta). d.inserted) is ∙ c.in_ok-distinct_rows.ensures) refl).distinct

pub returns-clause-rows : goal.returns-clause-rows
returns-clause-rows c =
    let is = c.in_ok-prepared.ensures.prepared in
    fresh_rows c.prepare.new.self.rows c.apply.new.self.rows c.args.rows c.in_ok-prepared.prepared (c.prepare.ensures.rows ∙ c.in_ok-table.ensures.rows)
    (seen_once c.in_ok-prepared.prepared.inserted c.args.rows c.args.rows (ap (λ (d : Delta). d.inserted) is ∙ c.in_ok-distinct_rows.ensures) refl).same
    c.apply.ensures.rows
