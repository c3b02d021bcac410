use Rattle.std.proofs.Common.{List, ap, subst, ◌∙◌, map}
use Rattle.wh_base.specs.declared.head.Head.{Head}
use Rattle.wh_base.specs.declared.value.Delta.{Delta}
use Rattle.wh_overlay.specs.Overlay.{FitNumbers}
use Rattle.wh_overlay.proofs.TableLemmas.{rows_at_deleted, rows_at_inserted}
use Rattle.wh_overlay.proofs.overlay.Overlay.new.Goals as goal

pub invariant_of-result-clause-deleted_fit : goal.invariant_of-result-clause-deleted_fit
invariant_of-result-clause-deleted_fit g c = subst (λ (heads : List Head). FitNumbers heads c.in_ok-tables_of.field-0) c.heads.ensures c.in_ok-tables_of.ensures.fit

pub invariant_of-result-clause-deleted_rows : goal.invariant_of-result-clause-deleted_rows
invariant_of-result-clause-deleted_rows g c =
    rows_at_deleted c.args.deltas.now c.in_ok-deleted.deleted c.in_ok-tables_of.field-0 (c.in_ok-deleted.ensures ∙ ap (map (λ (d : Delta). d.deleted)) c.as_slice.ensures) c.in_ok-tables_of.ensures.rows

pub invariant_of-result-clause-inserted_fit : goal.invariant_of-result-clause-inserted_fit
invariant_of-result-clause-inserted_fit g c = subst (λ (heads : List Head). FitNumbers heads c.in_ok-tables_of-2.field-0) c.heads-2.ensures c.in_ok-tables_of-2.ensures.fit

pub invariant_of-result-clause-inserted_rows : goal.invariant_of-result-clause-inserted_rows
invariant_of-result-clause-inserted_rows g c =
    rows_at_inserted c.args.deltas.now c.in_ok-inserted.inserted c.in_ok-tables_of-2.field-0 (c.in_ok-inserted.ensures ∙ ap (map (λ (d : Delta). d.inserted)) c.as_slice-2.ensures) c.in_ok-tables_of-2.ensures.rows
