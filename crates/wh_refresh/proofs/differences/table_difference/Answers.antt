use Rattle.std.proofs.Common.{◌≡◌, ◌∙◌, List, ap, subst, sym}
use Rattle.wh_base.specs.declared.value.Delta.{Delta}
use Rattle.wh_base.specs.RowSet.{IsAscending, in_order}
use Rattle.wh_base.specs.Tables.{without}
use Rattle.wh_base.proofs.InOrder.{IsAscending-in_order}
use Rattle.wh_schema.specs.Warehouse.{Row}
use Rattle.wh_refresh.proofs.differences.table_difference.Goals as goal

pub lacking-requires-2 : goal.lacking-requires-2
lacking-requires-2 g c = subst IsAscending (sym (c.as_slice-2.ensures ∙ c.in_ok-before.ensures.rows)) (IsAscending-in_order c.args.table.now.rows)

pub returns-clause-delta : goal.returns-clause-delta
returns-clause-delta g c =
    let before = in_order c.args.table.now.rows in
    let after = c.args.after.now in
    let lost : c.in_ok-deleted.deleted ≡ in_order (without before after) =
    c.in_ok-deleted.ensures ∙ ap in_order (c.in_ok-lacking.ensures ∙ ap (λ (rows : List Row). without rows after) (c.as_slice.ensures ∙ c.in_ok-before.ensures.rows)) in
    let gained : c.in_ok-inserted.inserted ≡ in_order (without after before) =
    c.in_ok-inserted.ensures ∙ ap in_order (c.in_ok-lacking-2.ensures ∙ ap (λ (rows : List Row). without after rows) (c.as_slice-2.ensures ∙ c.in_ok-before.ensures.rows)) in
    λ i. record { deleted = lost i; inserted = gained i }
