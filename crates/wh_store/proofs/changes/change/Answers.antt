use Rattle.std.proofs.Common.{◌≡◌, [], ap, sym}
use Rattle.wh_base.specs.RowSet.{has}
use Rattle.wh_store.proofs.ChangedTables.{holds_from}
use Rattle.wh_store.proofs.HeldTables.{untouched}
use Rattle.wh_store.proofs.changes.change.Goals as goal

pub returns-then-is_empty-2-clause-rows : goal.returns-then-is_empty-2-clause-rows
returns-then-is_empty-2-clause-rows c = λ row.
    let d = c.args.delta in
    ap (λ rows. has rows row) (sym (untouched c.args.table.now.rows d (holds_from c.is_empty.result (d.deleted ≡ []) c.is_empty.ensures c.if-is_empty.true)
    (holds_from c.is_empty-then-is_empty.result (d.inserted ≡ []) c.is_empty-then-is_empty.ensures c.if-is_empty-2.true)))
