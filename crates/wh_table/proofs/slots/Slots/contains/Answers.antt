use Rattle.std.proofs.Common.{ap, sym, ◌∙◌, map}
use Rattle.wh_base.specs.ValueLaws.{row_eq-Decides}
use Rattle.wh_table.specs.Hash.{hash_of}
use Rattle.wh_table.specs.Slots.{is_row, rows_of, live_rows}
use Rattle.wh_base.specs.RowSet.{has}
use Rattle.wh_table.proofs.LiveRows.{contains-is}
use Rattle.wh_table.proofs.Walks.{keyed_by}
use Rattle.wh_table.proofs.slots.Slots.contains.Goals as goal

pub slot_of-requires : goal.slot_of-requires
slot_of-requires c =
    keyed_by hash_of (is_row c.args.row.now) c.as_slice-2.result.now c.self.inside.whole.keys c.row_hash-key.result
    (c.self.invariant.0.whole_keys ∙ ap (λ ss. map hash_of (rows_of ss)) (sym c.as_slice-2.ensures.value))
    (λ row h. c.row_hash-key.ensures ∙ ap hash_of (c.as_slice.ensures ∙ (row_eq-Decides c.args.row.now row).0 h))

pub returns : goal.returns
returns c =
    c.is_some.ensures
    ∙ contains-is c.slot_of.result c.args.row.now c.as_slice-2.result.now c.slot_of.ensures
    ∙ ap (λ ss. has (live_rows ss) c.args.row.now) c.as_slice-2.ensures.value
    ∙ ap (λ v. has v.rows c.args.row.now) c.self.view_is
