use Rattle.std.proofs.Common.{◌∙◌, ap, sym, subst, filter, Contains}
use Rattle.wh_base.specs.RowSet.{has}
use Rattle.wh_table.specs.Hash.{key_at}
use Rattle.wh_table.specs.Slots.{has_at, live_rows, rows_of, AreIndexesOf, IsFound}
use Rattle.wh_table.proofs.Kept.{keyed_index}
use Rattle.wh_table.proofs.LiveRows.{found-has, none-live}
use Rattle.wh_table.proofs.slots.Slots.copy_where.Goals as goal

pub slot_where-requires : goal.slot_where-requires
slot_where-requires c =
    keyed_index c.args.cols.now c.args.vals.now c.index_within-index.result.now c.self.inside.indexes.items c.as_slice-3.result.now c.self.inside.spare c.asked_hash-key.result
    (subst (λ ss. AreIndexesOf (rows_of ss) c.self.inside.spare c.self.inside.indexes.items) (sym c.as_slice-3.ensures.value) c.self.invariant.0.indexed)
    (subst (λ xs. Contains xs c.index_within-index.result.now) c.as_slice.ensures.value c.index_within-index.ensures.one_of)
    (λ row h. c.asked_hash-key.ensures row h ∙ ap (λ ps. key_at ps row) c.as_slice-2.ensures)

pub returns-in_ok-copy-in-Some : goal.returns-in_ok-copy-in-Some
returns-in_ok-copy-in-Some c =
    let test = has_at c.args.cols.now c.args.vals.now in
    let found : IsFound test c.self.inside.slots.items c.in-Some.slot = subst (λ ss. IsFound test ss c.in-Some.slot) c.as_slice-3.ensures.value c.in-Some.ensures in
    ap (λ v. has (filter test v.rows) c.in_ok-copy-in-Some.field-0) (sym c.self.view_is)
    ∙ ap (has (filter test (live_rows c.self.inside.slots.items))) c.in_ok-copy-in-Some.ensures
    ∙ found-has test c.self.inside.slots.items c.in-Some.slot c.index.result.now c.index.ensures found

pub returns-in-None : goal.returns-in-None
returns-in-None c =
    let test = has_at c.args.cols.now c.args.vals.now in
    ap (λ v. filter test v.rows) (sym c.self.view_is)
    ∙ ap (λ ss. filter test (live_rows ss)) (sym c.as_slice-3.ensures.value)
    ∙ none-live test c.as_slice-3.result.now c.in-None.ensures
