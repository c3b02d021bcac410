use Rattle.std.proofs.Common.{◌≡◌, ◌∙◌, ap, sym, subst, reverse, filter, Contains, IfOk}
use Rattle.wh_table.specs.Hash.{key_at}
use Rattle.wh_table.specs.Table.{AreAmong}
use Rattle.wh_table.proofs.TableLemmas.{matching-none}
use Rattle.wh_table.specs.Slots.{has_at, live_rows, rows_of, AreIndexesOf}
use Rattle.wh_table.proofs.Kept.{keyed_index}
use Rattle.wh_table.proofs.LiveRows.{filter-live}
use Rattle.wh_table.proofs.slots.Slots.copies_where.Goals as goal

pub copies_where-requires : goal.copies_where-requires
copies_where-requires c =
    keyed_index c.args.cols.now c.args.vals.now c.index_within-index.result.now c.self.inside.indexes.items c.as_slice-3.result.now c.self.inside.spare c.asked_hash-key.result
    (subst (λ ss. AreIndexesOf (rows_of ss) c.self.inside.spare c.self.inside.indexes.items) (sym c.as_slice-3.ensures.value) c.self.invariant.0.indexed)
    (subst (λ xs. Contains xs c.index_within-index.result.now) c.as_slice.ensures.value c.index_within-index.ensures.one_of)
    (λ row h. c.asked_hash-key.ensures row h ∙ ap (λ ps. key_at ps row) c.as_slice-2.ensures)

pub returns : goal.returns
returns c =
    let test = has_at c.args.cols.now c.args.vals.now in
    subst (λ rs. IfOk c.copies_where.result (λ rows. rows ≡ reverse rs))
    (sym (filter-live test c.as_slice-3.result.now) ∙ ap (λ ss. filter test (live_rows ss)) c.as_slice-3.ensures.value ∙ ap (λ v. filter test v.rows) c.self.view_is)
    c.copies_where.ensures

pub returns-then-vals-cols : goal.returns-then-vals-cols
returns-then-vals-cols c = c.new.ensures ∙ sym (ap reverse (matching-none c.args.cols.now c.args.vals.now c.args.self.now.rows c.if-vals-cols.true))

pub asked_hash-key-requires-clause-among : goal.asked_hash-key-requires-clause-among
asked_hash-key-requires-clause-among c = subst (λ ps. AreAmong ps c.args.cols.now) (sym c.as_slice-2.ensures) c.index_within-index.ensures.among
