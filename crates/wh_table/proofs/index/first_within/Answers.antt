use Rattle.std.proofs.Common.{◌<◌, ◌≡◌, ◌∙◌, arith, ap, sym, subst, length, get_or, below_more, true≢false}
use Rattle.std.proofs.lemmas.List.{length-map, get_or_read}
use Rattle.wh_table.specs.declared.index.Index.{Index}
use Rattle.wh_table.specs.Slots.{column_sets}
use Rattle.wh_table.specs.Table.{AreAmong}
use Rattle.wh_table.proofs.Indexes.{no_index, set_at}
use Rattle.wh_table.proofs.index.first_within.Goals as goal

pub returns-then-are_among-clause-among : goal.returns-then-are_among-clause-among
returns-then-are_among-clause-among c = subst (λ ps. AreAmong ps c.args.columns.now) c.as_slice.ensures (c.are_among.ensures.yes c.if-are_among.true)

pub unreachable-requires : goal.unreachable-requires
unreachable-requires c =
    let k = c.requires.0 in
    let within : k < length (column_sets c.args.indexes.now) = c.requires.2 in
    let long : length (column_sets c.args.indexes.now) ≡ length c.args.indexes.now = length-map c.args.indexes.now (λ i. i.places) in
    c.loop-index.invariant k no_index (omega (arith, within, long, c.loop-index-test.false))
    (subst (λ ps. AreAmong ps c.args.columns.now) (sym (set_at c.args.indexes.now k c.requires.1 within c.requires.3)) c.requires.4)

pub loop-index-preserved : goal.loop-index-preserved
loop-index-preserved c =
    λ k d le.
    below_more (λ j. (e : Index) → AreAmong (get_or c.args.indexes.now j e).places c.args.columns.now → ⊥) c.loop-index.index-index
    (λ j lt e. c.loop-index.invariant j e lt)
    (λ e all.
    let same = get_or_read c.args.indexes.now c.loop-index.index-index c.index-item.result c.loop-index-test.true c.index-item.is e in
    true≢false (sym (c.are_among.ensures.no (subst (λ ps. AreAmong ps c.args.columns.now) (sym (c.as_slice.ensures ∙ ap (λ z. z.places) same)) all)) ∙ c.if-are_among.false))
    k le d
