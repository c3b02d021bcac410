use Rattle.std.proofs.Common.{◌≡◌, ◌∙◌, ap, sym, set, map}
use Rattle.std.proofs.lemmas.List.Edits.{map_over_more}
use Rattle.wh_table.specs.Hash.{key_at}
use Rattle.wh_table.specs.Slots.{relinked, rows_of, with_keys}
use Rattle.wh_table.proofs.Indexes.{is_relinked}
use Rattle.wh_table.proofs.index.relink_all.Goals as goal

pub loop-index-preserved : goal.loop-index-preserved
loop-index-preserved c =
    let x = c.index-item.result in
    let same = sym c.index-item.is in
    let done : c.relink_at.new.chains ≡ with_keys x.chains (map (key_at x.places) (rows_of c.args.slots.now)) =
    c.relink_at.ensures
    ∙ ap (λ z. with_keys z.chains (map (key_at c.as_slice.result.now) (rows_of c.args.slots.now))) same
    ∙ ap (λ ps. with_keys x.chains (map (key_at ps) (rows_of c.args.slots.now))) (c.as_slice.ensures ∙ ap (λ z. z.places) same) in
    ap (set c.loop-index.indexes c.loop-index.index-index)
    (is_relinked (rows_of c.args.slots.now) x _ c.relink_at.new.chains (ap (λ z. z.places) same) done)
    ∙ map_over_more (relinked (rows_of c.args.slots.now)) c.args.indexes.now c.loop-index.indexes c.loop-index.index-index x c.loop-index-test.true c.loop-index.invariant c.index-item.is
