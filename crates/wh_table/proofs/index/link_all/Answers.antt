use Rattle.std.proofs.Common.{◌≡◌, ◌∙◌, ◌++◌, ◌∷◌, [], ap, sym, set}
use Rattle.std.proofs.lemmas.List.Edits.{map_over_more}
use Rattle.wh_table.specs.Hash.{key_at}
use Rattle.wh_table.specs.Slots.{linked}
use Rattle.wh_table.proofs.Indexes.{is_linked}
use Rattle.wh_table.proofs.index.link_all.Goals as goal

pub loop-index-preserved : goal.loop-index-preserved
loop-index-preserved c =
    let x = c.index-item.result in
    let same = sym c.index-item.is in
    let key : c.hash_at.result ≡ key_at x.places c.args.row.now =
    c.hash_at.ensures
    ∙ ap (λ ps. key_at ps c.as_slice.result.now) (c.as_slice-in-loop-index.ensures ∙ ap (λ z. z.places) same)
    ∙ ap (key_at x.places) c.as_slice.ensures in
    let keys : c.link.new.self.keys ≡ x.chains.keys ++ key_at x.places c.args.row.now ∷ [] =
    c.link.ensures.keys ∙ ap (λ z. z.chains.keys ++ c.hash_at.result ∷ []) same ∙ ap (λ k. x.chains.keys ++ k ∷ []) key in
    ap (set c.loop-index.indexes c.loop-index.index-index)
    (is_linked c.args.row.now x _ c.link.new.self (ap (λ z. z.places) same) keys (c.link.ensures.spare ∙ ap (λ z. z.chains.spare) same))
    ∙ map_over_more (linked c.args.row.now) c.args.indexes.now c.loop-index.indexes c.loop-index.index-index x c.loop-index-test.true c.loop-index.invariant c.index-item.is
