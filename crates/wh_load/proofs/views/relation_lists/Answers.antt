use Rattle.std.proofs.Common.{ℕ, ◌∙◌, ◌++◌, ◌∷◌, [], get_or, sym, zero-add}
use Rattle.std.proofs.lemmas.List.FromFn.{map-range_with_len_more}
use Rattle.wh_load.proofs.views.relation_lists.Goals as goal

pub loop-relation-preserved : goal.loop-relation-preserved
loop-relation-preserved c =
    let i = c.loop-relation.relation in
    c.in_ok-push.ensures.ok
    ∙ (λ j. c.loop-relation.invariant j ++ c.in_ok-copy_rows.ensures j ∷ [])
    ∙ sym (map-range_with_len_more (λ (k : ℕ). get_or c.args.s.now k []) 0 i i (zero-add i))
