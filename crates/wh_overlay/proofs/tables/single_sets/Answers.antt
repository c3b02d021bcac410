use Rattle.std.proofs.Common.{ℕ, ◌∙◌, ◌++◌, ◌∷◌, [], sym, zero-add}
use Rattle.std.proofs.lemmas.List.FromFn.{map-range_with_len_more}
use Rattle.wh_overlay.proofs.tables.single_sets.Goals as goal

pub loop-place-preserved : goal.loop-place-preserved
loop-place-preserved c =
    let i = c.loop-place.place in
    c.in_ok-push.ensures.ok
    ∙ (λ j. c.loop-place.invariant j ++ c.in_ok-single.ensures j ∷ [])
    ∙ sym (map-range_with_len_more (λ (k : ℕ). k ∷ []) 0 i i (zero-add i))
