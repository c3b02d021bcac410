use Rattle.std.proofs.Common.{◌≡◌, zero, suc, List, [], ◌∷◌, ◌++◌, sym, subst, ◌∙◌}
use Rattle.std.specs.List.{IsDistinct}
use Rattle.wh_base.specs.declared.value.Value.{Value}
use Rattle.wh_base.specs.RowSet.{AreDistinct}
use Rattle.wh_eval.specs.Lists.{HasDistinctRows}
use Rattle.wh_tests.proofs.overlay_tests.state_of.Goals as goal

none_distinct : AreDistinct []
unfolding IsDistinct
none_distinct = tt

both_distinct : (emp sale : List (List Value)) → AreDistinct emp → AreDistinct sale → HasDistinctRows (emp ∷ sale ∷ [])
both_distinct emp sale h k zero = h
both_distinct emp sale h k (suc zero) = k
both_distinct emp sale h k (suc (suc n)) = none_distinct

pub returns-clause-distinct : goal.returns-clause-distinct
returns-clause-distinct c =
    let emp = c.args.emp in
    let sale = c.args.sale in
    let one : c.push.new.self ≡ emp ∷ [] = c.in_ok-push.ensures.ok ∙ (λ j. c.new-state.ensures j ++ emp ∷ []) in
    let both : c.push-2.new.self ≡ emp ∷ sale ∷ [] = c.in_ok-push-2.ensures.ok ∙ (λ j. one j ++ sale ∷ []) in
    subst HasDistinctRows (sym both) (both_distinct emp sale c.requires.emp c.requires.sale)
