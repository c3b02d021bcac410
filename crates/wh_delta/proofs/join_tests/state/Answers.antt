use Rattle.std.proofs.Common.{◌≡◌, zero, suc, List, [], ◌∷◌, ◌++◌, sym, subst, ◌∙◌}
use Rattle.std.specs.List.{IsDistinct}
use Rattle.wh_base.specs.declared.value.Value.{Value}
use Rattle.wh_base.specs.RowSet.{AreDistinct}
use Rattle.wh_eval.specs.Lists.{HasDistinctRows}
use Rattle.wh_delta.proofs.join_tests.state.Goals as goal

none_distinct : AreDistinct []
unfolding IsDistinct
none_distinct = tt

one_distinct : (rows : List (List Value)) → AreDistinct rows → HasDistinctRows (rows ∷ [])
one_distinct rows h zero = h
one_distinct rows h (suc n) = none_distinct

pub returns-clause-distinct : goal.returns-clause-distinct
returns-clause-distinct c =
    let one : c.push.new.self ≡ c.args.sales ∷ [] = c.in_ok-push.ensures.ok ∙ (λ j. c.new-state.ensures j ++ c.args.sales ∷ []) in
    subst HasDistinctRows (sym one) (one_distinct c.args.sales c.requires)
