use Rattle.std.proofs.Common.{arith, sym, ◌∙◌, subst, true≢false, below_more, Contains}
use Rattle.std.proofs.lemmas.List.{get_or_default}
use Rattle.wh_table.proofs.index.are_among.Goals as goal

pub returns-then-not-is_among-clause-no : goal.returns-then-not-is_among-clause-no
returns-then-not-is_among-clause-no c = λ all. absurd (true≢false (sym (c.is_among.ensures.no (all c.loop-place.place-index 0 c.loop-place-test.true)) ∙ c.if-not-is_among.true))

pub loop-place-preserved : goal.loop-place-preserved
loop-place-preserved c = below_more _ _ c.loop-place.invariant (c.is_among.ensures.yes c.if-not-is_among.false)

pub returns-clause-yes : goal.returns-clause-yes
returns-clause-yes c = λ yes k d lt. subst (Contains c.args.columns.now) (get_or_default c.args.places.now k 0 d lt) (c.loop-place.invariant k (omega (arith, lt, c.loop-place-test.false)))
