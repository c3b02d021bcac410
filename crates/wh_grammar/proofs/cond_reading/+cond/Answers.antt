use Rattle.std.proofs.Common.{rules, arith, refl, sym, ◌∙◌, ◌≡◌, ◌<◌}
use Rattle.std.proofs.lemmas.Grind.{common_steps}
use Rattle.wh_base.specs.declared.cond.Cond.TheVariants.{And, Or}
use Rattle.wh_grammar.specs.declared.symbol.Symbol.TheVariants as s
use Rattle.wh_grammar.specs.Grammar.{same, more}
use Rattle.wh_grammar.specs.Conditions as spec
use Rattle.wh_grammar.proofs.GrammarLemmas.{chain_goes, each_stops, turn_takes}
use Rattle.wh_grammar.proofs.CondLemmas.{neg_takes, conj_takes, inner_none, inner_some}
use Rattle.wh_grammar.proofs.cond_reading.+cond.Goals as goal

pub behind_not-returns-then-depth-eq0 : goal.behind_not-returns-then-depth-eq0
behind_not-returns-then-depth-eq0 t c =
    let none : c.args.depth ≡ 0 = omega arith in
    let e = inner_none c.args.depth none in
    first_of (search rules, grind (arith, common_steps))

pub behind_not-returns : goal.behind_not-returns
behind_not-returns t c =
    let some : 0 < c.args.depth = omega arith in
    rw (inner_some c.args.depth some) c.neg.ensures

pub in_parentheses-returns-then-depth-eq0 : goal.in_parentheses-returns-then-depth-eq0
in_parentheses-returns-then-depth-eq0 t c =
    let none : c.args.depth ≡ 0 = omega arith in
    let e = inner_none c.args.depth none in
    first_of (search rules, grind (arith, common_steps))

pub in_parentheses-returns : goal.in_parentheses-returns
in_parentheses-returns t c =
    let some : 0 < c.args.depth = omega arith in
    rw (inner_some c.args.depth some) c.cond.ensures

pub cond-returns-in_err-right : goal.cond-returns-in_err-right
unfolding same
cond-returns-in_err-right t c =
    let e = c.more.invariant ∙ chain_goes Or (spec.conj c.args.depth) s.Or c.more.left c.more.cursor refl (conj_takes c.args.depth) (sym c.sees.ensures ∙ c.more-test.true) in
    first_of (search rules, grind (arith, common_steps))

pub cond-more-smaller : goal.cond-more-smaller
cond-more-smaller t c = turn_takes (spec.conj c.args.depth) (conj_takes c.args.depth) c.more.cursor c.advance.new.self c.conj-in-more.new.cursor c.in_ok-right.right c.advance.ensures c.in_ok-right.ensures

pub cond-more-preserved : goal.cond-more-preserved
unfolding same
cond-more-preserved t c =
    let e = c.more.invariant ∙ chain_goes Or (spec.conj c.args.depth) s.Or c.more.left c.more.cursor refl (conj_takes c.args.depth) (sym c.sees.ensures ∙ c.more-test.true) in
    first_of (search rules, grind (arith, common_steps))

pub cond-returns : goal.cond-returns
cond-returns t c = c.more.invariant ∙ each_stops Or (more (spec.conj c.args.depth) s.Or) c.more.left c.more.cursor (sym c.sees.ensures ∙ c.more-test.false)

pub conj-returns-in_err-right : goal.conj-returns-in_err-right
unfolding same
conj-returns-in_err-right t c =
    let e = c.more.invariant ∙ chain_goes And (spec.neg c.args.depth) s.And c.more.left c.more.cursor refl (neg_takes c.args.depth) (sym c.sees.ensures ∙ c.more-test.true) in
    first_of (search rules, grind (arith, common_steps))

pub conj-more-smaller : goal.conj-more-smaller
conj-more-smaller t c = turn_takes (spec.neg c.args.depth) (neg_takes c.args.depth) c.more.cursor c.advance.new.self c.neg-in-more.new.cursor c.in_ok-right.right c.advance.ensures c.in_ok-right.ensures

pub conj-more-preserved : goal.conj-more-preserved
unfolding same
conj-more-preserved t c =
    let e = c.more.invariant ∙ chain_goes And (spec.neg c.args.depth) s.And c.more.left c.more.cursor refl (neg_takes c.args.depth) (sym c.sees.ensures ∙ c.more-test.true) in
    first_of (search rules, grind (arith, common_steps))

pub conj-returns : goal.conj-returns
conj-returns t c = c.more.invariant ∙ each_stops And (more (spec.neg c.args.depth) s.And) c.more.left c.more.cursor (sym c.sees.ensures ∙ c.more-test.false)
