use Rattle.std.proofs.Common.{rules, arith, refl, sym, ap, ◌∙◌, ◌≡◌, ◌<◌, Some}
use Rattle.std.proofs.lemmas.Grind.{common_steps}
use Rattle.wh_grammar.specs.Grammar.{next}
use Rattle.wh_grammar.proofs.GrammarLemmas.{turn_takes}
use Rattle.wh_query_text.specs.Queries as spec
use Rattle.wh_query_text.specs.Queries.{product_of, sum_of}
use Rattle.wh_query_text.proofs.QueryLemmas.{factor_takes, term_takes, inner_none, inner_some, further_goes, further_stops}
use Rattle.wh_query_text.proofs.reading.+query.Goals as goal

pub behind_prefix-returns-then-depth-eq0 : goal.behind_prefix-returns-then-depth-eq0
behind_prefix-returns-then-depth-eq0 t c =
    let none : c.args.depth ≡ 0 = omega arith in
    let e = inner_none c.args.depth none in
    first_of (search rules, grind (arith, common_steps))

pub behind_prefix-returns : goal.behind_prefix-returns
behind_prefix-returns t c =
    let some : 0 < c.args.depth = omega arith in
    rw (inner_some c.args.depth some) c.factor.ensures

pub in_parentheses-returns-then-depth-eq0 : goal.in_parentheses-returns-then-depth-eq0
in_parentheses-returns-then-depth-eq0 t c =
    let none : c.args.depth ≡ 0 = omega arith in
    let e = inner_none c.args.depth none in
    first_of (search rules, grind (arith, common_steps))

pub in_parentheses-returns : goal.in_parentheses-returns
in_parentheses-returns t c =
    let some : 0 < c.args.depth = omega arith in
    rw (inner_some c.args.depth some) c.query.ensures

pub query-returns-in_err-right : goal.query-returns-in_err-right
query-returns-in_err-right t c =
    let word : sum_of (next c.more.cursor) ≡ Some c.in-Some.word = ap sum_of (sym c.peek.ensures) ∙ sym c.sum_of.ensures ∙ c.in-Some.is in
    let e = c.more.invariant ∙ further_goes sum_of (spec.term c.args.depth) c.more.left c.more.cursor c.in-Some.word refl (term_takes c.args.depth) word in
    first_of (search rules, grind (arith, common_steps))

pub query-more-smaller : goal.query-more-smaller
query-more-smaller t c = turn_takes (spec.term c.args.depth) (term_takes c.args.depth) c.more.cursor c.advance.new.self c.term-in-Some.new.cursor c.in_ok-right.right c.advance.ensures c.in_ok-right.ensures

pub query-more-preserved : goal.query-more-preserved
query-more-preserved t c =
    let word : sum_of (next c.more.cursor) ≡ Some c.in-Some.word = ap sum_of (sym c.peek.ensures) ∙ sym c.sum_of.ensures ∙ c.in-Some.is in
    let e = c.more.invariant ∙ further_goes sum_of (spec.term c.args.depth) c.more.left c.more.cursor c.in-Some.word refl (term_takes c.args.depth) word in
    first_of (search rules, grind (arith, common_steps))

pub query-returns : goal.query-returns
query-returns t c = c.more.invariant ∙ further_stops sum_of (spec.term c.args.depth) c.more.left c.more.cursor (ap sum_of (sym c.peek.ensures) ∙ sym c.sum_of.ensures ∙ c.in_default.is)

pub term-returns-in_err-right : goal.term-returns-in_err-right
term-returns-in_err-right t c =
    let word : product_of (next c.more.cursor) ≡ Some c.in-Some.word = ap product_of (sym c.peek.ensures) ∙ sym c.product_of.ensures ∙ c.in-Some.is in
    let e = c.more.invariant ∙ further_goes product_of (spec.factor c.args.depth) c.more.left c.more.cursor c.in-Some.word refl (factor_takes c.args.depth) word in
    first_of (search rules, grind (arith, common_steps))

pub term-more-smaller : goal.term-more-smaller
term-more-smaller t c = turn_takes (spec.factor c.args.depth) (factor_takes c.args.depth) c.more.cursor c.advance.new.self c.factor-in-Some.new.cursor c.in_ok-right.right c.advance.ensures c.in_ok-right.ensures

pub term-more-preserved : goal.term-more-preserved
term-more-preserved t c =
    let word : product_of (next c.more.cursor) ≡ Some c.in-Some.word = ap product_of (sym c.peek.ensures) ∙ sym c.product_of.ensures ∙ c.in-Some.is in
    let e = c.more.invariant ∙ further_goes product_of (spec.factor c.args.depth) c.more.left c.more.cursor c.in-Some.word refl (factor_takes c.args.depth) word in
    first_of (search rules, grind (arith, common_steps))

pub term-returns : goal.term-returns
term-returns t c = c.more.invariant ∙ further_stops product_of (spec.factor c.args.depth) c.more.left c.more.cursor (ap product_of (sym c.peek.ensures) ∙ sym c.product_of.ensures ∙ c.in_default.is)
