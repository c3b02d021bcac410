use Rattle.std.proofs.Common.{◌≡◌, ◌+◌, ◌*◌}
use Rattle.wh_grammar.specs.Grammar.{each}
use Rattle.wh_grammar.proofs.GrammarLemmas.{left}
use Rattle.wh_query_text.specs.Queries as spec
use Rattle.wh_query_text.specs.Queries.{attach, further, product_of, sum_of}
use Rattle.wh_query_text.proofs.reading.+query.Given as goal

abbrev pub decreases-behind_prefix : goal.decreases-behind_prefix
decreases-behind_prefix l = 6 * l.depth

abbrev pub decreases-in_parentheses : goal.decreases-in_parentheses
decreases-in_parentheses l = 6 * l.depth

abbrev pub decreases-prefixed : goal.decreases-prefixed
decreases-prefixed l = 6 * l.depth + 1

abbrev pub decreases-factor : goal.decreases-factor
decreases-factor l = 6 * l.depth + 2

abbrev pub decreases-term : goal.decreases-term
decreases-term l = 6 * l.depth + 3

abbrev pub decreases-query : goal.decreases-query
decreases-query l = 6 * l.depth + 4

abbrev pub invariant-term-more : goal.invariant-term-more
invariant-term-more l = (spec.term l.depth).read l.fn.cursor ≡ each attach (further product_of (spec.factor l.depth)) l.left l.cursor

abbrev pub decreases-term-more : goal.decreases-term-more
decreases-term-more l = left l.cursor

abbrev pub invariant-query-more : goal.invariant-query-more
invariant-query-more l = (spec.query l.depth).read l.fn.cursor ≡ each attach (further sum_of (spec.term l.depth)) l.left l.cursor

abbrev pub decreases-query-more : goal.decreases-query-more
decreases-query-more l = left l.cursor
