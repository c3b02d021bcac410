use Rattle.std.proofs.Common.{◌≡◌, ◌+◌, ◌*◌}
use Rattle.wh_base.specs.declared.cond.Cond.TheVariants.{And, Or}
use Rattle.wh_grammar.specs.declared.symbol.Symbol.TheVariants as s
use Rattle.wh_grammar.specs.Grammar.{each, more}
use Rattle.wh_grammar.specs.Conditions as spec
use Rattle.wh_grammar.proofs.GrammarLemmas.{left}
use Rattle.wh_grammar.proofs.cond_reading.+cond.Given as goal

abbrev pub decreases-behind_not : goal.decreases-behind_not
decreases-behind_not l = 5 * l.depth

abbrev pub decreases-in_parentheses : goal.decreases-in_parentheses
decreases-in_parentheses l = 5 * l.depth

abbrev pub decreases-neg : goal.decreases-neg
decreases-neg l = 5 * l.depth + 1

abbrev pub decreases-conj : goal.decreases-conj
decreases-conj l = 5 * l.depth + 2

abbrev pub decreases-cond : goal.decreases-cond
decreases-cond l = 5 * l.depth + 3

abbrev pub invariant-cond-more : goal.invariant-cond-more
invariant-cond-more l = (spec.cond l.depth).read l.fn.cursor ≡ each Or (more (spec.conj l.depth) s.Or) l.left l.cursor

abbrev pub decreases-cond-more : goal.decreases-cond-more
decreases-cond-more l = left l.cursor

abbrev pub invariant-conj-more : goal.invariant-conj-more
invariant-conj-more l = (spec.conj l.depth).read l.fn.cursor ≡ each And (more (spec.neg l.depth) s.And) l.left l.cursor

abbrev pub decreases-conj-more : goal.decreases-conj-more
decreases-conj-more l = left l.cursor
