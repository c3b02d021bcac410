use Rattle.std.proofs.Common.{◌≡◌, ◌≤◌}
use Rattle.wh_grammar.specs.Nesting.{too_nested}
use Rattle.wh_grammar.proofs.GrammarLemmas.{left}
use Rattle.wh_grammar.proofs.nesting.too_nested.Given as goal

abbrev pub invariant-next : goal.invariant-next
invariant-next l = (too_nested 0 0 l.fn.cursor.ahead ≡ too_nested l.parens l.connectives l.cursor.ahead) × (l.parens ≤ 64) × (l.connectives ≤ 2000)

abbrev pub decreases-next : goal.decreases-next
decreases-next l = left l.cursor
