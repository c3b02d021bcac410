use Rattle.std.proofs.Common.{◌≡◌}
use Rattle.wh_grammar.specs.Grammar.{each, push, more}
use Rattle.wh_grammar.specs.declared.symbol.Symbol.TheVariants as s
use Rattle.wh_grammar.proofs.GrammarLemmas.{left}
use Rattle.wh_spec_text.specs.Statements.{attr, attrs}
use Rattle.wh_spec_text.proofs.reading.attrs.Given as goal

abbrev pub invariant-more : goal.invariant-more
invariant-more l = attrs.read l.fn.cursor ≡ each push (more attr s.Comma) l.found l.cursor

abbrev pub decreases-more : goal.decreases-more
decreases-more l = left l.cursor
