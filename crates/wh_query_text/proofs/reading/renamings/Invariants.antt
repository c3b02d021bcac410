use Rattle.std.proofs.Common.{◌≡◌}
use Rattle.wh_grammar.specs.Grammar.{each, push, more}
use Rattle.wh_grammar.specs.declared.symbol.Symbol.TheVariants as s
use Rattle.wh_grammar.proofs.GrammarLemmas.{left}
use Rattle.wh_query_text.specs.Queries.{renaming, renamings}
use Rattle.wh_query_text.proofs.reading.renamings.Given as goal

abbrev pub invariant-more : goal.invariant-more
invariant-more l = renamings.read l.fn.cursor ≡ each push (more renaming s.Comma) l.found l.cursor

abbrev pub decreases-more : goal.decreases-more
decreases-more l = left l.cursor
