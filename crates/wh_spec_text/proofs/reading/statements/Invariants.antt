use Rattle.std.proofs.Common.{◌≡◌}
use Rattle.wh_grammar.specs.Grammar.{each, push, whole}
use Rattle.wh_grammar.proofs.GrammarLemmas.{left}
use Rattle.wh_spec_text.specs.Statements.{statement, statements}
use Rattle.wh_spec_text.proofs.reading.statements.Given as goal

abbrev pub invariant-more : goal.invariant-more
invariant-more l = statements l.depth l.fn.cursor ≡ whole (each push (statement l.depth) l.found) l.cursor

abbrev pub decreases-more : goal.decreases-more
decreases-more l = left l.cursor
