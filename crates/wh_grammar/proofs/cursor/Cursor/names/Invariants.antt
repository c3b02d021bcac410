use Rattle.std.proofs.Common.{◌≡◌}
use Rattle.wh_grammar.specs.Grammar.{each, push, more, name, separated}
use Rattle.wh_grammar.proofs.GrammarLemmas.{left}
use Rattle.wh_grammar.proofs.cursor.Cursor.names.Given as goal

abbrev pub invariant-more : goal.invariant-more
invariant-more l = (separated name l.between).read l.fn.self ≡ each push (more name l.between) l.found l.self

abbrev pub decreases-more : goal.decreases-more
decreases-more l = left l.self
