use Rattle.std.proofs.Common.{◌≡◌, ◌++◌, ◌∷◌, length}
use Rattle.wh_lex.specs.Spelling.{doubled}
use Rattle.wh_grammar.proofs.cond_printing.quote.Given as goal

abbrev pub invariant-next : goal.invariant-next
invariant-next l = l.out.bytes ++ doubled l.rest ≡ l.fn.out.bytes ++ 39 ∷ doubled l.text

abbrev pub decreases-next : goal.decreases-next
decreases-next l = length l.rest
