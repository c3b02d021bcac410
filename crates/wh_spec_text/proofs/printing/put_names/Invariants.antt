use Rattle.std.proofs.Common.{◌≡◌, ◌++◌, length, codes}
use Rattle.wh_grammar.specs.Printed.{further}
use Rattle.wh_spec_text.specs.Printed.{listed}
use Rattle.wh_spec_text.proofs.printing.put_names.Given as goal

abbrev pub invariant-next : goal.invariant-next
invariant-next l = l.out.bytes ++ further (codes ", ") l.rest ≡ l.fn.out.bytes ++ listed l.names

abbrev pub decreases-next : goal.decreases-next
decreases-next l = length l.rest
