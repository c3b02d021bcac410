use Rattle.std.proofs.Common.{◌≡◌, ◌++◌, map, length, codes}
use Rattle.wh_grammar.specs.Printed.{further}
use Rattle.wh_spec_text.specs.Printed.{attr_text, listed}
use Rattle.wh_spec_text.proofs.printing.put_attrs.Given as goal

abbrev pub invariant-next : goal.invariant-next
invariant-next l = l.out.bytes ++ further (codes ", ") (map attr_text l.rest) ≡ l.fn.out.bytes ++ listed (map attr_text l.attrs)

abbrev pub decreases-next : goal.decreases-next
decreases-next l = length l.rest
