use Rattle.std.proofs.Common.{◌≡◌, ◌++◌, map, length, codes}
use Rattle.wh_grammar.specs.Printed.{further, joined}
use Rattle.wh_spec_text.specs.Printed.{name_at}
use Rattle.wh_spec_text.proofs.printing.put_members.Given as goal

abbrev pub invariant-next : goal.invariant-next
invariant-next l = l.out.bytes ++ further (codes " join ") (map (name_at l.spec) l.rest) ≡ l.fn.out.bytes ++ joined (codes " join ") (map (name_at l.spec) l.numbers)

abbrev pub decreases-next : goal.decreases-next
decreases-next l = length l.rest
