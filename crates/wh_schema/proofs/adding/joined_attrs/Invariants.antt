use Rattle.std.proofs.Common.{◌≡◌, take}
use Rattle.wh_schema.specs.Rules.{joined_attrs}
use Rattle.wh_schema.proofs.adding.joined_attrs.Given as goal

abbrev pub invariant-loop-number : goal.invariant-loop-number
invariant-loop-number l = l.attrs ≡ joined_attrs l.spec (take l.number-index l.number-items)
