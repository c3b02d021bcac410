use Rattle.std.proofs.Common.{◌≡◌, take, map}
use Rattle.wh_schema.specs.Rules.{number_of}
use Rattle.wh_schema.proofs.adding.numbers_of.Given as goal

abbrev pub invariant-loop-name : goal.invariant-loop-name
invariant-loop-name l = l.numbers ≡ map (number_of l.spec) (take l.name-index l.name-items)
