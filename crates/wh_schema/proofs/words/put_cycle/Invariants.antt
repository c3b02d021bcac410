use Rattle.std.proofs.Common.{◌≡◌, ◌++◌, take}
use Rattle.wh_schema.specs.RuleWords.{arrows}
use Rattle.wh_schema.proofs.words.put_cycle.Given as goal

abbrev pub invariant-loop-number : goal.invariant-loop-number
invariant-loop-number l = l.out.bytes ≡ l.initial.out.bytes ++ arrows l.spec (take l.number-index l.number-items)
