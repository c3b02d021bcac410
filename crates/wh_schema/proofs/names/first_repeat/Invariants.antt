use Rattle.std.proofs.Common.{◌≡◌, map, take, drop}
use Rattle.wh_schema.specs.Rules.{first_repeat, first_again}
use Rattle.wh_schema.proofs.names.first_repeat.Given as goal

abbrev pub invariant-loop-place : goal.invariant-loop-place
invariant-loop-place g l =
    let names = map g.N.Named.name_of l.items in
    first_repeat names ≡ first_again (take l.place names) (drop l.place names)
