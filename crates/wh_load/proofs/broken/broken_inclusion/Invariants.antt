use Rattle.std.proofs.Common.{◌≡◌, ◌+◌, map, drop, length}
use Rattle.wh_schema.specs.Constraints.{first_break, missing_values}
use Rattle.wh_load.proofs.broken.broken_inclusion.Given as goal

abbrev pub invariant-loop-number : goal.invariant-loop-number
invariant-loop-number l =
    let all = map (missing_values l.spec l.s) l.spec.inclusions in
    first_break (length l.spec.relations + 1) all ≡ first_break (length l.spec.relations + l.number + 1) (drop l.number all)
