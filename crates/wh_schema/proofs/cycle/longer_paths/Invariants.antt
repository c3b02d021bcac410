use Rattle.std.proofs.Common.{◌≡◌, map}
use Rattle.wh_schema.specs.Cycles.{longer_path}
use Rattle.wh_schema.specs.Warehouse.{numbers}
use Rattle.wh_schema.proofs.cycle.longer_paths.Given as goal

abbrev pub invariant-loop-number : goal.invariant-loop-number
invariant-loop-number l = l.longer ≡ map (longer_path l.spec l.paths) (numbers l.number)
