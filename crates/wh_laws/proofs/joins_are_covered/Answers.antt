use Rattle.wh_schema.specs.Warehouse.{sources_of, covered, joined_pieces}
use Rattle.wh_laws.proofs.Covered.{joined_is_covered}
use Rattle.wh_laws.proofs.Equality.{has_decides}
use Rattle.wh_laws.proofs.joins_are_covered.Goals as goal

pub returns : goal.returns
returns c = λ spec s r c sub all x h.
    (has_decides (covered spec (sources_of spec s) r) x).1
    (joined_is_covered spec (sources_of spec s) r c sub all x ((has_decides (joined_pieces spec (sources_of spec s) r c) x).0 h))
