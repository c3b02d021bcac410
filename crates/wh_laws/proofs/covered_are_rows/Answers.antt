use Rattle.std.proofs.Common.{[], get_or}
use Rattle.wh_schema.specs.Warehouse.{sources_of, covered}
use Rattle.wh_laws.proofs.Covered.{covered_sound}
use Rattle.wh_laws.proofs.Equality.{has_decides}
use Rattle.wh_laws.proofs.covered_are_rows.Goals as goal

pub returns : goal.returns
returns c = λ spec s a r l x h.
    (has_decides (get_or s r []) x).1 (covered_sound spec s a.rules a.state a.legal r l x ((has_decides (covered spec (sources_of spec s) r) x).0 h))
