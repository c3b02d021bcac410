use Rattle.std.proofs.Common.{[], get_or}
use Rattle.wh_laws.proofs.Equality.{has_decides}
use Rattle.wh_delta_laws.proofs.KeyValues.{covered_where}
use Rattle.wh_delta_laws.proofs.covered_where_cover_has_key.Goals as goal

pub returns : goal.returns
returns c = λ spec s legal r l x h. covered_where spec s legal r l x ((has_decides (get_or s r []) x).0 h)
