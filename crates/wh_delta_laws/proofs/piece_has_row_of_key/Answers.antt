use Rattle.std.proofs.Common.{[], get_or}
use Rattle.wh_schema.specs.Warehouse.{key_value, sources_of}
use Rattle.wh_laws.proofs.Equality.{has_decides}
use Rattle.wh_delta_laws.specs.KeyValues.{piece_at}
use Rattle.wh_delta_laws.proofs.KeyValues.{piece_row_is}
use Rattle.wh_delta_laws.proofs.piece_has_row_of_key.Goals as goal

pub returns : goal.returns
returns c = λ spec s legal r l p m x h w k.
    piece_row_is spec s legal r l x ((has_decides (get_or s r []) x).0 h) p m w
    ((has_decides (piece_at spec (sources_of spec s) r (key_value spec r x) p).rows w).0 k)
