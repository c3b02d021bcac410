use Rattle.std.proofs.Common.{[], get_or}
use Rattle.wh_schema.specs.Warehouse.{sources_of, piece_table}
use Rattle.wh_laws.proofs.Equality.{has_decides}
use Rattle.wh_laws.proofs.Pieces.{piece_row}
use Rattle.wh_laws.proofs.pieces_are_projections.Goals as goal

pub returns : goal.returns
returns c = λ spec s a r p h w k.
    let i = piece_row spec s a.rules a.state a.legal r p h w ((has_decides (piece_table spec (sources_of spec s) p).rows w).0 k) in
    (i.whole, (has_decides (get_or s r []) i.whole).1 i.is_in, i.row)
