use Rattle.std.proofs.Common.{◌≡◌, ◌++◌, map, filter}
use Rattle.wh_schema.specs.Warehouse.{is_usable_inclusion, inclusion_piece, numbers}
use Rattle.wh_covers.proofs.piece.add_inclusion_pieces.Given as goal

abbrev pub invariant-loop-number : goal.invariant-loop-number
invariant-loop-number l = l.pieces ≡ l.fn.others ++ map (inclusion_piece l.spec l.rel) (filter (is_usable_inclusion l.spec l.rel) (numbers l.number))
