use Rattle.std.proofs.Common.{◌≡◌, map, filter}
use Rattle.wh_schema.specs.Warehouse.{is_usable_view, view_piece, numbers}
use Rattle.wh_covers.proofs.piece.view_pieces.Given as goal

abbrev pub invariant-loop-number : goal.invariant-loop-number
invariant-loop-number l = l.pieces ≡ map (view_piece l.spec l.rel) (filter (is_usable_view l.spec l.rel) (numbers l.number))
