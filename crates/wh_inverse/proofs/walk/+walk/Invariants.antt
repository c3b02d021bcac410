use Rattle.std.proofs.Common.{◌≡◌, ◌≤◌, ◌+◌, ◌*◌, ◌++◌, take, get_or, [], length}
use Rattle.std.specs.List.{flat_map}
use Rattle.wh_base.specs.RowSet.{SameRows}
use Rattle.wh_base.specs.Tables.{joined, matching}
use Rattle.wh_eval.specs.Relation.{table_of}
use Rattle.wh_schema.specs.Reconstruction.{order}
use Rattle.wh_schema.specs.Warehouse.{columns_of, pieces, pieces_at, piece_table, joined_pieces}
use Rattle.wh_inverse.specs.Inverse.{back, stored_below}
use Rattle.wh_inverse.proofs.CoverLemmas.{Walked}
use Rattle.wh_inverse.proofs.PieceLemmas.{Of, Of-fits}
use Rattle.wh_inverse.proofs.Places.{place}
use Rattle.wh_inverse.proofs.walk.+walk.Given as goal

abbrev pub decreases-found_at : goal.decreases-found_at
decreases-found_at g l = 4 * place (order l.inverse.now.plan.now.spec) l.rel + 3

abbrev pub decreases-found_in_cover : goal.decreases-found_in_cover
decreases-found_in_cover g l = 4 * place (order l.inverse.now.plan.now.spec) l.rel + 2

abbrev pub decreases-joined_by_key : goal.decreases-joined_by_key
decreases-joined_by_key g l = 4 * place (order l.inverse.now.plan.now.spec) l.rel + 1

abbrev pub decreases-found_in_piece : goal.decreases-found_in_piece
decreases-found_in_piece g l = 4 * place (order l.inverse.now.plan.now.spec) l.rel

abbrev pub invariant-found_at-loop-cover : goal.invariant-found_at-loop-cover
invariant-found_at-loop-cover g l =
    let spec = l.inverse.plan.now.spec in
    let below = g.B.Base.rows_at l.inverse.below.now in
    record {
      probes : l.fn.steps.probes ≤ l.steps.probes;
      scans : l.steps.scans ≡ l.fn.steps.scans;
      rows : SameRows l.rows (matching (columns_of spec l.rel) l.cols l.vals (get_or (stored_below spec below) (length spec.views + l.rel) [] ++ flat_map (λ c. joined_pieces spec (back spec below) l.rel (pieces_at (pieces spec l.rel) c)) (take l.cover-index l.cover-items)));
    }

abbrev pub invariant-found_in_cover-loop-place : goal.invariant-found_in_cover-loop-place
invariant-found_in_cover-loop-place g l =
    let spec = l.inverse.plan.now.spec in
    let src = back spec (g.B.Base.rows_at l.inverse.below.now) in
    record {
      probes : l.fn.steps.probes ≤ l.steps.probes;
      scans : l.steps.scans ≡ l.fn.steps.scans;
      walked : Walked (Of spec src l.rel) (Of-fits spec src l.rel) l.cover l.at l.cols l.vals l.place (table_of l.joined);
    }

abbrev pub invariant-joined_by_key-loop-row : goal.invariant-joined_by_key-loop-row
invariant-joined_by_key-loop-row g l =
    let spec = l.inverse.plan.now.spec in
    let src = back spec (g.B.Base.rows_at l.inverse.below.now) in
    record {
      probes : l.fn.steps.probes ≤ l.steps.probes;
      scans : l.steps.scans ≡ l.fn.steps.scans;
      rows : SameRows l.rows (flat_map (joined l.left.columns l.piece.attrs (piece_table spec src l.piece).rows) (take l.row-index l.row-items));
    }
