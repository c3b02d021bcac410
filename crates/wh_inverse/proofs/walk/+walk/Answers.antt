use Rattle.std.proofs.Common.{◌≡◌, true, ◌≤◌, ℕ, List, [], ◌++◌, get_or, length, take, arith, ◌+◌, sym, ap, ◌∙◌, subst}
use Rattle.std.specs.List.{flat_map}
use Rattle.std.proofs.lemmas.List.{take_all}
use Rattle.std.proofs.lemmas.Option.{slice_get-get_or}
use Rattle.std.proofs.lemmas.Result.{IfOk-weaker}
use Rattle.wh_base.specs.declared.value.Value.{Value}
use Rattle.wh_base.specs.Columns.{cut, all_in, shared, others}
use Rattle.wh_base.specs.RowSet.{has, SameRows, AreDistinct}
use Rattle.wh_base.specs.Tables.{join, joined, matching}
use Rattle.wh_base.proofs.FirstRows.{IsSetOf-first_seen}
use Rattle.wh_eval.specs.declared.relation.Relation.{Relation}
use Rattle.wh_eval.specs.Relation.{table_of}
use Rattle.wh_expr.specs.Narrowed.{narrowed}
use Rattle.wh_expr.specs.SameTable.{SameTable}
use Rattle.wh_plan.specs.Plan.{relation_covers}
use Rattle.wh_schema.specs.declared.piece.Piece.{Piece}
use Rattle.wh_schema.specs.Warehouse.{columns_of, pieces, pieces_at, piece_table, joined_pieces}
use Rattle.wh_steps.specs.Steps.{Taken}
use Rattle.wh_inverse.specs.Asked.{piece_numbered, has_one}
use Rattle.wh_inverse.specs.Inverse.{back, stored_below}
use Rattle.wh_inverse.proofs.CoverLemmas.{Walked, Walked-first, Walked-join, Walked-skip, first-within, first-has}
use Rattle.wh_inverse.proofs.FoundLemmas.{asked-first, first-is, number-low, number-high, number-in, number-same, piece-is, piece-in, walk-ends, relation-found, asked-view, piece-of-view, left-within, left-earlier, left-asked, piece-of-inclusion, asked-key, has-key, length-cut}
use Rattle.wh_inverse.proofs.PieceLemmas.{Of, Of-fits, cover-covered, covers-more, view-within, inclusion-within}
use Rattle.wh_inverse.proofs.BelowLemmas.{piece-has-key}
use Rattle.wh_inverse.proofs.WalkLemmas.{joined-more}
use Rattle.wh_inverse.proofs.walk.+walk.Goals.{found_in_cover-then-place-at+in_ok-joined-2, found_in_cover-else-place-at}
use Rattle.wh_inverse.proofs.walk.+walk.Goals as goal

-- src/walk.rt:89:5
pub found_at-loop-cover-preserved : goal.found_at-loop-cover-preserved
found_at-loop-cover-preserved g t c =
    let s = c.args.inverse.now in
    let spec = s.plan.now.spec in
    let below = g.B.Base.rows_at s.below.now in
    let columns = columns_of spec c.args.rel in
    let f : List ℕ → List (List Value) = λ n. joined_pieces spec (back spec below) c.args.rel (pieces_at (pieces spec c.args.rel) n) in
    let one : SameRows c.in_ok-found.found.rows (matching columns c.args.cols.now c.args.vals.now (f c.cover-item.result)) =
    λ r. c.in_ok-found.ensures.rows.rows r ∙ ap (λ (n : List ℕ). has (matching columns c.args.cols.now c.args.vals.now (f n)) r) c.as_slice-numbers.ensures in
    record {
      probes = omega (arith, c.in_ok-found.ensures.probes, c.loop-cover.invariant.probes);
      scans = c.in_ok-found.ensures.scans ∙ c.loop-cover.invariant.scans;
      rows = covers-more columns c.args.cols.now c.args.vals.now f (get_or (stored_below spec below) (length spec.views + c.args.rel) []) c.loop-cover.rows c.in_ok-found.found.rows c.in_ok-rows-2.rows
          c.covers_of-cover-items.result.now c.loop-cover.cover-index c.cover-item.result (omega arith) c.cover-item.is c.loop-cover.invariant.rows one c.in_ok-rows-2.ensures;
    }

-- src/walk.rt:70:1
pub found_at-returns-clause-rows : goal.found_at-returns-clause-rows
found_at-returns-clause-rows g t c =
    let s = c.args.inverse.now in
    let spec = s.plan.now.spec in
    let first = IsSetOf-first_seen c.loop-cover.rows in
    let is = c.in_ok-distinct_rows.ensures in
    let all : take c.loop-cover.cover-index c.covers_of-cover-items.result.now ≡ relation_covers spec c.args.rel = take_all c.loop-cover.cover-index c.covers_of-cover-items.result.now (omega arith) ∙ c.covers_of-cover-items.ensures in
    let columns : c.columns.inside.items.items ≡ columns_of spec c.args.rel = cc (c.columns.view_is, c.in_ok-columns.ensures, c.relation_at-relation.ensures) in
    record {
      distinct = subst AreDistinct (sym is) first.distinct;
      same = relation-found spec (g.B.Base.heads_of s.below.now) (g.B.Base.has_number s.below.now) s.over (g.B.Base.rows_at s.below.now) c.args.rel c.requires.relation
          c.columns.inside.items.items c.args.cols.now c.args.vals.now c.in_ok-distinct_rows.field-0 c.loop-cover.rows (take c.loop-cover.cover-index c.covers_of-cover-items.result.now)
          columns (λ r. ap (λ rows. has rows r) is ∙ first.same r) all c.loop-cover.invariant.rows;
    }

-- src/walk.rt:127:34
pub found_in_cover-bounds-cover-at : goal.found_in_cover-bounds-cover-at
found_in_cover-bounds-cover-at g t c =
    let s = c.args.inverse.now in
    let spec = s.plan.now.spec in
    let src = back spec (g.B.Base.rows_at s.below.now) in
    let rel = c.args.rel in
    let cols = c.args.cols.now in
    let at = c.first_place-at.result in
    let chosen = first-is at c.as_slice.result.now cols c.pieces_of-pieces.result.now (pieces spec rel) c.args.cover.now c.first_place-at.ensures c.as_slice.ensures c.pieces_of-pieces.ensures in
    first-within (Of spec src rel) cols (columns_of spec rel) c.args.cover.now at c.requires.asked.some c.requires.asked.within (cover-covered spec src rel c.args.cover.now c.requires.cover) chosen

-- src/walk.rt:127:9
pub found_in_cover-piece_at-first-requires-clause-low :
    goal.found_in_cover-piece_at-first-requires-clause-low
found_in_cover-piece_at-first-requires-clause-low g t c =
    let s = c.args.inverse.now in
    let spec = s.plan.now.spec in
    let src = back spec (g.B.Base.rows_at s.below.now) in
    let rel = c.args.rel in
    let cols = c.args.cols.now in
    let at = c.first_place-at.result in
    let chosen = first-is at c.as_slice.result.now cols c.pieces_of-pieces.result.now (pieces spec rel) c.args.cover.now c.first_place-at.ensures c.as_slice.ensures c.pieces_of-pieces.ensures in
    let within = first-within (Of spec src rel) cols (columns_of spec rel) c.args.cover.now at c.requires.asked.some c.requires.asked.within (cover-covered spec src rel c.args.cover.now c.requires.cover) chosen in
    number-low spec rel c.args.cover.now c.requires.cover at within

-- src/walk.rt:127:9
pub found_in_cover-piece_at-first-requires-clause-high :
    goal.found_in_cover-piece_at-first-requires-clause-high
found_in_cover-piece_at-first-requires-clause-high g t c =
    let s = c.args.inverse.now in
    let spec = s.plan.now.spec in
    let src = back spec (g.B.Base.rows_at s.below.now) in
    let rel = c.args.rel in
    let cols = c.args.cols.now in
    let at = c.first_place-at.result in
    let chosen = first-is at c.as_slice.result.now cols c.pieces_of-pieces.result.now (pieces spec rel) c.args.cover.now c.first_place-at.ensures c.as_slice.ensures c.pieces_of-pieces.ensures in
    let within = first-within (Of spec src rel) cols (columns_of spec rel) c.args.cover.now at c.requires.asked.some c.requires.asked.within (cover-covered spec src rel c.args.cover.now c.requires.cover) chosen in
    subst (λ (ps : List Piece). get_or c.args.cover.now at 0 ≤ length ps) (sym c.pieces_of-pieces.ensures) (number-high spec rel c.args.cover.now c.requires.cover at within)

-- src/walk.rt:130:22
pub found_in_cover-found_in_piece-requires : goal.found_in_cover-found_in_piece-requires
found_in_cover-found_in_piece-requires g t c κs within =
    let s = c.args.inverse.now in
    let spec = s.plan.now.spec in
    let src = back spec (g.B.Base.rows_at s.below.now) in
    let rel = c.args.rel in
    let ps = pieces spec rel in
    let cover = c.args.cover.now in
    let cols = c.args.cols.now in
    let at = c.first_place-at.result in
    let chosen = first-is at c.as_slice.result.now cols c.pieces_of-pieces.result.now ps cover c.first_place-at.ensures c.as_slice.ensures c.pieces_of-pieces.ensures in
    let inside = first-within (Of spec src rel) cols (columns_of spec rel) cover at c.requires.asked.some c.requires.asked.within (cover-covered spec src rel cover c.requires.cover) chosen in
    let number = get_or cover at 0 in
    let first = c.piece_at-first.result.now in
    let is : first ≡ piece_numbered ps number = piece-is c.pieces_of-pieces.result.now ps number first c.piece_at-first.ensures c.pieces_of-pieces.ensures in
    let one = first-has (Of spec src rel) cols (columns_of spec rel) cover at c.requires.asked.some c.requires.asked.within (cover-covered spec src rel cover c.requires.cover) chosen number (slice_get-get_or cover at 0 inside) in
    let own : c.in_ok-own.own ≡ shared first.attrs cols = c.in_ok-own.ensures ∙ (λ i. shared (c.as_slice-2.ensures i) (c.as_slice-3.ensures i)) in
    let known : c.in_ok-known.known ≡ cut cols c.in_ok-own.own c.args.vals.now = c.in_ok-known.ensures ∙ (λ i. cut (c.as_slice-4.ensures i) (c.as_slice-5.ensures i) c.args.vals.now) in
    let P : Piece → Type 0 = λ p. has_one cols p.attrs ≡ true in (
      omega (arith, c.decreases),
      (
        within.0,
        (
          within.1,
          (
            c.requires.relation,
            (
              piece-in ps first (piece_numbered ps number) is (number-in spec rel cover c.requires.cover at inside),
              asked-first (columns_of spec rel) first.attrs cols c.args.vals.now c.requires.asked (subst P (sym is) one) c.in_ok-own.own c.in_ok-known.known own known,
            ),
          ),
        ),
      ),
    )

-- src/walk.rt:131:5
pub found_in_cover-loop-place-init : goal.found_in_cover-loop-place-init
found_in_cover-loop-place-init g t c =
    let s = c.args.inverse.now in
    let spec = s.plan.now.spec in
    let src = back spec (g.B.Base.rows_at s.below.now) in
    let rel = c.args.rel in
    let ps = pieces spec rel in
    let cover = c.args.cover.now in
    let cols = c.args.cols.now in
    let vals = c.args.vals.now in
    let at = c.first_place-at.result in
    let chosen = first-is at c.as_slice.result.now cols c.pieces_of-pieces.result.now ps cover c.first_place-at.ensures c.as_slice.ensures c.pieces_of-pieces.ensures in
    let inside = first-within (Of spec src rel) cols (columns_of spec rel) cover at c.requires.asked.some c.requires.asked.within (cover-covered spec src rel cover c.requires.cover) chosen in
    let number = get_or cover at 0 in
    let first = c.piece_at-first.result.now in
    let is : first ≡ piece_numbered ps number = piece-is c.pieces_of-pieces.result.now ps number first c.piece_at-first.ensures c.pieces_of-pieces.ensures in
    let own : c.in_ok-own.own ≡ shared first.attrs cols = c.in_ok-own.ensures ∙ (λ i. shared (c.as_slice-2.ensures i) (c.as_slice-3.ensures i)) in
    let known : c.in_ok-known.known ≡ cut cols c.in_ok-own.own vals = c.in_ok-known.ensures ∙ (λ i. cut (c.as_slice-4.ensures i) (c.as_slice-5.ensures i) vals) in
    let P : Piece → Type 0 = λ p. SameTable (table_of c.in_ok-joined.joined) (narrowed c.in_ok-own.own c.in_ok-known.known (piece_table spec src p)) in
    record {
      probes = c.in_ok-joined.ensures.probes;
      scans = c.in_ok-joined.ensures.scans;
      walked = Walked-first (Of spec src rel) (Of-fits spec src rel) cover at cols vals number c.in_ok-own.own c.in_ok-known.known (table_of c.in_ok-joined.joined) (slice_get-get_or cover at 0 inside)
          (own ∙ ap (λ (p : Piece). shared p.attrs cols) is) known (subst P is c.in_ok-joined.ensures.rows);
    }

-- src/walk.rt:133:17
pub found_in_cover-piece_at-piece-requires-clause-low :
    goal.found_in_cover-piece_at-piece-requires-clause-low
found_in_cover-piece_at-piece-requires-clause-low g t c =
    number-low c.args.inverse.now.plan.now.spec c.args.rel c.args.cover.now c.requires.cover c.loop-place.place (omega arith)

-- src/walk.rt:133:17
pub found_in_cover-piece_at-piece-requires-clause-high :
    goal.found_in_cover-piece_at-piece-requires-clause-high
found_in_cover-piece_at-piece-requires-clause-high g t c =
    subst (λ (ps : List Piece). get_or c.args.cover.now c.loop-place.place 0 ≤ length ps) (sym c.pieces_of-pieces.ensures)
    (number-high c.args.inverse.now.plan.now.spec c.args.rel c.args.cover.now c.requires.cover c.loop-place.place (omega arith))

-- src/walk.rt:134:22
pub found_in_cover-joined_by_key-requires : goal.found_in_cover-joined_by_key-requires
found_in_cover-joined_by_key-requires g t c κs within =
    let s = c.args.inverse.now in
    let spec = s.plan.now.spec in
    let src = back spec (g.B.Base.rows_at s.below.now) in
    let rel = c.args.rel in
    let ps = pieces spec rel in
    let cover = c.args.cover.now in
    let cols = c.args.cols.now in
    let at = c.first_place-at.result in
    let chosen = first-is at c.as_slice.result.now cols c.pieces_of-pieces.result.now ps cover c.first_place-at.ensures c.as_slice.ensures c.pieces_of-pieces.ensures in
    let inside = first-within (Of spec src rel) cols (columns_of spec rel) cover at c.requires.asked.some c.requires.asked.within (cover-covered spec src rel cover c.requires.cover) chosen in
    let number = get_or cover c.loop-place.place 0 in
    let piece = c.piece_at-piece.result.now in
    let is : piece ≡ piece_numbered ps number = piece-is c.pieces_of-pieces.result.now ps number piece c.piece_at-piece.ensures c.pieces_of-pieces.ensures in
    let key = has-key spec (g.B.Base.heads_of s.below.now) (g.B.Base.has_number s.below.now) s.over rel c.requires.relation src cover c.requires.cover cols c.args.vals.now at c.loop-place.place (table_of c.loop-place.joined) inside c.loop-place.invariant.walked c.args.key.now c.requires.key in
    (omega (arith, c.decreases), (within.0, (within.1, (c.requires.relation, (c.requires.key, (key, piece-in ps piece (piece_numbered ps number) is (number-in spec rel cover c.requires.cover c.loop-place.place (omega arith))))))))

-- src/walk.rt:131:5
pub found_in_cover-loop-place-preserved : goal.found_in_cover-loop-place-preserved
found_in_cover-loop-place-preserved g t c =
    let s = c.args.inverse.now in
    let spec = s.plan.now.spec in
    let src = back spec (g.B.Base.rows_at s.below.now) in
    let rel = c.args.rel in
    let ps = pieces spec rel in
    let cover = c.args.cover.now in
    let cols = c.args.cols.now in
    let vals = c.args.vals.now in
    let at = c.first_place-at.result in
    let k = c.loop-place.place in
    let number = get_or cover k 0 in
    let walked = c.loop-place.invariant.walked in
    let P = λ (j : Relation). Walked (Of spec src rel) (Of-fits spec src rel) cover at cols vals (k + 1) (table_of j) in
    elim c.if-place-at.branch [
      | found_in_cover-then-place-at+in_ok-joined-2 w ↦
          let is : w.piece_at-piece.result.now ≡ piece_numbered ps number = piece-is c.pieces_of-pieces.result.now ps number w.piece_at-piece.result.now w.piece_at-piece.ensures c.pieces_of-pieces.ensures in
          let Q : Piece → Type 0 = λ p. SameTable (table_of w.in_ok-joined-2.joined) (join (table_of c.loop-place.joined) (piece_table spec src p)) in
          record {
            probes = omega (arith, ap (λ (n : Taken g.row.L.Denot). n.probes) w.steps-is, w.in_ok-joined-2.ensures.probes, c.loop-place.invariant.probes);
            scans = ap (λ (n : Taken g.row.L.Denot). n.scans) w.steps-is ∙ w.in_ok-joined-2.ensures.scans ∙ c.loop-place.invariant.scans;
            walked = subst P (sym w.joined-is) (Walked-join (Of spec src rel) (Of-fits spec src rel) cover at cols vals k (table_of c.loop-place.joined) walked number (table_of w.in_ok-joined-2.joined) (omega arith)
                (number-same cover k number (omega arith)) (subst Q is w.in_ok-joined-2.ensures.rows));
          }
      | found_in_cover-else-place-at w ↦ record {
        probes = omega (arith, ap (λ (n : Taken g.row.L.Denot). n.probes) w.steps-is, c.loop-place.invariant.probes);
        scans = ap (λ (n : Taken g.row.L.Denot). n.scans) w.steps-is ∙ c.loop-place.invariant.scans;
        walked = subst P (sym w.joined-is) (Walked-skip (Of spec src rel) (Of-fits spec src rel) cover at cols vals k (table_of c.loop-place.joined) walked (omega arith) w.if-place-at.false);
      }
    ]

-- src/walk.rt:104:1
pub found_in_cover-returns-clause-rows : goal.found_in_cover-returns-clause-rows
found_in_cover-returns-clause-rows g t c =
    let s = c.args.inverse.now in
    let spec = s.plan.now.spec in
    let src = back spec (g.B.Base.rows_at s.below.now) in
    IfOk-weaker c.narrow.result _ _
    (λ r h. walk-ends spec src c.args.rel c.args.cover.now c.requires.cover c.args.cols.now c.args.vals.now c.requires.asked c.first_place-at.result c.loop-place.place (table_of c.loop-place.joined) c.loop-place.invariant.walked (omega arith)
    c.args.head.now c.requires.head (table_of r) (table_of c.in_ok-project.field-0) h c.in_ok-project.ensures)
    c.narrow.ensures

-- src/walk.rt:192:25
pub found_in_piece-found_in_view-requires-clause-view :
    goal.found_in_piece-found_in_view-requires-clause-view
found_in_piece-found_in_view-requires-clause-view g t c =
    view-within c.args.inverse.now.plan.now.spec c.args.rel c.args.piece.now c.requires.piece c.in-View.view c.in-View.is

-- src/walk.rt:192:25
pub found_in_piece-found_in_view-requires-clause-asked :
    goal.found_in_piece-found_in_view-requires-clause-asked
found_in_piece-found_in_view-requires-clause-asked g t c =
    asked-view c.args.inverse.now.plan.now.spec c.args.rel c.args.piece.now c.requires.piece c.args.cols.now c.args.vals.now c.requires.asked c.in-View.view c.in-View.is

-- src/walk.rt:196:17
pub found_in_piece-inclusion_at-inclusion-requires :
    goal.found_in_piece-inclusion_at-inclusion-requires
found_in_piece-inclusion_at-inclusion-requires g t c =
    inclusion-within c.args.inverse.now.plan.now.spec c.args.rel c.args.piece.now c.requires.piece c.in-Inclusion.number c.in-Inclusion.is

-- src/walk.rt:198:25
pub found_in_piece-found_at-requires : goal.found_in_piece-found_at-requires
found_in_piece-found_at-requires g t c κs within =
    let s = c.args.inverse.now in
    let spec = s.plan.now.spec in
    let heads = g.B.Base.heads_of s.below.now in
    let held = g.B.Base.has_number s.below.now in
    let piece = c.args.piece.now in
    let cols = c.args.cols.now in
    let vals = c.args.vals.now in
    let i = c.in-Inclusion.number in
    let incl = c.inclusion_at-inclusion.result.now in
    let is = c.inclusion_at-inclusion.ensures in
    let here = left-within spec c.args.rel piece c.requires.piece cols vals c.requires.asked i c.in-Inclusion.is incl is heads held s.over in
    let before = left-earlier spec c.args.rel piece c.requires.piece cols vals c.requires.asked i c.in-Inclusion.is incl is heads held s.over in
    let asked = left-asked spec c.args.rel piece c.requires.piece cols vals c.requires.asked i c.in-Inclusion.is incl is heads held s.over
    c.in_ok-left-in-Inclusion.left c.as_slice.result.now c.in_ok-left-in-Inclusion.ensures c.as_slice.ensures in
    (omega (arith, c.decreases, before), (within.0, (within.1, (here, asked))))

-- src/walk.rt:173:1
pub found_in_piece-returns-in_ok-found-in-View-clause-rows :
    goal.found_in_piece-returns-in_ok-found-in-View-clause-rows
found_in_piece-returns-in_ok-found-in-View-clause-rows g t c =
    let s = c.args.inverse.now in
    let spec = s.plan.now.spec in
    let src = back spec (g.B.Base.rows_at s.below.now) in
    IfOk-weaker c.project.result _ _
    (λ r h. piece-of-view spec c.args.rel c.args.piece.now c.requires.piece c.args.cols.now c.args.vals.now c.requires.asked src c.in-View.view c.in-View.is (table_of r) (table_of c.in_ok-found-in-View.found) h c.in_ok-found-in-View.ensures.rows)
    c.project.ensures

-- src/walk.rt:173:1
pub found_in_piece-returns-in_ok-under_right-in-Inclusion-clause-rows :
    goal.found_in_piece-returns-in_ok-under_right-in-Inclusion-clause-rows
found_in_piece-returns-in_ok-under_right-in-Inclusion-clause-rows g t c =
    let s = c.args.inverse.now in
    let spec = s.plan.now.spec in
    let src = back spec (g.B.Base.rows_at s.below.now) in
    let heads = g.B.Base.heads_of s.below.now in
    let held = g.B.Base.has_number s.below.now in
    let incl = c.inclusion_at-inclusion.result.now in
    IfOk-weaker c.project-in-Inclusion.result _ _
    (λ r h. piece-of-inclusion spec c.args.rel c.args.piece.now c.requires.piece c.args.cols.now c.args.vals.now c.requires.asked c.in-Inclusion.number c.in-Inclusion.is incl c.inclusion_at-inclusion.ensures heads held s.over src
    c.in_ok-left-in-Inclusion.left c.as_slice.result.now c.in_ok-left-in-Inclusion.ensures c.as_slice.ensures (table_of r) (table_of c.in_ok-under_right-in-Inclusion.field-0) (table_of c.in_ok-found-in-Inclusion.found)
    h c.in_ok-under_right-in-Inclusion.ensures c.in_ok-found-in-Inclusion.ensures.rows.same)
    c.project-in-Inclusion.ensures

-- src/walk.rt:162:21
pub joined_by_key-found_in_piece-requires : goal.joined_by_key-found_in_piece-requires
joined_by_key-found_in_piece-requires g t c κs within =
    let s = c.args.inverse.now in
    let spec = s.plan.now.spec in
    let one : length c.in_ok-values.values ≡ length c.args.key.now =
    ap length c.in_ok-values.ensures ∙ length-cut c.as_slice.result.now c.as_slice-in-loop-row.result.now c.row-item.result ∙ ap length c.as_slice-in-loop-row.ensures in (
      omega (arith, c.decreases),
      (
        within.0,
        (
          within.1,
          (
            c.requires.relation,
            (
              c.requires.piece,
              asked-key spec (g.B.Base.heads_of s.below.now) (g.B.Base.has_number s.below.now) s.over c.args.rel c.requires.relation c.args.piece.now c.requires.piece c.args.key.now c.requires.key c.in_ok-values.values one,
            ),
          ),
        ),
      ),
    )

-- src/walk.rt:160:5
pub joined_by_key-loop-row-preserved : goal.joined_by_key-loop-row-preserved
joined_by_key-loop-row-preserved g t c =
    let s = c.args.inverse.now in
    let spec = s.plan.now.spec in
    let heads = g.B.Base.heads_of s.below.now in
    let held = g.B.Base.has_number s.below.now in
    let src = back spec (g.B.Base.rows_at s.below.now) in
    let left = c.args.left.now.columns in
    let piece = c.args.piece.now in
    let key = c.args.key.now in
    let row = c.row-item.result in
    let meant : List (List Value) = (piece_table spec src piece).rows in
    let found : List (List Value) = c.in_ok-found.found.rows in
    let right_key : all_in piece.attrs key ≡ true = ap (all_in piece.attrs) c.requires.key ∙ piece-has-key spec heads held s.over c.args.rel c.requires.relation piece c.requires.piece in
    let values : c.in_ok-values.values ≡ cut left key row = c.in_ok-values.ensures ∙ (λ i. cut (c.as_slice.ensures i) (c.as_slice-in-loop-row.ensures i) row) in
    let now : c.in_ok-rows.rows ≡ c.loop-row.rows ++ joined left piece.attrs found row =
    c.in_ok-rows.ensures ∙ ap (λ names. c.loop-row.rows ++ joined left names found row) c.in_ok-found.ensures.rows.columns in
    record {
      probes = omega (arith, c.in_ok-found.ensures.probes, c.loop-row.invariant.probes);
      scans = c.in_ok-found.ensures.scans ∙ c.loop-row.invariant.scans;
      rows = joined-more left piece.attrs key c.as_slice-row-items.result.now found meant c.loop-row.rows c.in_ok-rows.rows c.loop-row.row-index row c.in_ok-values.values
          c.requires.left right_key (omega arith) c.row-item.is values c.in_ok-found.ensures.rows.rows c.loop-row.invariant.rows now;
    }

-- src/walk.rt:141:1
pub joined_by_key-returns-clause-rows : goal.joined_by_key-returns-clause-rows
joined_by_key-returns-clause-rows g t c =
    let s = c.args.inverse.now in
    let spec = s.plan.now.spec in
    let src = back spec (g.B.Base.rows_at s.below.now) in
    let left = c.args.left.now.columns in
    let piece = c.args.piece.now in
    let first = IsSetOf-first_seen c.loop-row.rows in
    let f : List Value → List (List Value) = joined left piece.attrs (piece_table spec src piece).rows in
    let all : take c.loop-row.row-index c.as_slice-row-items.result.now ≡ c.args.left.now.rows = take_all c.loop-row.row-index c.as_slice-row-items.result.now (omega arith) ∙ c.as_slice-row-items.ensures in
    let rest : c.as_slice-5.result.now ≡ others left piece.attrs = c.as_slice-5.ensures ∙ c.in_ok-more.ensures ∙ (λ i. others (c.as_slice-2.ensures i) (c.as_slice-3.ensures i)) in
    record {
      columns = c.in_ok-append_names.ensures ∙ (λ i. c.as_slice-4.ensures i ++ rest i);
      rows = λ r. ap (λ rows. has rows r) c.in_ok-distinct_rows.ensures ∙ first.same r ∙ c.loop-row.invariant.rows r ∙ ap (λ (rows : List (List Value)). has (flat_map f rows) r) all;
    }
