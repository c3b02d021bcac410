use Rattle.std.proofs.Common.{◌≡◌, List, ◌++◌, map, take, sym, ◌∙◌, ap, arith}
use Rattle.std.specs.List.{flat_map}
use Rattle.std.proofs.lemmas.List.{take_all}
use Rattle.wh_base.specs.declared.value.Value.{Value}
use Rattle.wh_base.specs.Columns.{is_in, all_in, shared, others, place_of, picked}
use Rattle.wh_base.specs.Heads.{columns_at}
use Rattle.wh_base.specs.RowSet.{has, SameRows}
use Rattle.wh_base.specs.Tables.{joined, matching}
use Rattle.wh_expr.specs.Typing.{are_distinct}
use Rattle.wh_delta.proofs.Joins.{distinct_filter, shared_within, joined_more}
use Rattle.wh_delta.proofs.join.join_by_look_ups.Goals as goal

pub joined_row-requires-clause-columns : goal.joined_row-requires-clause-columns
joined_row-requires-clause-columns g c =
    let left = c.args.left.now.columns in
    let right = c.args.columns.now in
    ap (all_in (columns_at (g.B.Base.heads_of c.args.base.now) c.args.n)) c.requires.key ∙ ap (λ z. all_in z (shared left right)) (sym c.requires.columns) ∙ shared_within left right

pub joined_row-requires-clause-distinct : goal.joined_row-requires-clause-distinct
joined_row-requires-clause-distinct g c = ap are_distinct c.requires.key ∙ distinct_filter (is_in c.args.left.now.columns) c.args.columns.now c.requires.distinct

pub loop-row-preserved : goal.loop-row-preserved
loop-row-preserved g c =
    let left = c.args.left.now.columns in
    let right = c.args.columns.now in
    let key = c.args.key.now in
    let row = c.row-item.result in
    let meant : List (List Value) = g.B.Base.rows_at c.args.base.now c.args.n in
    let at = c.as_slice-in-loop-row.result.now in
    let rest = c.as_slice-in-loop-row-2.result.now in
    let more : c.in_ok-more.more ≡ others left right = c.in_ok-more.ensures ∙ (λ i. others (c.as_slice-own.ensures i) (c.as_slice.ensures i)) in
    let at_is : at ≡ map (place_of left) key = c.as_slice-in-loop-row.ensures.value ∙ c.in_ok-places.ensures ∙ (λ i. map (place_of (c.as_slice-own.ensures i)) (c.as_slice-2.ensures i)) in
    let rest_is : rest ≡ map (place_of right) (others left right) =
    c.as_slice-in-loop-row-2.ensures.value ∙ c.in_ok-rest.ensures ∙ (λ i. map (place_of (c.as_slice-3.ensures i)) ((c.as_slice-4.ensures ∙ more) i)) in
    let same : SameRows c.in_ok-found.found (map (λ y. row ++ picked rest y) (matching right key (picked at row) meant)) =
    λ r. c.in_ok-found.ensures.rows r ∙ ap (λ z. has (map (λ y. row ++ picked rest y) (matching z key (picked at row) meant)) r) (sym c.requires.columns) in
    record {
      probes = omega (arith, c.in_ok-found.ensures.probes, c.loop-row.invariant.probes);
      scans = c.in_ok-found.ensures.scans ∙ c.loop-row.invariant.scans;
      rows = joined_more left right key at rest c.as_slice-row-items.result.now meant c.loop-row.rows c.in_ok-found.found c.in_ok-rows.rows c.loop-row.row-index row
          c.requires.key at_is rest_is (omega arith) c.row-item.is same c.loop-row.invariant.rows c.in_ok-rows.ensures;
    }

pub returns-clause-rows : goal.returns-clause-rows
returns-clause-rows g c =
    let left = c.args.left.now.columns in
    let right = c.args.columns.now in
    let meant : List (List Value) = g.B.Base.rows_at c.args.base.now c.args.n in
    let more : c.in_ok-more.more ≡ others left right = c.in_ok-more.ensures ∙ (λ i. others (c.as_slice-own.ensures i) (c.as_slice.ensures i)) in
    let rest = c.as_slice-5.ensures ∙ more ∙ ap (others left) c.requires.columns in
    let all : take c.loop-row.row-index c.as_slice-row-items.result.now ≡ c.args.left.now.rows =
    take_all c.loop-row.row-index c.as_slice-row-items.result.now (omega arith) ∙ c.as_slice-row-items.ensures in
    record {
      columns = c.in_ok-append_names.ensures ∙ (λ i. c.as_slice-own.ensures i ++ rest i);
      rows = λ r.
          c.loop-row.invariant.rows r ∙ ap (λ (z : List (List Value)). has (flat_map (joined left right meant) z) r) all
          ∙ ap (λ z. has (flat_map (joined left z meant) c.args.left.now.rows) r) c.requires.columns;
    }
