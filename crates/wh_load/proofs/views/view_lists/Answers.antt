use Rattle.std.proofs.Common.{ℕ, ◌∙◌, ◌++◌, ◌∷◌, [], sym, zero-add, arith}
use Rattle.std.proofs.lemmas.List.FromFn.{map-range_with_len_more}
use Rattle.wh_base.specs.RowSet.{in_order}
use Rattle.wh_schema.specs.Warehouse.{view_table}
use Rattle.wh_load.proofs.views.view_lists.Goals as goal

pub loop-view-preserved : goal.loop-view-preserved
loop-view-preserved g c =
    let spec = c.args.plan.now.spec in
    let i = c.loop-view.view in
    let loop = c.loop-view.invariant in
    record {
      tables = c.in_ok-push.ensures.ok ∙ (λ j. loop.tables j ++ c.in_ok-view_rows.ensures.rows j ∷ [])
          ∙ sym (map-range_with_len_more (λ (k : ℕ). in_order (view_table spec c.args.s.now k).rows) 0 i i (zero-add i));
      probes = omega (arith, loop.probes, c.view_rows.ensures.probes);
      scans = omega (arith, loop.scans, c.view_rows.ensures.scans);
    }
