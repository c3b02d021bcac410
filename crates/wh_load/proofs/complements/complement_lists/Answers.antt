use Rattle.std.proofs.Common.{ℕ, ◌∙◌, ◌++◌, ◌∷◌, [], sym, zero-add, arith}
use Rattle.std.proofs.lemmas.List.FromFn.{map-range_with_len_more}
use Rattle.wh_base.specs.RowSet.{in_order}
use Rattle.wh_schema.specs.Warehouse.{sources_of, complement}
use Rattle.wh_load.proofs.complements.complement_lists.Goals as goal

pub loop-relation-preserved : goal.loop-relation-preserved
loop-relation-preserved g c =
    let spec = c.args.plan.now.spec in
    let i = c.loop-relation.relation in
    let loop = c.loop-relation.invariant in
    record {
      tables = c.in_ok-push.ensures.ok ∙ (λ j. loop.tables j ++ c.in_ok-complement_rows.ensures.rows j ∷ [])
          ∙ sym (map-range_with_len_more (λ (k : ℕ). in_order (complement spec (sources_of spec c.args.s.now) k)) 0 i i (zero-add i));
      probes = omega (arith, loop.probes, c.complement_rows.ensures.probes);
      scans = omega (arith, loop.scans, c.complement_rows.ensures.scans);
    }
