use Rattle.std.proofs.Common.{◌∙◌, refl, arith, get_or}
use Rattle.wh_eval.specs.Relation.{table_of}
use Rattle.wh_expr.specs.Meaning.{tables}
use Rattle.wh_delta.proofs.Joins.{joined_with_more, shares_next}
use Rattle.wh_delta.proofs.join.outward_join.Goals as goal

pub loop-n-preserved : goal.loop-n-preserved
loop-n-preserved g c =
    let base = c.args.base.now in
    let table = tables (g.B.Base.heads_of base) (g.B.Base.rows_at base) in
    let first = table_of c.args.first in
    let numbers = c.args.numbers.now in
    let i = c.loop-n.n-index in
    let n = get_or numbers i 0 in
    record {
      probes = omega (arith, c.in_ok-joined.ensures.probes, c.loop-n.invariant.probes);
      rise = omega (arith, c.in_ok-joined.ensures.rise, c.loop-n.invariant.rise);
      scans = λ h.
          c.in_ok-joined.ensures.scans (shares_next first table numbers i n (omega arith) refl c.loop-n.joined.columns c.loop-n.invariant.rows.columns h)
          ∙ c.loop-n.invariant.scans h;
      rows = joined_with_more first table numbers i n (omega arith) refl (table_of c.loop-n.joined) (table_of c.in_ok-joined.joined) c.loop-n.invariant.rows c.in_ok-joined.ensures.rows;
    }
