use Rattle.std.proofs.Common.{ap, sym, subst, Contains}
use Rattle.wh_table.specs.Table.{AreAmong}
use Rattle.wh_table.proofs.index.index_within.Goals as goal
use Rattle.wh_table.proofs.index.index_within.Goals.{then-len+then-are_among, else-len}

pub loop-index-preserved : goal.loop-index-preserved
loop-index-preserved c =
    elim c.if-len.branch [
      | then-len+then-are_among w ↦
          let same = ap (λ b. b.now) w.chosen-is in
          record {
            one_of = subst (Contains c.args.indexes.now) (sym same) (c.loop-index.index-index, c.loop-index-test.true, sym c.index-item.is);
            among = subst (λ z. AreAmong z.places c.args.columns.now) (sym same) (subst (λ ps. AreAmong ps c.args.columns.now) w.as_slice.ensures (w.are_among.ensures.yes w.if-are_among.true));
          }
      | else-len w ↦
          let same = ap (λ b. b.now) w.chosen-is in
          record {
            one_of = subst (Contains c.args.indexes.now) (sym same) c.loop-index.invariant.one_of;
            among = subst (λ z. AreAmong z.places c.args.columns.now) (sym same) c.loop-index.invariant.among;
          }
    ]
