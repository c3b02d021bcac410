use Rattle.std.proofs.Common.{◌∙◌, ◌++◌, ◌∷◌, [], refl, ap, sym, subst, take}
use Rattle.std.proofs.lemmas.List.{take_more}
use Rattle.wh_base.specs.RowSet.{AreDistinct}
use Rattle.wh_base.specs.Tables.{without}
use Rattle.wh_base.proofs.RowSets.{IsDistinct-filter}
use Rattle.wh_table.proofs.TableLemmas.{without-more, without-none}
use Rattle.wh_table.proofs.table.delete_all.Goals as goal

pub loop-row-init : goal.loop-row-init
loop-row-init c = record {
  distinct = c.requires;
  rows = sym (without-none c.args.slots.now.rows);
  spare = refl;
  indexes = refl;
}

pub loop-row-preserved : goal.loop-row-preserved
loop-row-preserved c =
    let gone = take c.loop-row.row-index c.args.deleted.now in
    let more = ap (λ x. gone ++ x ∷ []) (sym c.row-item.is) in
    record {
      distinct = subst AreDistinct (sym c.delete.ensures.rows) (IsDistinct-filter _ c.loop-row.slots.rows c.loop-row.invariant.distinct);
      rows =
          c.delete.ensures.rows
          ∙ ap (λ rs. without rs (c.row-item.result ∷ [])) c.loop-row.invariant.rows
          ∙ without-more c.args.slots.now.rows gone c.row-item.result
          ∙ ap (without c.args.slots.now.rows) (sym (take_more c.args.deleted.now c.loop-row.row-index c.row-item.result c.loop-row-test.true ∙ more));
      spare = c.delete.ensures.spare ∙ c.loop-row.invariant.spare;
      indexes = c.delete.ensures.indexes ∙ c.loop-row.invariant.indexes;
    }
