use Rattle.std.proofs.Common.{◌≡◌, ◌++◌, rules, sym, subst}
use Rattle.wh_base.specs.RowSet.{AreDistinct}
use Rattle.wh_base.specs.Tables.{without}
use Rattle.wh_table.proofs.TableLemmas.{AreDistinct-changed}
use Rattle.wh_table.proofs.table.Table.apply.Goals as goal

pub invariant_of-self : goal.invariant_of-self
invariant_of-self c =
    let rows : c.insert_all.new.slots.rows ≡ without c.args.self.now.rows c.args.p.deleted ++ c.args.p.inserted = search rules in
    let distinct : AreDistinct c.args.self.now.rows = search rules in
    subst AreDistinct (sym rows) (AreDistinct-changed _ _ distinct c.requires.fits)
