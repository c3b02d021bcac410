use Rattle.std.proofs.Common.{◌≡◌, reverse, rules, ap, sym, subst}
use Rattle.wh_base.specs.RowSet.{AreDistinct}
use Rattle.wh_table.specs.Table.{matching, HasSetWithin}
use Rattle.wh_table.proofs.TableLemmas.{IsSetOf-reverse, AreDistinct-matching}
use Rattle.wh_table.proofs.table.Table.probe_within.Goals as goal

pub returns-clause-rows : goal.returns-clause-rows
returns-clause-rows g c =
    let found : c.in_ok-rows.rows ≡ reverse (matching c.args.cols.now c.args.vals.now c.args.self.now.rows) = search rules in
    let distinct : AreDistinct c.args.self.now.rows = search rules in
    IsSetOf-reverse _ _ found (AreDistinct-matching c.args.cols.now c.args.vals.now c.args.self.now.rows distinct)

pub copies_where-requires : goal.copies_where-requires
copies_where-requires g c =
    subst (λ sets. HasSetWithin sets c.as_slice.result.now) (sym (ap (λ v. v.indexes) c.self.view_is))
    (subst (HasSetWithin c.args.self.now.indexes) (sym c.as_slice.ensures) c.requires)
