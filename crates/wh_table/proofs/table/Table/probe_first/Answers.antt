use Rattle.std.proofs.Common.{ap, sym, subst}
use Rattle.wh_table.specs.Table.{HasSetWithin}
use Rattle.wh_table.proofs.TableLemmas.{indexed_within}
use Rattle.wh_table.proofs.table.Table.probe_first.Goals as goal

pub copy_where-requires-clause-within : goal.copy_where-requires-clause-within
copy_where-requires-clause-within g c =
    subst (λ sets. HasSetWithin sets c.as_slice.result.now) (sym (ap (λ v. v.indexes) c.self.view_is))
    (subst (HasSetWithin c.args.self.now.indexes) (sym c.as_slice.ensures) (indexed_within c.args.self.now.indexes c.args.cols.now c.requires.indexed))
