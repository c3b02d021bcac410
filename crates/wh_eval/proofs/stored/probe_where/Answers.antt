use Rattle.std.proofs.Common.{sym, subst}
use Rattle.wh_table.specs.Table.{HasSetWithin}
use Rattle.wh_eval.proofs.StoredLemmas.{within_first}
use Rattle.wh_eval.proofs.stored.probe_where.Goals as goal

pub probe_within-requires : goal.probe_within-requires
probe_within-requires g c =
    subst (HasSetWithin c.args.table.now.indexes) (sym c.in_ok-places.ensures)
    (within_first c.args.table.now.indexes c.args.columns.now c.args.names.now c.requires.singles c.requires.columns c.requires.some)
