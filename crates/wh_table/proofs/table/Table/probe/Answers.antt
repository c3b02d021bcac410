use Rattle.wh_table.proofs.TableLemmas.{indexed_within}
use Rattle.wh_table.proofs.table.Table.probe.Goals as goal

pub probe_within-requires : goal.probe_within-requires
probe_within-requires g c = indexed_within c.args.self.now.indexes c.args.cols.now c.requires.indexed
