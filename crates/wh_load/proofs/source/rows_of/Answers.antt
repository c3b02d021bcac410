use Rattle.std.proofs.Common.{[]}
use Rattle.wh_load.proofs.SourceLemmas.{past_end}
use Rattle.wh_load.proofs.source.rows_of.Goals as goal

pub returns-in-None : goal.returns-in-None
returns-in-None c = past_end c.args.s.now c.args.relation [] c.in-None.ensures.value
