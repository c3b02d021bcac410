use Rattle.wh_command.proofs.Making.{passes_empty, stops_loaded}
use Rattle.wh_command.proofs.store.check_empty.Goals as goal

pub returns-in-Ok-true-clause-answer : goal.returns-in-Ok-true-clause-answer
returns-in-Ok-true-clause-answer g c = passes_empty (g.D.Disk.content c.args.first.now) (g.D.Disk.content c.args.second.now) c.in-Ok-true.field-0 (cc (c.in-Ok-true.field-0-test)) c.in-Ok-true.ensures.empty

pub returns-in-Ok-false-clause-answer : goal.returns-in-Ok-false-clause-answer
returns-in-Ok-false-clause-answer g c = stops_loaded (g.D.Disk.content c.args.first.now) (g.D.Disk.content c.args.second.now) c.in-Ok-false.field-0 (cc (c.in-Ok-false.field-0-test)) c.in-Ok-false.ensures.empty
