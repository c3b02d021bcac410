use Rattle.wh_command.proofs.Shows.{show_stops}
use Rattle.wh_command.proofs.show.show.Goals as goal

pub returns-in-Err-clause-ends : goal.returns-in-Err-clause-ends
returns-in-Err-clause-ends g c = show_stops _ c.args.spec_name.now c.args.dir.now _ c.in-Err.stop c.in-Err.ensures.blames c.in-Err.ensures.answer
