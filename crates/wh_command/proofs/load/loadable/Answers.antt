use Rattle.wh_command.proofs.Fitting.{stored_is_spelled}
use Rattle.wh_command.proofs.load.loadable.Goals as goal

pub returns-in-Ok-clause-spelled : goal.returns-in-Ok-clause-spelled
returns-in-Ok-clause-spelled g c = stored_is_spelled c.args.plan.now.spec c.args.state.now c.in-Ok.tables c.requires.text c.requires.dumps c.in-Ok.ensures.tables
