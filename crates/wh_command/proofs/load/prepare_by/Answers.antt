use Rattle.wh_command.proofs.Ready.{look_ok, look_err, look_names, look_no_names}
use Rattle.wh_command.proofs.load.prepare_by.Goals as goal

pub returns-in-Ok-clause-answer : goal.returns-in-Ok-clause-answer
returns-in-Ok-clause-answer g c = look_ok c.args.dir.now c.args.plan.spec _ _ _ _ c.in-Ok.ensures.answer c.gather.ensures.answer

pub returns-in-Ok-clause-names : goal.returns-in-Ok-clause-names
returns-in-Ok-clause-names g c = look_names c.args.dir.now c.args.plan.spec _ _ _ _ c.in-Ok.ensures.answer c.gather.ensures.names

pub returns-in-Err-clause-answer : goal.returns-in-Err-clause-answer
returns-in-Err-clause-answer g c = look_err c.args.dir.now c.args.plan.spec _ _ _ c.in-Err.stop c.in-Err.ensures.answer

pub returns-in-Err-clause-names : goal.returns-in-Err-clause-names
returns-in-Err-clause-names g c = look_no_names c.args.dir.now c.args.plan.spec (g.F.Files.held c.args.files.now) (g.D.Disk.content c.args.first.now) (g.D.Disk.content c.args.second.now) c.in-Err.stop c.in-Err.ensures.read
