use Rattle.wh_command.proofs.Ready.{spec_ok, spec_err, spec_names, spec_err_names}
use Rattle.wh_command.proofs.load.prepare.Goals as goal

pub returns-in-Ok-clause-answer : goal.returns-in-Ok-clause-answer
returns-in-Ok-clause-answer g c = spec_ok c.args.dir.now c.in-Ok.plan.spec c.args.spec_name.now _ _ _ _ _ c.read_plan.ensures.same c.in-Ok.ensures.answer c.prepare_by.ensures.answer

pub returns-in-Ok-clause-names : goal.returns-in-Ok-clause-names
returns-in-Ok-clause-names g c = spec_names c.args.dir.now c.in-Ok.plan.spec c.args.spec_name.now _ _ _ _ _ c.read_plan.ensures.same c.in-Ok.ensures.answer c.prepare_by.ensures.names

pub returns-in-Err-clause-answer : goal.returns-in-Err-clause-answer
returns-in-Err-clause-answer g c = spec_err c.args.dir.now c.args.spec_name.now (g.F.Files.held c.args.files.now) (g.D.Disk.content c.args.first.now) (g.D.Disk.content c.args.second.now) c.in-Err.stop c.in-Err.ensures.answer

pub returns-in-Err-clause-names : goal.returns-in-Err-clause-names
returns-in-Err-clause-names g c = spec_err_names c.args.dir.now c.args.spec_name.now (g.F.Files.held c.args.files.now) (g.D.Disk.content c.args.first.now) (g.D.Disk.content c.args.second.now) c.in-Err.stop c.in-Err.ensures.names
