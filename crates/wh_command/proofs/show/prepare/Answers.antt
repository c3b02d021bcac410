use Rattle.wh_command.proofs.Shows.{dumps_shown}
use Rattle.wh_command.proofs.show.prepare.Goals as goal

pub returns-clause-answer : goal.returns-clause-answer
returns-clause-answer g c =
    dumps_shown c.args.spec_name.now c.args.dir.now c.in_ok-plan.plan.spec c.as_slice.result.now (g.F.Files.held c.args.files.now) _ c.in_ok-state.state _ c.as_slice.ensures c.read_plan.ensures.same c.in_ok-plan.ensures.answer c.in_ok-state.ensures.answer c.compute.ensures.answer
