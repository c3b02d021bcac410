use Rattle.wh_command.proofs.Shows.{plan_prints}
use Rattle.wh_command.proofs.plan.plan.Goals as goal

pub returns-in-Ok-clause-ends : goal.returns-in-Ok-clause-ends
returns-in-Ok-clause-ends g c = plan_prints _ c.args.spec_name.now _ _ c.in-Ok.plan.spec _ c.in-Ok.ensures.answer c.show_plan.ensures.ends
