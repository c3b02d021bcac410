use Rattle.wh_tests.proofs.SpecRules.{obeys}
use Rattle.wh_tests.proofs.look_up_tests.parsed.Goals as goal

pub returns-in-Ok-clause-rules : goal.returns-in-Ok-clause-rules
returns-in-Ok-clause-rules c = obeys _ c.in-Ok.spec c.in-Ok.ensures.ok
