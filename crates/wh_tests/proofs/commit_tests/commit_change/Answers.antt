use Rattle.std.proofs.Common.{rules}
use Rattle.wh_tests.proofs.FirstRow.{can_apply_five, five_is_spelled}
use Rattle.wh_tests.proofs.commit_tests.commit_change.Goals as goal

pub ready-requires-clause-applies : goal.ready-requires-clause-applies
ready-requires-clause-applies g c = search (rules, can_apply_five)

pub ready-requires-clause-spelled : goal.ready-requires-clause-spelled
ready-requires-clause-spelled g c = search (rules, five_is_spelled)
