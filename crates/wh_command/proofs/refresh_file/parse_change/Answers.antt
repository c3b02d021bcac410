use Rattle.wh_fit.proofs.LineLemmas.{changes_fit}
use Rattle.wh_command.proofs.refresh_file.parse_change.Goals as goal

pub returns-in-Ok-clause-sound : goal.returns-in-Ok-clause-sound
returns-in-Ok-clause-sound c = changes_fit c.as_slice.result.now c.args.spec.now c.in-Ok.change c.in-Ok.ensures.value
