use Rattle.wh_command.proofs.Fitting.{text_is_well_formed}
use Rattle.wh_command.proofs.show.tables_of.Goals as goal

pub load_rows-requires-clause-rules : goal.load_rows-requires-clause-rules
load_rows-requires-clause-rules g c = text_is_well_formed c.args.plan.now.spec c.requires.text
