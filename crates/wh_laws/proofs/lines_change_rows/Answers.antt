use Rattle.wh_laws.proofs.Lines.{line_changes}
use Rattle.wh_laws.proofs.lines_change_rows.Goals as goal

pub returns : goal.returns
returns c = line_changes
