use Rattle.wh_csv.proofs.LineLemmas.{lines_have_kinds}
use Rattle.wh_csv.proofs.change.read_change.Goals as goal

pub returns-clause-kinds : goal.returns-clause-kinds
returns-clause-kinds c = lines_have_kinds c.args.spec.now _ c.lines.result c.lines.ensures
