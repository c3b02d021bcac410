use Rattle.wh_expr.proofs.TypedLemmas.{columns-answer, numbers-answer}
use Rattle.wh_expr.proofs.typing.typed.Goals as goal

pub returns-clause-columns : goal.returns-clause-columns
returns-clause-columns c = columns-answer c.args.heads.now c.args.e.now _ c.by_rules.ensures

pub returns-clause-numbers : goal.returns-clause-numbers
returns-clause-numbers c = numbers-answer c.args.heads.now c.args.e.now _ c.by_rules.ensures
