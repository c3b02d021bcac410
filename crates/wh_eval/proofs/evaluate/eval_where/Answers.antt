use Rattle.wh_expr.proofs.TypedLemmas.{reaches-typed}
use Rattle.wh_eval.proofs.evaluate.eval_where.Goals as goal

pub relation_where-requires-clause-columns : goal.relation_where-requires-clause-columns
relation_where-requires-clause-columns g c = reaches-typed (g.B.Base.heads_of c.args.base.now) c.args.cols.now c.args.e.now c.requires.typed c.requires.columns
