use Rattle.wh_plan.proofs.ExprMeaning.{view_means}
use Rattle.wh_plan.proofs.laws.view_exprs_mean_views.Goals as goal

pub returns : goal.returns
returns c = λ spec s wf g at j l. view_means g spec s wf at j l
