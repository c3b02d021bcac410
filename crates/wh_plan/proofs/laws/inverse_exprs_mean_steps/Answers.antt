use Rattle.std.proofs.Common.{[], length, get_or, ◌+◌}
use Rattle.wh_schema.specs.Reconstruction.{given}
use Rattle.wh_plan.proofs.ExprMeaning.{inverse_means}
use Rattle.wh_plan.proofs.laws.inverse_exprs_mean_steps.Goals as goal

pub returns : goal.returns
returns c = λ spec wf tables s r l g under. inverse_means g spec wf (given spec tables s) r (get_or tables (length spec.views + r) []) under l
