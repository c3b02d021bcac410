use Rattle.std.proofs.Common.{ap, ◌∙◌}
use Rattle.std.proofs.lemmas.List.{map-id}
use Rattle.wh_base.specs.Cond.{holds}
use Rattle.wh_eval.proofs.rows.is_satisfied.Goals as goal

pub returns : goal.returns
returns c = c.is_true_of.ensures ∙ ap (λ columns. holds c.args.cond.now columns c.args.row.now) (map-id c.args.columns.now)
