use Rattle.std.proofs.Common.{[], unwrap_or, ap, ◌∙◌}
use Rattle.std.proofs.lemmas.Option.{unwrap_or-slice_get}
use Rattle.wh_eval.proofs.lists.list_at.Goals as goal

pub returns-in-None : goal.returns-in-None
returns-in-None c = ap (λ o. unwrap_or o []) c.in-None.ensures.value ∙ unwrap_or-slice_get c.args.state.now c.args.n []
