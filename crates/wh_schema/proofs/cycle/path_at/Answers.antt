use Rattle.std.proofs.Common.{◌∙◌, ap, None, unwrap_or}
use Rattle.std.proofs.lemmas.Option.{unwrap_or-slice_get}
use Rattle.wh_schema.proofs.cycle.path_at.Goals as goal

pub returns-in-None : goal.returns-in-None
returns-in-None c =
    ap (λ o. unwrap_or o None) c.in-None.ensures.value ∙ unwrap_or-slice_get c.args.paths.now c.args.number None
