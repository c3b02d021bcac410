use Rattle.std.proofs.Common.{rules, ap, ◌∙◌, filter}
use Rattle.std.proofs.lemmas.Fn.{filter_same}
use Rattle.wh_base.specs.Cond.{holds}
use Rattle.wh_eval.proofs.rows.select.Goals as goal

pub returns : goal.returns
returns c =
    let test = holds c.args.cond.now c.args.columns.now in
    c.from_vec.ensures ∙ filter_same _ test _ (λ x b f' k. search rules) _ _ c.retain.ensures.filtered ∙ ap (filter test) c.into_vec-items.ensures
