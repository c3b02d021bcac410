use Rattle.std.proofs.Common.{rules, ap, ◌∙◌, filter, not, List}
use Rattle.std.proofs.lemmas.Fn.{filter_same}
use Rattle.indexmap.specs.IndexSet.{contains}
use Rattle.wh_base.specs.declared.value.Value.{Value}
use Rattle.wh_base.specs.Value.{row_eq}
use Rattle.wh_eval.proofs.rows.not_in.Goals as goal

pub returns : goal.returns
returns c =
    let test = λ (r : List Value). not (contains row_eq c.args.gone.now r) in
    c.from_vec.ensures ∙ filter_same _ test _ (λ x b f' k. search rules) _ _ c.retain.ensures.filtered ∙ ap (filter test) c.into_vec-items.ensures
