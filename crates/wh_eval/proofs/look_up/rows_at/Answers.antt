use Rattle.std.proofs.Common.{rules, ap, ◌∙◌, filter, List}
use Rattle.std.proofs.lemmas.Fn.{filter_same}
use Rattle.wh_base.specs.declared.value.Value.{Value}
use Rattle.wh_base.specs.Columns.{picked}
use Rattle.wh_base.specs.Value.{row_eq}
use Rattle.wh_eval.proofs.look_up.rows_at.Goals as goal

pub returns : goal.returns
returns c =
    let test = λ (r : List Value). row_eq (picked c.args.places.now r) c.args.values.now in
    c.from_vec.ensures ∙ filter_same _ test _ (λ x b f' k. search rules) _ _ c.retain.ensures.filtered ∙ ap (filter test) c.into_vec-items.ensures
