use Rattle.std.proofs.Common.{ap, ◌∙◌, not, List}
use Rattle.std.proofs.lemmas.List.Elements.{filter_agree}
use Rattle.std.proofs.lemmas.Result.{IfOk-weaker}
use Rattle.indexmap.specs.IndexSet.{contains}
use Rattle.wh_base.specs.declared.value.Value.{Value}
use Rattle.wh_base.specs.RowSet.{has}
use Rattle.wh_base.specs.Value.{row_eq}
use Rattle.wh_eval.proofs.rows.rows_without.Goals as goal

pub returns : goal.returns
returns c =
    IfOk-weaker c.copies_not_in.result _ _
    (λ kept is. is ∙ filter_agree (λ (r : List Value). not (contains row_eq c.in_ok-gone.gone r)) (λ r. not (has c.args.gone r)) (λ r. ap not (c.in_ok-gone.ensures r)) c.args.rows.now)
    c.copies_not_in.ensures
