use Rattle.std.proofs.Common.{◌≡◌, ap, ◌∙◌}
use Rattle.wh_base.specs.RowSet.{in_order}
use Rattle.wh_base.specs.Tables.{without}
use Rattle.wh_check.proofs.NetLemmas.{delta_is}
use Rattle.wh_check.proofs.net.delta_of.Goals as goal

pub returns : goal.returns
returns c = λ s l same.
    let rows = c.args.rows.now in
    let after = c.in_ok-after.after in
    let gone : c.in_ok-deleted.deleted ≡ in_order (without rows after) =
    c.in_ok-deleted.ensures ∙ ap in_order (c.in_ok-rows_without.ensures ∙ (λ i. without (c.as_slice.ensures i) (c.in_ok-copy.ensures i))) in
    let come : c.in_ok-inserted.inserted ≡ in_order (without after rows) = c.in_ok-inserted.ensures ∙ ap in_order (c.in_ok-without.ensures ∙ ap (without after) c.in_ok-before.ensures) in
    delta_is rows after _ _ c.in_ok-deleted.deleted c.in_ok-inserted.inserted gone come same (c.in_ok-after.ensures s l same)
