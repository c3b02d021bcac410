use Rattle.std.proofs.Common.{◌∙◌}
use Rattle.wh_eval.proofs.PartnerLemmas.{joined_more}
use Rattle.wh_eval.proofs.join.join_rows.Goals as goal

pub loop-row-preserved : goal.loop-row-preserved
loop-row-preserved c =
    joined_more c.args.left_key.now c.args.right_key.now c.args.rest.now c.args.right.now c.loop-row.yielded c.in-Some.row c.in_ok-key.key
    c.rests_at.result.now c.loop-row.rows c.add_joined.new.rows
    c.in_ok-key.ensures (c.rests_at.ensures ∙ c.in_ok-partners.ensures c.in_ok-key.key) c.loop-row.invariant c.in_ok-add_joined.ensures
