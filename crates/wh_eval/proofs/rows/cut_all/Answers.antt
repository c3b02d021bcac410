use Rattle.std.proofs.Common.{◌≡◌, subst, List, length}
use Rattle.std.specs.Prelude.{All}
use Rattle.wh_base.specs.declared.value.Value.{Value}
use Rattle.wh_eval.proofs.CutLemmas.{all_whole}
use Rattle.wh_eval.proofs.rows.cut_all.Goals as goal

pub returns-then-have_width : goal.returns-then-have_width
returns-then-have_width c =
    all_whole c.args.places.now c.args.rows (c.are_in_turn.ensures.0 c.if-are_in_turn.true)
    (subst (All (λ (row : List Value). length row ≡ length c.args.places.now)) c.as_slice.ensures (c.have_width.ensures.0 c.if-have_width.true))
