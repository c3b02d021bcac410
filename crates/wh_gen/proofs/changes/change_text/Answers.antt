use Rattle.std.proofs.Common.{◌∙◌, ◌++◌}
use Rattle.wh_gen.specs.Case.{moved_lines, opening}
use Rattle.wh_gen.proofs.Growing.{pieces_more}
use Rattle.wh_gen.proofs.changes.change_text.Goals as goal

pub loop-j-preserved : goal.loop-j-preserved
loop-j-preserved c =
    let piece = moved_lines c.args.number c.args.size c.args.c in
    c.in_ok-put_moved.ensures
    ∙ (λ i. c.loop-j.invariant i ++ piece c.loop-j.j)
    ∙ pieces_more piece (opening c.args.number c.args.c) c.loop-j.j
