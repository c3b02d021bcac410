use Rattle.std.proofs.Common.{◌∙◌, sym, ap, ◌∷◌, [], add-one}
use Rattle.wh_schema.specs.EmptyMark.{is_joined_on}
use Rattle.wh_schema.specs.Reconstruction.{iterate, take_next}
use Rattle.wh_lossless.proofs.Turns.{iterate_more}
use Rattle.wh_lossless.proofs.joining.joined_on.Goals as goal

pub loop-turn-preserved : goal.loop-turn-preserved
loop-turn-preserved c =
    let next = take_next (is_joined_on c.args.spec.now) c.args.members.now in
    let start = c.args.relation ∷ [] in
    c.in_ok-taken.ensures ∙ ap next c.loop-turn.invariant ∙ sym (iterate_more c.loop-turn._turn next start) ∙ ap (λ n. iterate n next start) (sym (add-one c.loop-turn._turn))
