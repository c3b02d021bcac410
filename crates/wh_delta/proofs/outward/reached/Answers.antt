use Rattle.std.proofs.Common.{◌∙◌, sym, ap, ◌∷◌, [], add-one}
use Rattle.wh_schema.specs.Reconstruction.{iterate, take_next}
use Rattle.wh_delta_laws.specs.Connected.{is_next}
use Rattle.wh_delta.proofs.Turns.{iterate_more}
use Rattle.wh_delta.proofs.outward.reached.Goals as goal

pub loop-turn-preserved : goal.loop-turn-preserved
loop-turn-preserved c =
    let next = take_next (is_next c.args.spec.now) c.args.relations.now in
    let start = c.args.first ∷ [] in
    c.in_ok-taken.ensures ∙ ap next c.loop-turn.invariant ∙ sym (iterate_more c.loop-turn._turn next start) ∙ ap (λ n. iterate n next start) (sym (add-one c.loop-turn._turn))
