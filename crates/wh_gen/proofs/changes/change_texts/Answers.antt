use Rattle.std.proofs.Common.{◌≡◌, ◌+◌, [], ◌∷◌, ◌++◌, ◌∙◌, ap, sym, map, arith}
use Rattle.std.proofs.lemmas.List.{map-append}
use Rattle.std.proofs.lemmas.List.FromFn.{map-range_with_len_more}
use Rattle.wh_base.specs.RoomyText.{RoomyText}
use Rattle.wh_gen.specs.Case.{change_text}
use Rattle.wh_gen.proofs.changes.change_texts.Goals as goal

pub loop-done-preserved : goal.loop-done-preserved
loop-done-preserved c =
    let bytes = λ (text : RoomyText). text.bytes in
    let done = c.loop-done.done in
    let next : 1 + done ≡ done + 1 = omega arith in
    ap (map bytes) c.in_ok-push.ensures.ok
    ∙ map-append bytes c.loop-done.texts (_ ∷ [])
    ∙ (λ j. c.loop-done.invariant j ++ c.in_ok-change_text.ensures j ∷ [])
    ∙ sym (map-range_with_len_more (change_text c.args.number c.args.size) 1 done (done + 1) next)
