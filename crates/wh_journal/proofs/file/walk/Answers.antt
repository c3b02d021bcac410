use Rattle.std.proofs.Common.{◌≡◌, ◌+◌, [], ◌∷◌, ◌++◌, ap, ◌∙◌, sym, arith, length}
use Rattle.std.proofs.lemmas.List.{append_assoc, map_push}
use Rattle.wh_journal.specs.File.{span, walk}
use Rattle.wh_journal.specs.Journal.{bodies_of}
use Rattle.wh_journal.proofs.Walks.{ahead, span-push, walked}
use Rattle.wh_journal.proofs.file.walk.Goals as goal

pub loop-body-preserved : goal.loop-body-preserved
loop-body-preserved c =
    let front = bodies_of c.loop-body.bodies in
    let body = c.in-Open.body.now in
    let after = c.in-Open.after.now in
    let text = c.in_ok-from_slice-in-Open.field-0 in
    let pushed : bodies_of c.push.new.self ≡ front ++ body ∷ [] =
    ap bodies_of c.in_ok-push-in-Open.ensures.ok ∙ map_push (λ t. t.bytes) c.loop-body.bodies text ∙ ap (λ b. front ++ b ∷ []) c.in_ok-from_slice-in-Open.ensures in
    let here = c.in-Open.ensures in
    record {
      walks = ap (λ l. ahead l (walk after)) pushed ∙ ap (λ l. walked l (walk after).closed) (append_assoc front (body ∷ []) (walk after).bodies) ∙ ap (ahead front) (sym here.0) ∙ c.loop-body.invariant.walks;
      place = ap (λ l. span l + length after) pushed ∙ omega (arith, span-push front body, here.1, c.loop-body.invariant.place);
    }
