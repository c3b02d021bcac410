use Rattle.std.proofs.Common.{ap, sym, ◌∙◌, take}
use Rattle.wh_table.specs.Hash.{hash_with, key_at}
use Rattle.wh_table.proofs.Hashes.{hash_of-none, key_at-take}
use Rattle.wh_table.proofs.hash.asked_hash.Goals as goal

pub loop-place-init : goal.loop-place-init
loop-place-init c = λ row e. hash_of-none

pub loop-place-preserved : goal.loop-place-preserved
loop-place-preserved c =
    λ row e.
    c.hash_with-hash.ensures
    ∙ ap (λ h. hash_with h c.asked_at.result.now) (c.loop-place.invariant row e)
    ∙ ap (hash_with (key_at (take c.loop-place.place-index c.args.places.now) row)) (c.asked_at.ensures row e)
    ∙ sym (key_at-take c.args.places.now row c.loop-place.place-index c.loop-place-test.true)
