use Rattle.std.proofs.Common.{ap, sym, ◌∙◌, get_or}
use Rattle.wh_base.specs.Columns.{value_at}
use Rattle.wh_table.specs.Hash.{hash_with}
use Rattle.wh_table.proofs.Hashes.{hash_of-none, key_at-take}
use Rattle.wh_table.proofs.hash.hash_at.Goals as goal

pub loop-place-init : goal.loop-place-init
loop-place-init c = hash_of-none

pub loop-place-preserved : goal.loop-place-preserved
loop-place-preserved c =
    c.hash_with_place-hash.ensures
    ∙ ap (λ h. hash_with h (value_at c.args.row.now (get_or c.args.places.now c.loop-place.place-index 0))) c.loop-place.invariant
    ∙ sym (key_at-take c.args.places.now c.args.row.now c.loop-place.place-index c.loop-place-test.true)
