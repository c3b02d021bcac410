use Rattle.std.proofs.Common.{ap, sym, ◌∙◌, take}
use Rattle.wh_table.specs.Hash.{hash_with, hash_of}
use Rattle.wh_table.proofs.Hashes.{hash_of-none, hash_of-take}
use Rattle.wh_table.proofs.hash.row_hash.Goals as goal

pub loop-value-init : goal.loop-value-init
loop-value-init c = hash_of-none

pub loop-value-preserved : goal.loop-value-preserved
loop-value-preserved c =
    c.hash_with-hash.ensures
    ∙ ap (λ h. hash_with h c.value-item.result) c.loop-value.invariant
    ∙ ap (hash_with (hash_of (take c.loop-value.value-index c.args.row.now))) c.value-item.is
    ∙ sym (hash_of-take c.args.row.now c.loop-value.value-index c.value-item.result c.loop-value-test.true)
