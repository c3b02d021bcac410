use Rattle.std.proofs.Common.{◌≡◌, take}
use Rattle.wh_table.specs.Hash.{hash_of}
use Rattle.wh_table.proofs.hash.row_hash.Given as goal

abbrev pub invariant-loop-value : goal.invariant-loop-value
invariant-loop-value l = l.hash ≡ hash_of (take l.value-index l.row)
