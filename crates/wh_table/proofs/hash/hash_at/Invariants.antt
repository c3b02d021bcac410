use Rattle.std.proofs.Common.{◌≡◌, take}
use Rattle.wh_table.specs.Hash.{key_at}
use Rattle.wh_table.proofs.hash.hash_at.Given as goal

abbrev pub invariant-loop-place : goal.invariant-loop-place
invariant-loop-place l = l.hash ≡ key_at (take l.place-index l.places) l.row
