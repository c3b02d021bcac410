use Rattle.std.proofs.Common.{◌≡◌, List, take}
use Rattle.wh_base.specs.declared.value.Value.{Value}
use Rattle.wh_base.specs.Columns.{picked}
use Rattle.wh_table.specs.Hash.{key_at}
use Rattle.wh_table.proofs.hash.asked_hash.Given as goal

abbrev pub invariant-loop-place : goal.invariant-loop-place
invariant-loop-place l = (row : List Value) → picked l.cols row ≡ l.vals → l.hash ≡ key_at (take l.place-index l.places) row
