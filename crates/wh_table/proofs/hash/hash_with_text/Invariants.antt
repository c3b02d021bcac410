use Rattle.std.proofs.Common.{◌≡◌, length, take, fold}
use Rattle.wh_table.specs.Hash.{stirred}
use Rattle.wh_table.proofs.hash.hash_with_text.Given as goal

abbrev pub invariant-loop-byte : goal.invariant-loop-byte
invariant-loop-byte l = l.mixed ≡ fold stirred (stirred l.fn.hash (length l.bytes)) (take l.byte-index l.bytes)
