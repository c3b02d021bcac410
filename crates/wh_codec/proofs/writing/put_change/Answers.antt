use Rattle.std.proofs.Common.{◌++◌, ◌∷◌, []}
use Rattle.std.specs.Int.{w64, to_be_bytes}
use Rattle.wh_codec.specs.Body.{counted, delta_bytes}
use Rattle.wh_codec.proofs.Appended.{before}
use Rattle.wh_codec.proofs.writing.put_change.Goals as goal

pub returns : goal.returns
returns c =
    let deltas = counted delta_bytes c.args.deltas.now in
    let seq = to_be_bytes w64 c.args.seq in
    let r = c.put_counted.result in
    let new = c.put_counted.new.out.bytes in
    let from_seq = before r new c.push.new.self.bytes seq c.put_u64.new.out.bytes deltas c.put_counted.ensures c.in_ok-put_u64.ensures in
    before r new c.args.out.now.bytes (2 ∷ []) c.push.new.self.bytes (seq ++ deltas) from_seq c.in_ok-push.ensures.ok
