use Rattle.std.proofs.Common.{◌++◌, ◌∷◌, []}
use Rattle.std.specs.Int.{w64, to_be_bytes}
use Rattle.wh_codec.specs.Body.{counted, table_bytes, text_bytes}
use Rattle.wh_codec.proofs.Appended.{before}
use Rattle.wh_codec.proofs.writing.put_snapshot.Goals as goal

pub returns : goal.returns
returns c =
    let tables = counted table_bytes c.args.tables.now in
    let spec = text_bytes c.args.spec.now in
    let seq = to_be_bytes w64 c.args.seq in
    let generation = to_be_bytes w64 c.args.generation in
    let r = c.put_counted.result in
    let new = c.put_counted.new.out.bytes in
    let from_spec = before r new c.put_u64-2.new.out.bytes spec c.put_spec.new.out.bytes tables c.put_counted.ensures c.in_ok-put_spec.ensures in
    let from_seq = before r new c.put_u64.new.out.bytes seq c.put_u64-2.new.out.bytes (spec ++ tables) from_spec c.in_ok-put_u64-2.ensures in
    let from_generation = before r new c.push.new.self.bytes generation c.put_u64.new.out.bytes (seq ++ (spec ++ tables)) from_seq c.in_ok-put_u64.ensures in
    before r new c.args.out.now.bytes (1 ∷ []) c.push.new.self.bytes (generation ++ (seq ++ (spec ++ tables))) from_generation c.in_ok-push.ensures.ok
