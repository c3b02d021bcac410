use Rattle.std.proofs.Common.{arith}
use Rattle.wh_codec.proofs.Frames.{is_read}
use Rattle.wh_codec.proofs.reading.read_frame.Goals as goal

pub returns : goal.returns
returns c = is_read c.args.body.now c.frame_of.result (λ i. omega (arith, c.type_inv.body i)) c.frame_of.ensures
