use Rattle.wh_codec.proofs.Frames.{one_frame}
use Rattle.wh_codec.proofs.laws.body_has_one_frame.Goals as goal

pub returns : goal.returns
returns c = one_frame
