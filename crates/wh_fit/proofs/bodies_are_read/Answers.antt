use Rattle.std.proofs.Common.{refl}
use Rattle.wh_codec.specs.Body.{frame_bytes}
use Rattle.wh_codec.proofs.Frames.{body_again}
use Rattle.wh_fit.proofs.bodies_are_read.Goals as goal

pub returns : goal.returns
returns c = λ f spelled. body_again (frame_bytes f) f (record { spelled = spelled; bytes = refl })
