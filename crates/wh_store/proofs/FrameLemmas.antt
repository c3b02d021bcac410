-- A body that is no frame's.
use Rattle.std.proofs.Common.{◌≡◌, ℕ, List, Option, None, Some, refl}
use Rattle.wh_codec.specs.declared.frame.Frame.{Frame}
use Rattle.wh_codec.specs.Body.{IsBodyOf}
use Rattle.wh_codec.specs.Reading.{frame_of}
use Rattle.wh_codec.proofs.Fields.{IsBytes}
use Rattle.wh_codec.proofs.Frames.{body_is}

pub no_frame : (body : List ℕ) → IsBytes body → ((frame : Frame) → IsBodyOf body frame → ⊥) → frame_of body ≡ None
no_frame body fits none = by (frame_of body) refl
  where
    by : (o : Option Frame) → frame_of body ≡ o → frame_of body ≡ None
    by None e = e
    by (Some frame) e = absurd (none frame (body_is body frame fits e))
