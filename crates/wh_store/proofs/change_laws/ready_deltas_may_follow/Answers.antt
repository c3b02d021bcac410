use Rattle.wh_store.proofs.Allowed.{may_follow}
use Rattle.wh_store.proofs.SoundFiles.{active_stored}
use Rattle.wh_store.proofs.change_laws.ready_deltas_may_follow.Goals as goal

pub returns : goal.returns
returns c = λ first second active w p deltas is can fit room.
    may_follow active.image w deltas is.warehouse (active_stored first second active is.holds) can fit room
