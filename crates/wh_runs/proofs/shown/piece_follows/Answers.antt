use Rattle.wh_runs.specs.Disks.{form}
use Rattle.wh_runs.proofs.Following.{follows}
use Rattle.wh_runs.proofs.shown.piece_follows.Goals as goal

pub returns : goal.returns
returns g c = λ command held m n start piece pieces finish ended before mid after text rests more ends.
    follows (form g.D.Disk) g.C.Commands.program command held m n start piece pieces finish before mid after text rests ended more ends
