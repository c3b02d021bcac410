use Rattle.std.proofs.Common.{◌∙◌}
use Rattle.wh_io.specs.Disk.{PartlyCut}
use Rattle.wh_io.specs.Images.{cut_same}
use Rattle.wh_io.proofs.Moments.{change_leaves, change_sync_leaves, changes_cut}
use Rattle.wh_io.proofs.settled.cut_settled.Goals as goal

pub returns-in_err-cut-clause-any_moment : goal.returns-in_err-cut-clause-any_moment
returns-in_err-cut-clause-any_moment g c =
    λ settled. change_leaves g.D.Disk.images g.D.Disk.moment g.D.Disk.images_since (PartlyCut c.args.to) (cut_same c.args.to) _ _
    (g.met.D.Disk.only_now c.args.disk.now) c.cut.ensures.time c.cut.ensures.crash _ settled

pub returns-clause-any_moment : goal.returns-clause-any_moment
returns-clause-any_moment g c =
    λ settled. change_sync_leaves g.D.Disk.images g.D.Disk.moment g.D.Disk.images_since (PartlyCut c.args.to) (cut_same c.args.to) _ _
    (g.met.D.Disk.only_now c.args.disk.now) c.cut.ensures.time c.cut.ensures.crash _ _ settled c.sync.ensures.time c.sync.ensures.crash

pub returns-clause-partly : goal.returns-clause-partly
returns-clause-partly g c = changes_cut c.args.to _ _ (c.sync.ensures.same ∙ c.in_ok-cut.ensures.cut)
