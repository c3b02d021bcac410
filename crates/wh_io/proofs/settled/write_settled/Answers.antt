use Rattle.std.proofs.Common.{◌∙◌, length}
use Rattle.wh_io.specs.Disk.{Torn}
use Rattle.wh_io.specs.Images.{torn_same}
use Rattle.wh_io.proofs.Moments.{change_leaves, change_sync_leaves, changes_written}
use Rattle.wh_io.proofs.settled.write_settled.Goals as goal

pub returns-in_err-write_at-clause-any_moment : goal.returns-in_err-write_at-clause-any_moment
returns-in_err-write_at-clause-any_moment g c =
    let n = length c.args.bytes.now in
    λ settled. change_leaves g.D.Disk.images g.D.Disk.moment g.D.Disk.images_since (Torn c.args.at n) (torn_same c.args.at n) _ _
    (g.met.D.Disk.only_now c.args.disk.now) c.write_at.ensures.time c.write_at.ensures.crash _ settled

pub returns-clause-any_moment : goal.returns-clause-any_moment
returns-clause-any_moment g c =
    let n = length c.args.bytes.now in
    λ settled. change_sync_leaves g.D.Disk.images g.D.Disk.moment g.D.Disk.images_since (Torn c.args.at n) (torn_same c.args.at n) _ _
    (g.met.D.Disk.only_now c.args.disk.now) c.write_at.ensures.time c.write_at.ensures.crash _ _ settled c.sync.ensures.time c.sync.ensures.crash

pub returns-clause-partly : goal.returns-clause-partly
returns-clause-partly g c = changes_written c.args.at c.args.bytes.now _ _ c.requires.place (c.sync.ensures.same ∙ c.in_ok-write_at.ensures.written)
