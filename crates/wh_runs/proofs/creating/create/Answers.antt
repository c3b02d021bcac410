use Rattle.wh_runs.specs.Disks.{form, both}
use Rattle.wh_runs.proofs.Begun.{created}
use Rattle.wh_runs.proofs.creating.create.Goals as goal

pub returns : goal.returns
returns g c =
    created (form g.D.Disk) g.met.D.Disk.content_is_left g.met.D.Disk.counts_now g.met.D.Disk.only_now c.args.files.now (g.F.Files.held c.args.files.now) (g.F.Files.faults c.args.files.now)
    (g.O.Sink.taken c.args.out.now) (g.O.Sink.taken c.begin.new.out) (g.O.Sink.faults c.args.out.now) (g.O.Sink.faults c.begin.new.out)
    (both c.args.first.now c.args.second.now) (both c.begin.new.first c.begin.new.second)
    c.begin.result c.begin.ensures.begun c.begin.ensures.told c.begin.ensures.out c.begin.ensures.disks
