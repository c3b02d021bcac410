use Rattle.wh_runs.specs.Disks.{form, both}
use Rattle.wh_runs.proofs.Asking.{asked}
use Rattle.wh_runs.proofs.counter.ask.Goals as goal

pub returns : goal.returns
returns g c =
    asked (form g.D.Disk) c.args.files.now (g.F.Files.held c.args.files.now) (g.F.Files.faults c.args.files.now) (g.O.Sink.taken c.args.out.now) (g.O.Sink.taken c.answer.new.out)
    (g.O.Sink.faults c.args.out.now) (g.O.Sink.faults c.answer.new.out) (both c.args.first.now c.args.second.now) (both c.answer.new.first c.answer.new.second)
    g.met.D.Disk.content_is_left c.answer.result c.answer.ensures.answer c.answer.ensures.unwritten c.answer.ensures.out c.answer.ensures.disks
