use Rattle.wh_command.specs.Commands.{words_of}
use Rattle.wh_command.proofs.MakeRun.{refresh_reports, refresh_stops}
use Rattle.wh_command.proofs.make.take_changes.Goals as goal

pub returns-in-Ok-clause-ends : goal.returns-in-Ok-clause-ends
returns-in-Ok-clause-ends g c =
    refresh_reports g.D.Disk.content g.D.Disk.images g.D.Disk.moment g.D.Disk.images_since (words_of c.args.names.now) _ _ _ _ _ _ g.met.D.Disk.counts_now _ _ _ _ c.report.ensures.first_same c.report.ensures.second_same
    c.report.ensures.first_moments c.report.ensures.second_moments c.report.ensures.ends _ _ c.in-Ok.ensures.ends

pub returns-in-Err-clause-ends : goal.returns-in-Err-clause-ends
returns-in-Err-clause-ends g c =
    refresh_stops g.D.Disk.content g.D.Disk.images g.D.Disk.moment g.D.Disk.images_since (words_of c.args.names.now) _ _ _ _ _ _ _ c.in-Err.stop c.in-Err.ensures.ends
