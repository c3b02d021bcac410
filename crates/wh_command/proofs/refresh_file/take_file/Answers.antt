use Rattle.wh_command.proofs.RefreshTaken.{takes_lines, takes_turned, takes_stop}
use Rattle.wh_command.proofs.RefreshReads.{last_usage, last_write}
use Rattle.wh_command.proofs.refresh_file.take_file.Goals as goal

pub returns-in-Ok-Lines-clause-takes : goal.returns-in-Ok-Lines-clause-takes
returns-in-Ok-Lines-clause-takes g c = λ held active files stands.
    takes_lines g.D.Disk.content g.D.Disk.images g.D.Disk.moment g.D.Disk.images_since _ _ _ _ c.args.name.now held active stands _ _ _ _ c.in-Ok-Lines.change c.in-Ok-Lines.field-0 c.make_change.result c.in-Ok-Lines.field-0-is (c.in-Ok-Lines.ensures.reading held files) (c.make_change.ensures.takes active stands)

pub returns-in-Ok-Rejected-clause-takes : goal.returns-in-Ok-Rejected-clause-takes
returns-in-Ok-Rejected-clause-takes g c = λ held active files stands.
    takes_turned g.D.Disk.content g.D.Disk.images g.D.Disk.moment g.D.Disk.images_since _ _ _ _ c.args.name.now held active stands g.met.D.Disk.only_now c.in-Ok-Rejected.report c.in-Ok-Rejected.field-0 c.in-Ok-Rejected.field-0-is (c.in-Ok-Rejected.ensures.reading held files)

pub returns-in-Err-clause-takes : goal.returns-in-Err-clause-takes
returns-in-Err-clause-takes g c = λ held active files stands.
    takes_stop g.D.Disk.content g.D.Disk.images g.D.Disk.moment g.D.Disk.images_since _ _ _ _ c.args.name.now held active stands g.met.D.Disk.only_now c.in-Err.stop c.in-Err.ensures.stops

pub returns-in-Err-clause-write : goal.returns-in-Err-clause-write
returns-in-Err-clause-write g c = last_write c.args.name.now c.in-Err.stop c.in-Err.ensures.stops

pub returns-in-Err-clause-usage : goal.returns-in-Err-clause-usage
returns-in-Err-clause-usage g c = last_usage c.args.name.now c.in-Err.stop c.in-Err.ensures.stops
