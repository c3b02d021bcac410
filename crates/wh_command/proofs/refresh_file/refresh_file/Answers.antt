use Rattle.wh_command.proofs.RefreshTaken.{tells_file, stops_file}
use Rattle.wh_command.proofs.refresh_file.refresh_file.Goals as goal

pub returns-in-Ok-clause-takes : goal.returns-in-Ok-clause-takes
returns-in-Ok-clause-takes g c = λ held active files stands.
    tells_file g.D.Disk.content g.D.Disk.images g.D.Disk.moment g.D.Disk.images_since _ _ _ _ _ _ c.args.name.now active _ c.in-Ok.report _ _ c.tell.result (c.in-Ok.ensures.takes held active files stands) c.tell.ensures.tells

pub returns-in-Err-clause-takes : goal.returns-in-Err-clause-takes
returns-in-Err-clause-takes g c = λ held active files stands.
    stops_file g.D.Disk.content g.D.Disk.images g.D.Disk.moment g.D.Disk.images_since _ _ _ _ _ _ c.args.name.now active _ c.in-Err.stop _ (c.in-Err.ensures.takes held active files stands)
