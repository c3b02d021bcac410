use Rattle.wh_command.proofs.Loads.{load_stops, load_keeps}
use Rattle.wh_command.proofs.load.load.Goals as goal

pub returns-in-Err-clause-ends : goal.returns-in-Err-clause-ends
returns-in-Err-clause-ends g c =
    load_stops g.D.Disk.content g.D.Disk.images g.D.Disk.moment g.D.Disk.images_since c.args.spec_name.now c.args.dir.now _ _ _ _ c.prepare.ensures.first_same c.prepare.ensures.second_same c.prepare.ensures.first_moments c.prepare.ensures.second_moments
    (g.met.D.Disk.counts_now _) (g.met.D.Disk.counts_now _) _ _ c.in-Err.stop c.in-Err.ensures.write c.in-Err.ensures.answer c.in-Err.ensures.names

pub returns-in-Ok-clause-ends : goal.returns-in-Ok-clause-ends
returns-in-Ok-clause-ends g c =
    load_keeps g.D.Disk.content g.D.Disk.images g.D.Disk.moment g.D.Disk.images_since c.args.spec_name.now c.args.dir.now _ _ _ _ c.prepare.ensures.first_same c.prepare.ensures.second_same c.prepare.ensures.first_moments c.prepare.ensures.second_moments
    (g.met.D.Disk.counts_now _) (g.met.D.Disk.counts_now _) _ _ _ _ c.in-Ok.stock _ c.keep.ensures.read c.keep.ensures.ends _ c.in-Ok.ensures.answer
