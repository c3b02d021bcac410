use Rattle.wh_command.specs.Show.{shown}
use Rattle.wh_command.proofs.Loads.{keep_stops_from, keep_tells_from}
use Rattle.wh_command.proofs.load.keep.Goals as goal

pub returns-clause-ends : goal.returns-clause-ends
returns-clause-ends g c =
    keep_stops_from g.D.Disk.content g.D.Disk.images g.D.Disk.moment g.D.Disk.images_since _ _ _ _ (shown c.args.stock.plan.spec c.args.stock.tables) c.requires.empty c.make_store.ensures.second_same c.make_store.ensures.second_moments
    (g.met.D.Disk.counts_now _) (g.met.D.Disk.counts_now _) c.make_store.ensures.any_moment _ c.in-Err.stop c.in-Err.ensures.answer c.in-Err.ensures.kept c.in-Err.ensures.durable

pub returns-in-Ok-clause-ends : goal.returns-in-Ok-clause-ends
returns-in-Ok-clause-ends g c =
    keep_tells_from g.D.Disk.content g.D.Disk.images g.D.Disk.moment g.D.Disk.images_since _ _ _ _ (shown c.args.stock.plan.spec c.args.stock.tables) c.requires.empty c.make_store.ensures.second_same c.make_store.ensures.second_moments
    (g.met.D.Disk.counts_now _) (g.met.D.Disk.counts_now _) c.make_store.ensures.any_moment _ _ c.in-Ok.ensures.answer c.in-Ok.ensures.file c.in-Ok.ensures.durable (g.met.D.Disk.content_is_left _)
    c.args.stock.line.bytes c.requires.stock.line _ c.tell_loaded.ensures.tells
