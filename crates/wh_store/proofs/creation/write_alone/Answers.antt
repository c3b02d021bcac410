use Rattle.wh_store.proofs.Alone.{alone_leaves}
use Rattle.wh_store.proofs.creation.write_alone.Goals as goal

pub returns-in_err-append-clause-any_moment : goal.returns-in_err-append-clause-any_moment
returns-in_err-append-clause-any_moment g c = λ settled.
    alone_leaves g.D.Disk.moment g.D.Disk.images_since c.args.only.now _ _ _ _ _ c.in_ok-journal.ensures.file (c.clear.ensures.any_moment settled) (c.append.ensures.any_moment (c.in_ok-journal.ensures.durable settled))

pub returns-clause-any_moment : goal.returns-clause-any_moment
returns-clause-any_moment g c = λ settled.
    alone_leaves g.D.Disk.moment g.D.Disk.images_since c.args.only.now _ _ _ _ _ c.in_ok-journal.ensures.file (c.clear.ensures.any_moment settled) (c.append.ensures.any_moment (c.in_ok-journal.ensures.durable settled))
