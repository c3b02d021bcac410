use Rattle.wh_journal.proofs.Told.{cut_leaves, frames_cut, place_cut}
use Rattle.wh_journal.proofs.journal.Journal.tidy.Goals as goal

pub returns-in_err-cut_behind-clause-any_moment : goal.returns-in_err-cut_behind-clause-any_moment
returns-in_err-cut_behind-clause-any_moment g c = λ settled.
    cut_leaves c.args.self.now.end c.args.self.now.length g.D.Disk.moment g.D.Disk.images_since _ _ _ c.requires.file (c.cut_behind.ensures.any_moment settled)

pub returns-clause-frames : goal.returns-clause-frames
returns-clause-frames g c = frames_cut c.args.self.now.end c.args.self.now.length _ _ c.requires.file c.in_ok-cut_behind.ensures.file

pub returns-clause-journal : goal.returns-clause-journal
returns-clause-journal g c = place_cut c.args.self.now.end c.args.self.now.length _ _ c.requires.file c.in_ok-cut_behind.ensures.file

pub returns-clause-any_moment : goal.returns-clause-any_moment
returns-clause-any_moment g c = λ settled.
    cut_leaves c.args.self.now.end c.args.self.now.length g.D.Disk.moment g.D.Disk.images_since _ _ _ c.requires.file (c.cut_behind.ensures.any_moment settled)
