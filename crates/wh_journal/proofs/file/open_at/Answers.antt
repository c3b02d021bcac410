use Rattle.std.proofs.Common.{◌≡◌, None, Some, sym}
use Rattle.wh_journal.specs.File.{body_at}
use Rattle.wh_journal.proofs.Walks.{open_walks, wrong_walks}
use Rattle.wh_journal.proofs.file.open_at.Goals as goal

pub returns-in-Some : goal.returns-in-Some
returns-in-Some c =
    let found : body_at c.args.behind.now ≡ Some (c.in-Some.body.now, c.in-Some.after.now) = sym c.in-Some.ensures in
    open_walks c.args.behind.now c.in-Some.body.now c.in-Some.after.now found

pub returns-in-None : goal.returns-in-None
returns-in-None c =
    let none : body_at c.args.behind.now ≡ None = sym c.in-None.ensures in
    wrong_walks c.args.behind.now none
