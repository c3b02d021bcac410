use Rattle.std.proofs.Common.{◌≡◌, true, rules}
use Rattle.wh_base.specs.Columns.{all_in}
use Rattle.wh_base.specs.Heads.{columns_at}
use Rattle.wh_inverse.proofs.StoredSets.{one_indexed}
use Rattle.wh_tests.proofs.look_up_tests.first_with.Goals as goal

pub first_where-requires-clause-indexed : goal.first_where-requires-clause-indexed
first_where-requires-clause-indexed g c =
    let s = c.args.stored.now in
    let all : all_in (columns_at s.heads.now c.args.n) c.in_ok-cols.cols ≡ true = search rules in
    one_indexed s.heads.now s.tables.now c.args.n c.in_ok-cols.cols _ s.enough s.fits c.requires c.in_ok-cols.ensures all
