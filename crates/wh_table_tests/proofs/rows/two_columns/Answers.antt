use Rattle.wh_table_tests.proofs.OneRow.{sets_fit}
use Rattle.wh_table_tests.proofs.rows.two_columns.Goals as goal

pub new-requires : goal.new-requires
new-requires c = sets_fit c.in_ok-sets.sets c.in_ok-sets.ensures
