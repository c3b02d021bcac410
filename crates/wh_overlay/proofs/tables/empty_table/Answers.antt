use Rattle.wh_overlay.proofs.TableLemmas.{singles_are_sets}
use Rattle.wh_overlay.proofs.tables.empty_table.Goals as goal

pub new-requires : goal.new-requires
new-requires c = singles_are_sets c.in-Ok.width c.in_ok-single_sets.field-0 c.in_ok-single_sets.ensures
