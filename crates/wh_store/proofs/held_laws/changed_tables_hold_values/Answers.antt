use Rattle.wh_store.proofs.HeldValues.{changed_hold_values}
use Rattle.wh_store.proofs.held_laws.changed_tables_hold_values.Goals as goal

pub returns : goal.returns
returns c = changed_hold_values
