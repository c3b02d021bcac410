use Rattle.wh_laws.proofs.Example.{its_tables, its_tables_of_grown}
use Rattle.wh_laws.proofs.shop_is_stored.Goals as goal

pub returns : goal.returns
returns c = (its_tables, its_tables_of_grown)
