use Rattle.std.proofs.Common.{refl}
use Rattle.wh_store.specs.Opening.{stored_heads}
use Rattle.wh_store.proofs.HeldValues.{holds_values}
use Rattle.wh_store.proofs.TableLemmas.{in_form}
use Rattle.wh_store.proofs.warehouse.warehouse_of.Goals as goal

pub returns-clause-form : goal.returns-clause-form
returns-clause-form c =
    in_form (record { plan = c.args.plan; tables = c.in_ok-tables.tables; seq = c.args.seq }) (stored_heads c.args.plan.spec) c.args.rows refl c.requires.fits c.in_ok-tables.ensures c.requires.textual c.requires.plan

pub returns-clause-values : goal.returns-clause-values
returns-clause-values c =
    holds_values (record { plan = c.args.plan; tables = c.in_ok-tables.tables; seq = c.args.seq }) (stored_heads c.args.plan.spec) c.args.rows c.requires.fits c.requires.spelled c.requires.few c.in_ok-tables.ensures
