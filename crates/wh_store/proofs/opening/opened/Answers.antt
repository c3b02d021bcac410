use Rattle.std.proofs.Common.{refl}
use Rattle.wh_store.specs.declared.warehouse.Warehouse.{Warehouse}
use Rattle.wh_store.specs.Opening.{ordered_rows}
use Rattle.wh_store.proofs.HeldValues.{holds_values}
use Rattle.wh_store.proofs.TableLemmas.{in_form, rows_held}
use Rattle.wh_store.proofs.opening.opened.Goals as goal

pub returns-clause-warehouse : goal.returns-clause-warehouse
returns-clause-warehouse c =
    let r = c.args.state in
    let rows = ordered_rows r.tables in
    let w : Warehouse = record { plan = r.plan; tables = r.tables; seq = r.seq } in
    let sound = c.requires in
    record {
      form = in_form w r.stored rows sound.stored sound.tables.fits sound.tables.form sound.textual sound.plan;
      spec = refl;
      rows = rows_held w r.stored rows sound.stored sound.tables.fits sound.tables.form;
      seq = refl;
    }

pub returns-clause-values : goal.returns-clause-values
returns-clause-values c =
    let r = c.args.state in
    holds_values (record { plan = r.plan; tables = r.tables; seq = r.seq }) r.stored (ordered_rows r.tables) c.requires.tables.fits c.requires.tables.spelled c.requires.tables.few c.requires.tables.form
