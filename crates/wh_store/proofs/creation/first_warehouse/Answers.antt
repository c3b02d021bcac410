use Rattle.std.proofs.Common.{List, sym, ap, subst}
use Rattle.wh_base.specs.declared.value.Value.{Value}
use Rattle.wh_plan.specs.declared.plan.Plan.{Plan}
use Rattle.wh_store.specs.Opening.{AreSpelledTables}
use Rattle.wh_store.specs.Warehouse.{HasRows}
use Rattle.wh_store.proofs.SpelledTables.{tables_values}
use Rattle.wh_store.proofs.creation.first_warehouse.Goals as goal

pub warehouse_of-requires-clause-spelled : goal.warehouse_of-requires-clause-spelled
warehouse_of-requires-clause-spelled c = subst AreSpelledTables (sym c.in_ok-framed.ensures.tables) (tables_values c.args.rows c.requires.spelled)

pub returns-clause-warehouse : goal.returns-clause-warehouse
returns-clause-warehouse c = record {
  form = c.in_ok-warehouse.ensures.form;
  spec = ap (λ (p : Plan). p.spec) c.in_ok-warehouse.ensures.plan;
  rows = subst (λ (r : List (List (List Value))). HasRows c.args.plan.spec r c.in_ok-warehouse.warehouse) c.in_ok-framed.ensures.tables c.in_ok-warehouse.ensures.rows;
  seq = c.in_ok-warehouse.ensures.seq;
}
