use Rattle.std.proofs.Common.{◌≡◌, Some, sym, ◌∙◌, arith}
use Rattle.wh_store.specs.Commit.{first_over_after}
use Rattle.wh_store.proofs.CommitLemmas.{warehouse_kept}
use Rattle.wh_store.proofs.TableSteps.{first_over_inside}
use Rattle.wh_store.proofs.warehouse.Warehouse.ready.Goals as goal

pub overflow_cast-table : goal.overflow_cast-table
overflow_cast-table c =
    let found : first_over_after c.args.self.now.tables c.args.deltas ≡ Some c.in-Some.table = sym c.first_over.ensures ∙ c.in-Some.is in
    omega (arith, first_over_inside c.args.self.now.tables c.args.deltas c.in-Some.table found, c.requires.applies.count, c.requires.count)

pub returns-in_err-prepared-clause-image : goal.returns-in_err-prepared-clause-image
returns-in_err-prepared-clause-image c = λ i is.
    warehouse_kept c.args.self.now c.prepare_all.new.tables c.prepare_all.ensures.kept i is

pub returns-clause-image : goal.returns-clause-image
returns-clause-image c = λ i is. warehouse_kept c.args.self.now c.prepare_all.new.tables c.prepare_all.ensures.kept i is
