use Rattle.std.proofs.Common.{◌≡◌, ◌∙◌, List, Option, None, map, length, ap, subst, sym}
use Rattle.std.specs.List.{AllByRecursion}
use Rattle.wh_base.specs.RowSet.{IsAscending}
use Rattle.std.proofs.Common.{Result}
use Rattle.std.specs.Prelude.{IfErr}
use Rattle.wh_store.specs.declared.warehouse.NetChange.{NetChange}
use Rattle.wh_refresh.specs.declared.fault.RefreshFault.{RefreshFault}
use Rattle.std.proofs.lemmas.Result.{err_from_is_err_and}
use Rattle.wh_base.specs.declared.value.Delta.{Delta}
use Rattle.wh_check.specs.Check.{source_deltas, sources_after, sources_with}
use Rattle.wh_fit.specs.Differences.{differences}
use Rattle.wh_fit.specs.Fit.{as_line}
use Rattle.wh_load.specs.Load.{first_over}
use Rattle.wh_schema.specs.declared.broken.Broken.{Broken}
use Rattle.wh_schema.specs.Constraints.{broken}
use Rattle.wh_schema.specs.Warehouse.{Row, stored}
use Rattle.wh_refresh.specs.Net.{IsRefused, own_image}
use Rattle.wh_refresh.proofs.Nets.{after_count, refused_by, stored_up, with_broken, with_is_state, with_stored}
use Rattle.wh_refresh.proofs.OwnImage.{fitting_lines, lines_within, own_is}
use Rattle.wh_refresh.proofs.net.net_change.Goals as goal

pub effective-requires-clause-lines : goal.effective-requires-clause-lines
effective-requires-clause-lines g c = lines_within c.args.w.now.plan.spec c.args.c.now c.requires.lines

pub tables_after-requires-clause-state : goal.tables_after-requires-clause-state
tables_after-requires-clause-state g c =
    let w = c.args.w.now in
    with_is_state w c.requires.form c.requires.values (map as_line c.args.c.now) (fitting_lines w.plan.spec c.args.c.now c.requires.lines) c.in_ok-source.source
    (c.in_ok-source.ensures.deltas (own_image w) (own_is w c.requires.form))

pub table_differences-requires-clause-count : goal.table_differences-requires-clause-count
table_differences-requires-clause-count g c =
    let w = c.args.w.now in
    let lines = map as_line c.args.c.now in
    let fit = fitting_lines w.plan.spec c.args.c.now c.requires.lines in
    let is = c.in_ok-source.ensures.deltas (own_image w) (own_is w c.requires.form) in
    ap length (c.in_ok-after.ensures.tables ∙ with_stored w c.requires.form c.requires.values lines fit c.in_ok-source.source is (with_is_state w c.requires.form c.requires.values lines fit c.in_ok-source.source is))
    ∙ after_count w c.requires.form c.requires.values lines fit

pub table_differences-requires-clause-ascending : goal.table_differences-requires-clause-ascending
table_differences-requires-clause-ascending g c =
    let w = c.args.w.now in
    subst (AllByRecursion IsAscending) (sym c.in_ok-after.ensures.tables) (stored_up w.plan.spec (sources_with (own_image w) c.in_ok-source.source))

pub returns-in_err-after-clause-refused : goal.returns-in_err-after-clause-refused
returns-in_err-after-clause-refused g c =
    let w = c.args.w.now in
    let lines = map as_line c.args.c.now in
    let fit = fitting_lines w.plan.spec c.args.c.now c.requires.lines in
    let is = c.in_ok-source.ensures.deltas (own_image w) (own_is w c.requires.form) in
    let state = with_is_state w c.requires.form c.requires.values lines fit c.in_ok-source.source is in
    let p = err_from_is_err_and c.from_residual-in_err-after.result c.from_residual-in_err-after.ensures.1 in
    subst (λ (r : Result NetChange RefreshFault). IfErr r (IsRefused (own_image w) lines)) (sym p.1)
    (refused_by (own_image w) lines (sources_with (own_image w) c.in_ok-source.source)
    (with_broken w c.requires.form c.requires.values lines fit c.in_ok-source.source is state) (with_stored w c.requires.form c.requires.values lines fit c.in_ok-source.source is state)
    c.in_err-after.field-0.0 p.0 p.2 c.in_err-after.ensures.fault)

pub returns-clause-net : goal.returns-clause-net
returns-clause-net g c =
    let w = c.args.w.now in
    let lines = map as_line c.args.c.now in
    let fit = fitting_lines w.plan.spec c.args.c.now c.requires.lines in
    let is = c.in_ok-source.ensures.deltas (own_image w) (own_is w c.requires.form) in
    let state = with_is_state w c.requires.form c.requires.values lines fit c.in_ok-source.source is in
    let stored_is = with_stored w c.requires.form c.requires.values lines fit c.in_ok-source.source is state in
    record {
      source = is;
      stored_is = c.in_ok-stored.ensures.deltas ∙ ap (λ (rows : List (List Row)). differences (own_image w).tables rows) (c.in_ok-after.ensures.tables ∙ stored_is);
      legal = sym (with_broken w c.requires.form c.requires.values lines fit c.in_ok-source.source is state) ∙ c.in_ok-after.ensures.legal;
      under = sym (ap first_over stored_is) ∙ c.in_ok-after.ensures.under;
    }
