use Rattle.std.proofs.Common.{sym, ◌∙◌, ap}
use Rattle.std.specs.List.{list_all}
use Rattle.wh_schema.specs.Reconstruction.{is_taken}
use Rattle.wh_delta_laws.specs.Connected.{reached}
use Rattle.wh_delta.proofs.Orders.{found_is_order, found_is_exact, missing_is_exact}
use Rattle.wh_delta.proofs.outward.outward_order.Goals as goal

pub returns-then-has_all-clause-outward : goal.returns-then-has_all-clause-outward
returns-then-has_all-clause-outward c =
    let v = c.args.view.now in
    let order = c.in_ok-order.order in
    let is = c.in_ok-order.ensures ∙ ap (λ l. reached c.args.spec.now l c.args.member) c.as_slice.ensures in
    let test = ap (λ l. list_all (is_taken l) c.as_slice-3.result.now) c.as_slice-2.ensures ∙ ap (list_all (is_taken order)) c.as_slice-3.ensures in
    found_is_order c.args.spec.now v c.args.member c.requires order is (sym (c.has_all.ensures ∙ test) ∙ c.if-has_all.true)

pub returns-then-has_all-clause-exact : goal.returns-then-has_all-clause-exact
returns-then-has_all-clause-exact c =
    let v = c.args.view.now in
    let order = c.in_ok-order.order in
    let is = c.in_ok-order.ensures ∙ ap (λ l. reached c.args.spec.now l c.args.member) c.as_slice.ensures in
    let test = ap (λ l. list_all (is_taken l) c.as_slice-3.result.now) c.as_slice-2.ensures ∙ ap (list_all (is_taken order)) c.as_slice-3.ensures in
    found_is_exact c.args.spec.now v c.args.member c.requires order is (sym (c.has_all.ensures ∙ test) ∙ c.if-has_all.true)

pub returns-clause-exact : goal.returns-clause-exact
returns-clause-exact c =
    let v = c.args.view.now in
    let order = c.in_ok-order.order in
    let is = c.in_ok-order.ensures ∙ ap (λ l. reached c.args.spec.now l c.args.member) c.as_slice.ensures in
    let test = ap (λ l. list_all (is_taken l) c.as_slice-3.result.now) c.as_slice-2.ensures ∙ ap (list_all (is_taken order)) c.as_slice-3.ensures in
    missing_is_exact c.args.spec.now v c.args.member c.requires order is (sym (c.has_all.ensures ∙ test) ∙ c.if-has_all.false)
