use Rattle.std.proofs.Common.{not, nat_eq, filter, IfSome, IsSome, ◌∙◌, ap, subst}
use Rattle.std.proofs.lemmas.Bool.{false≢true}
use Rattle.std.proofs.lemmas.Result.{IfOk-weaker}
use Rattle.wh_delta_laws.specs.Connected.{IsOrderFrom}
use Rattle.wh_delta.proofs.Replaced.{later_of_order, later_of_declared}
use Rattle.wh_delta.proofs.member.later_members.Goals as goal

pub returns-in-Some : goal.returns-in-Some
returns-in-Some c =
    let spec = c.args.spec.now in
    let v = c.args.view.now in
    let n = c.args.member in
    let order = subst (λ o. IfSome o (IsOrderFrom spec v n)) c.in-Some.is c.in_ok-order.ensures.outward in
    IfOk-weaker c.other_numbers.result _ _
    (λ later made. later_of_order spec v n c.in-Some.order order later (made ∙ ap (filter (λ m. not (nat_eq n m))) c.as_slice.ensures))
    c.other_numbers.ensures

pub returns-in-None : goal.returns-in-None
returns-in-None c =
    let spec = c.args.spec.now in
    let v = c.args.view.now in
    let n = c.args.member in
    IfOk-weaker c.other_numbers-in-None.result _ _
    (λ later made.
    later_of_declared spec v n c.requires (λ connected. false≢true (subst (λ o. IsSome o) c.in-None.is (c.in_ok-order.ensures.exact.1 connected))) later
    (made ∙ ap (filter (λ m. not (nat_eq n m))) c.as_slice-in-None.ensures))
    c.other_numbers-in-None.ensures
