use Rattle.std.proofs.Common.{◌≡◌, ◌∙◌, ℕ, List, Option, None, Some, Result, Ok, Err, map, length, ap, subst, sym, rules, refl, arith}
use Rattle.std.specs.Prelude.{IfErr, IfOk, IfSome, OnErr}
use Rattle.std.specs.Option.{option_map}
use Rattle.wh_base.specs.declared.value.Delta.{Delta}
use Rattle.std.proofs.lemmas.Result.{err_from_is_err_and}
use Rattle.wh_fit.specs.Fit.{as_line}
use Rattle.wh_io.specs.Crash.{LeavesOnly}
use Rattle.wh_journal.specs.Journal.{appended}
use Rattle.wh_store.specs.declared.warehouse.NetChange.{NetChange}
use Rattle.wh_store.specs.Commit.{Advances, AreChanged, IsHeldBeforeOrAfter, Matches, MayFollow, active_of, active_with, change_body}
use Rattle.wh_store.specs.Image.{Active, Image}
use Rattle.wh_store.specs.Warehouse.{IsWarehouseOf}
use Rattle.wh_refresh.specs.declared.fault.RefreshFault.{RefreshFault}
use Rattle.wh_refresh.specs.declared.fault.RefreshFault.TheVariants as fault
use Rattle.wh_refresh.specs.Refresh.{IsRefreshed, stored_changes}
use Rattle.wh_refresh.proofs.Given.{changed_values}
use Rattle.wh_refresh.proofs.Made.{changed_from, changes_are, full_answer, image_same, made_answer, may_follow, net_answer, ready_body, ready_low, ready_short, refused_answer, told_four, told_two, values_kept, values_same}
use Rattle.wh_refresh.proofs.Nets.{net_allowed, net_applies, net_count, net_fits, net_spelled, net_under}
use Rattle.wh_refresh.proofs.OwnImage.{fitting_lines}
use Rattle.wh_refresh.proofs.refreshing.refresh.Goals as goal

abbrev as_error : RefreshFault → Result NetChange RefreshFault
as_error f = Err f

pub returns-in_err-net-clause-answer : goal.returns-in_err-net-clause-answer
returns-in_err-net-clause-answer g c = λ active a b m.
    let lines = map as_line c.args.c.now in
    let same : c.from_residual.result ≡ Err c.in_err-net.field-0.0 = search rules in
    subst (IsRefreshed active.image lines) (sym same) (refused_answer c.args.w.now c.args.place.now a b active m lines c.in_err-net.field-0.0 c.in_err-net.ensures.refused)

pub make_ready-requires-clause-applies : goal.make_ready-requires-clause-applies
make_ready-requires-clause-applies g c =
    let w = c.args.w.now in
    net_applies w c.requires.form c.requires.values (map as_line c.args.c.now) (fitting_lines w.plan.spec c.args.c.now c.requires.lines) c.in_ok-net.net c.in_ok-net.ensures.net c.in_ok-net.ensures.distinct

pub make_ready-requires-clause-spelled : goal.make_ready-requires-clause-spelled
make_ready-requires-clause-spelled g c =
    let w = c.args.w.now in
    net_spelled w c.requires.form c.requires.values (map as_line c.args.c.now) (fitting_lines w.plan.spec c.args.c.now c.requires.lines) c.in_ok-net.net c.in_ok-net.ensures.net c.in_ok-net.ensures.distinct

pub make_ready-requires-clause-count : goal.make_ready-requires-clause-count
make_ready-requires-clause-count g c =
    let w = c.args.w.now in
    net_count w c.requires.form c.requires.values (map as_line c.args.c.now) (fitting_lines w.plan.spec c.args.c.now c.requires.lines) c.in_ok-net.net c.in_ok-net.ensures.net c.in_ok-net.ensures.distinct

pub make_ready-requires-clause-under : goal.make_ready-requires-clause-under
make_ready-requires-clause-under g c =
    let w = c.args.w.now in
    net_under w c.requires.form c.requires.values (map as_line c.args.c.now) (fitting_lines w.plan.spec c.args.c.now c.requires.lines) c.in_ok-net.net c.in_ok-net.ensures.net c.in_ok-net.ensures.distinct

pub returns-in_err-ready-clause-answer : goal.returns-in_err-ready-clause-answer
returns-in_err-ready-clause-answer g c = λ active a b m.
    let lines = map as_line c.args.c.now in
    let same : c.from_residual-in_err-ready.result ≡ Err c.in_err-ready.field-0.0 = search rules in
    subst (IsRefreshed active.image lines) (sym same) (full_answer c.args.w.now c.args.place.now a b active m lines c.in_ok-net.net c.in_ok-net.ensures.net c.in_err-ready.field-0.0 c.in_err-ready.ensures.full)

pub returns-in_err-ready-clause-values : goal.returns-in_err-ready-clause-values
returns-in_err-ready-clause-values g c = values_kept c.args.w.now c.make_ready.new.w c.make_ready.ensures.kept c.make_ready.ensures.plan c.requires.values

pub returns-in_err-commit-clause-answer : goal.returns-in_err-commit-clause-answer
returns-in_err-commit-clause-answer g c = λ active a b m.
    let lines = map as_line c.args.c.now in
    let w = c.args.w.now in
    let w1 = c.make_ready.new.w in
    let p = c.args.place.now in
    let net = c.in_ok-net.net in
    let r = c.in_ok-ready.ready in
    let q = err_from_is_err_and c.from_residual-in_err-commit.result c.from_residual-in_err-commit.ensures.1 in
    subst (IsRefreshed active.image lines) (sym (q.1 ∙ ap as_error q.2))
    (made_answer w p a b active m lines net c.in_ok-net.ensures.net (ready_low w w1 p net.stored r c.in_ok-ready.ensures.ready c.make_ready.ensures.seq) (ready_short w w1 p net.stored r c.in_ok-ready.ensures.ready c.make_ready.ensures.seq))

pub returns-in_err-commit-clause-values : goal.returns-in_err-commit-clause-values
returns-in_err-commit-clause-values g c =
    values_same c.make_ready.new.w c.commit.new.self c.commit.ensures.plan c.in_err-commit.ensures.kept c.in_err-commit.ensures.seq_kept
    (values_kept c.args.w.now c.make_ready.new.w c.make_ready.ensures.kept c.make_ready.ensures.plan c.requires.values)

pub returns-in_err-commit-clause-kept : goal.returns-in_err-commit-clause-kept
returns-in_err-commit-clause-kept g c =
    on_err c.from_residual-in_err-commit.result (λ i is. image_same i c.make_ready.new.w c.commit.new.self c.commit.ensures.plan c.in_err-commit.ensures.kept c.in_err-commit.ensures.seq_kept (c.make_ready.ensures.image i is))
  where
    on_err : {X E : Type 0} {P : Type 0} (r : Result X E) → P → OnErr r P
    on_err (Ok x) h = tt
    on_err (Err e) h = h

pub returns-clause-answer : goal.returns-clause-answer
returns-clause-answer g c = λ active a b m.
    let lines = map as_line c.args.c.now in
    let w = c.args.w.now in
    let w1 = c.make_ready.new.w in
    let p = c.args.place.now in
    let net = c.in_ok-net.net in
    let r = c.in_ok-ready.ready in
    net_answer w p a b active m lines net c.in_ok-net.ensures.net (ready_low w w1 p net.stored r c.in_ok-ready.ensures.ready c.make_ready.ensures.seq) (ready_short w w1 p net.stored r c.in_ok-ready.ensures.ready c.make_ready.ensures.seq)

pub returns-clause-values : goal.returns-clause-values
returns-clause-values g c =
    let w = c.args.w.now in
    let w1 = c.make_ready.new.w in
    let w2 = c.commit.new.self in
    let lines = map as_line c.args.c.now in
    let fit = fitting_lines w.plan.spec c.args.c.now c.requires.lines in
    let net = c.in_ok-net.net in
    let is = c.in_ok-net.ensures.net in
    let distinct = c.in_ok-net.ensures.distinct in
    let deltas_are = c.in_ok-ready.ensures.ready.deltas_are in
    changed_values w w2 net.stored (c.commit.ensures.plan ∙ c.make_ready.ensures.plan) c.requires.form c.requires.values (net_applies w c.requires.form c.requires.values lines fit net is distinct)
    (changed_from w w1 w2 net.stored c.make_ready.ensures.kept (subst (λ (ds : List Delta). AreChanged w1.tables ds w2.tables) deltas_are c.in_ok-commit.ensures.tables))
    (net_fits w c.requires.form c.requires.values lines fit net is distinct) (net_spelled w c.requires.form c.requires.values lines fit net is distinct) (net_under w c.requires.form c.requires.values lines fit net is distinct)

pub returns-clause-file : goal.returns-clause-file
returns-clause-file g c =
    let place = c.args.place.now in
    let body_is = ready_body c.args.w.now c.make_ready.new.w place c.in_ok-net.net.stored c.in_ok-ready.ready c.in_ok-ready.ensures.ready c.make_ready.ensures.seq in
    c.in_ok-commit.ensures.file ∙ ap (λ (body : List ℕ). option_map (λ file. appended file place.journal.end body) (g.D.Disk.content (active_of place.which c.args.first.now c.args.second.now))) body_is

pub returns-clause-holds : goal.returns-clause-holds
returns-clause-holds g c =
    let w = c.args.w.now in
    let w1 = c.make_ready.new.w in
    let w2 = c.commit.new.self in
    let p = c.args.place.now in
    let p2 = c.commit.new.place in
    let lines = map as_line c.args.c.now in
    let fit = fitting_lines w.plan.spec c.args.c.now c.requires.lines in
    let net = c.in_ok-net.net in
    let is = c.in_ok-net.ensures.net in
    let distinct = c.in_ok-net.ensures.distinct in
    let r = c.in_ok-ready.ready in
    let deltas_are = c.in_ok-ready.ensures.ready.deltas_are in
    let spelled = net_spelled w c.requires.form c.requires.values lines fit net is distinct in
    let count = net_count w c.requires.form c.requires.values lines fit net is distinct in
    let allowed = net_allowed w c.requires.form c.requires.values lines fit net is distinct in
    told_four (g.D.Disk.content c.args.first.now) (g.D.Disk.content c.args.second.now) (g.D.Disk.content c.commit.new.first) (g.D.Disk.content c.commit.new.second)
    (λ a b x y. Advances r.deltas a b w1 p x y w2 p2)
    (λ a b x y. (active : Active) → Matches active a b w p → Matches (active_with active (stored_changes active.image lines)) x y w2 p2)
    (λ a b x y advances active m.
    let ds_are : r.deltas ≡ stored_changes active.image lines = deltas_are ∙ changes_are w p a b active m lines net is in
    let m1 : Matches active a b w1 p = record { holds = m.holds; warehouse = c.make_ready.ensures.image active.image m.warehouse; place = m.place } in
    let may : MayFollow active.image r.deltas = subst (MayFollow active.image) (sym deltas_are) (may_follow w p a b active m lines net is spelled count allowed) in
    subst (λ (ds : List Delta). Matches (active_with active ds) x y w2 p2) ds_are (advances active m1 may))
    c.in_ok-commit.ensures.holds

pub returns-in_err-commit-clause-any_moment : goal.returns-in_err-commit-clause-any_moment
returns-in_err-commit-clause-any_moment g c = λ settled.
    let w = c.args.w.now in
    let w1 = c.make_ready.new.w in
    let p = c.args.place.now in
    let lines = map as_line c.args.c.now in
    let fit = fitting_lines w.plan.spec c.args.c.now c.requires.lines in
    let net = c.in_ok-net.net in
    let is = c.in_ok-net.ensures.net in
    let distinct = c.in_ok-net.ensures.distinct in
    let r = c.in_ok-ready.ready in
    let deltas_are = c.in_ok-ready.ensures.ready.deltas_are in
    let spelled = net_spelled w c.requires.form c.requires.values lines fit net is distinct in
    let count = net_count w c.requires.form c.requires.values lines fit net is distinct in
    let allowed = net_allowed w c.requires.form c.requires.values lines fit net is distinct in
    let old = active_of p.which c.args.first.now c.args.second.now in
    let new = active_of p.which c.commit.new.first c.commit.new.second in
    told_two (g.D.Disk.content c.args.first.now) (g.D.Disk.content c.args.second.now)
    (λ a b. (active : Active) → Matches active a b w1 p → MayFollow active.image r.deltas → LeavesOnly g.D.Disk.moment g.D.Disk.images_since old new (IsHeldBeforeOrAfter active r.deltas a b))
    (λ a b. (active : Active) → Matches active a b w p → LeavesOnly g.D.Disk.moment g.D.Disk.images_since old new (IsHeldBeforeOrAfter active (stored_changes active.image lines) a b))
    (λ a b leaves active m.
    let ds_are : r.deltas ≡ stored_changes active.image lines = deltas_are ∙ changes_are w p a b active m lines net is in
    let m1 : Matches active a b w1 p = record { holds = m.holds; warehouse = c.make_ready.ensures.image active.image m.warehouse; place = m.place } in
    let may : MayFollow active.image r.deltas = subst (MayFollow active.image) (sym deltas_are) (may_follow w p a b active m lines net is spelled count allowed) in
    subst (λ (ds : List Delta). LeavesOnly g.D.Disk.moment g.D.Disk.images_since old new (IsHeldBeforeOrAfter active ds a b)) ds_are (leaves active m1 may))
    (c.commit.ensures.any_moment settled)

pub returns-clause-any_moment : goal.returns-clause-any_moment
returns-clause-any_moment g c = λ settled.
    let w = c.args.w.now in
    let w1 = c.make_ready.new.w in
    let p = c.args.place.now in
    let lines = map as_line c.args.c.now in
    let fit = fitting_lines w.plan.spec c.args.c.now c.requires.lines in
    let net = c.in_ok-net.net in
    let is = c.in_ok-net.ensures.net in
    let distinct = c.in_ok-net.ensures.distinct in
    let r = c.in_ok-ready.ready in
    let deltas_are = c.in_ok-ready.ensures.ready.deltas_are in
    let spelled = net_spelled w c.requires.form c.requires.values lines fit net is distinct in
    let count = net_count w c.requires.form c.requires.values lines fit net is distinct in
    let allowed = net_allowed w c.requires.form c.requires.values lines fit net is distinct in
    let old = active_of p.which c.args.first.now c.args.second.now in
    let new = active_of p.which c.commit.new.first c.commit.new.second in
    told_two (g.D.Disk.content c.args.first.now) (g.D.Disk.content c.args.second.now)
    (λ a b. (active : Active) → Matches active a b w1 p → MayFollow active.image r.deltas → LeavesOnly g.D.Disk.moment g.D.Disk.images_since old new (IsHeldBeforeOrAfter active r.deltas a b))
    (λ a b. (active : Active) → Matches active a b w p → LeavesOnly g.D.Disk.moment g.D.Disk.images_since old new (IsHeldBeforeOrAfter active (stored_changes active.image lines) a b))
    (λ a b leaves active m.
    let ds_are : r.deltas ≡ stored_changes active.image lines = deltas_are ∙ changes_are w p a b active m lines net is in
    let m1 : Matches active a b w1 p = record { holds = m.holds; warehouse = c.make_ready.ensures.image active.image m.warehouse; place = m.place } in
    let may : MayFollow active.image r.deltas = subst (MayFollow active.image) (sym deltas_are) (may_follow w p a b active m lines net is spelled count allowed) in
    subst (λ (ds : List Delta). LeavesOnly g.D.Disk.moment g.D.Disk.images_since old new (IsHeldBeforeOrAfter active ds a b)) ds_are (leaves active m1 may))
    (c.commit.ensures.any_moment settled)
