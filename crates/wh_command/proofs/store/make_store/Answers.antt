use Rattle.std.proofs.Common.{◌≡◌, true, List, ℕ}
use Rattle.wh_io.specs.Crash.{LeavesOnly}
use Rattle.wh_store.specs.Store.{are_empty, IsEmptyOrLoaded}
use Rattle.wh_command.proofs.Making.{answer_by, answer_ok, kept_by, durable_by, same_cause, no_usage, no_read, no_write}
use Rattle.wh_command.proofs.Ready.{given_both}
use Rattle.wh_command.proofs.store.make_store.Goals as goal

pub returns-in-Ok-clause-answer : goal.returns-in-Ok-clause-answer
returns-in-Ok-clause-answer g c = answer_ok c.args.plan.spec c.args.tables (g.D.Disk.content c.args.first.now) (g.D.Disk.content c.args.second.now) c.in-Ok.opened c.in-Ok.ensures.answer

pub returns-in-Ok-clause-any_moment : goal.returns-in-Ok-clause-any_moment
returns-in-Ok-clause-any_moment g c =
    λ settled. given_both (g.D.Disk.content c.args.first.now) (g.D.Disk.content c.args.second.now) (λ (a b : List ℕ). are_empty a b ≡ true) (λ (a b : List ℕ). LeavesOnly g.D.Disk.moment g.D.Disk.images_since c.args.first.now c.create.new.first (IsEmptyOrLoaded c.args.plan.spec c.args.tables b)) c.requires.empty (c.create.ensures.any_moment settled)

pub returns-in-Err-clause-any_moment : goal.returns-in-Err-clause-any_moment
returns-in-Err-clause-any_moment g c =
    λ settled. given_both (g.D.Disk.content c.args.first.now) (g.D.Disk.content c.args.second.now) (λ (a b : List ℕ). are_empty a b ≡ true) (λ (a b : List ℕ). LeavesOnly g.D.Disk.moment g.D.Disk.images_since c.args.first.now c.create.new.first (IsEmptyOrLoaded c.args.plan.spec c.args.tables b)) c.requires.empty (c.create.ensures.any_moment settled)

pub returns-in-Err-clause-answer : goal.returns-in-Err-clause-answer
returns-in-Err-clause-answer g c = answer_by c.args.plan.spec c.args.tables (g.D.Disk.content c.args.first.now) (g.D.Disk.content c.args.second.now) c.in-Err.fault _ c.making_stop.ensures c.in-Err.ensures.answer

pub returns-in-Err-clause-kept : goal.returns-in-Err-clause-kept
returns-in-Err-clause-kept g c = kept_by c.in-Err.fault _ _ c.making_stop.ensures c.in-Err.ensures.kept

pub returns-in-Err-clause-durable : goal.returns-in-Err-clause-durable
returns-in-Err-clause-durable g c = durable_by c.in-Err.fault _ _ _ c.making_stop.ensures c.in-Err.ensures.durable

pub returns-in-Err-clause-disk : goal.returns-in-Err-clause-disk
returns-in-Err-clause-disk g c = same_cause c.in-Err.fault _ _ _ _ _ c.making_stop.ensures c.in-Err.ensures.cause

pub returns-in-Err-clause-usage : goal.returns-in-Err-clause-usage
returns-in-Err-clause-usage g c = no_usage c.in-Err.fault _ c.making_stop.ensures

pub returns-in-Err-clause-read : goal.returns-in-Err-clause-read
returns-in-Err-clause-read g c = no_read c.in-Err.fault _ c.making_stop.ensures

pub returns-in-Err-clause-write : goal.returns-in-Err-clause-write
returns-in-Err-clause-write g c = no_write c.in-Err.fault _ c.making_stop.ensures
