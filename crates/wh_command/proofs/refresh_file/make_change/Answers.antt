use Rattle.std.proofs.Common.{ap, map}
use Rattle.wh_fit.specs.Fit.{as_line}
use Rattle.wh_plan.specs.declared.plan.Plan.{Plan}
use Rattle.wh_command.proofs.RefreshTaken.{takes_change, takes_refusal, ready_made, refusal_ready, refusal_read, refusal_write, refusal_usage, refusal_disk}
use Rattle.wh_command.proofs.refresh_file.make_change.Goals as goal

pub returns-in-Ok-clause-takes : goal.returns-in-Ok-clause-takes
returns-in-Ok-clause-takes g c =
    takes_change g.D.Disk.content g.D.Disk.images g.D.Disk.moment g.D.Disk.images_since _ _ _ _ _ _ c.args.name.now (map as_line c.args.change.now) _ _ g.met.D.Disk.counts_now g.met.D.Disk.only_now c.refresh.ensures.other c.refresh.ensures.any_moment
    c.in-Ok.net c.in-Ok.ensures.answer c.in-Ok.ensures.holds c.in-Ok.ensures.file c.in-Ok.ensures.durable c.accepted.result _ c.in_ok-line.ensures.bytes c.accepted.ensures.status c.accepted.ensures.line

pub returns-in-Ok-clause-ready : goal.returns-in-Ok-clause-ready
returns-in-Ok-clause-ready g c = ready_made g.D.Disk.content _ _ _ _ _ c.refresh.ensures.form c.refresh.ensures.values c.refresh.ensures.which c.in-Ok.ensures.live c.in-Ok.ensures.journal

pub returns-in-Err-clause-takes : goal.returns-in-Err-clause-takes
returns-in-Err-clause-takes g c =
    takes_refusal g.D.Disk.content g.D.Disk.images g.D.Disk.moment g.D.Disk.images_since _ _ _ _ _ _ c.args.name.now (map as_line c.args.change.now) _ _ g.met.D.Disk.counts_now g.met.D.Disk.only_now c.refresh.ensures.other c.refresh.ensures.any_moment
    _ (ap (λ (p : Plan). p.spec) c.refresh.ensures.plan) c.in-Err.ensures.kept c.in-Err.fault c.refused.result c.refused.ensures.tells c.in-Err.ensures.answer c.in-Err.ensures.disks_kept c.in-Err.ensures.place_kept

pub returns-in-Err-clause-ready : goal.returns-in-Err-clause-ready
returns-in-Err-clause-ready g c =
    refusal_ready g.D.Disk.content _ _ _ _ _ _ _ _ c.requires.ready c.refresh.ensures.form c.refresh.ensures.values c.args.name.now _ c.in-Err.fault c.refused.result c.refused.ensures.tells c.in-Err.ensures.disks_kept c.in-Err.ensures.place_kept

pub returns-in-Err-clause-read : goal.returns-in-Err-clause-read
returns-in-Err-clause-read g c = refusal_read c.args.name.now _ c.in-Err.fault c.refused.result c.refused.ensures.tells

pub returns-in-Err-clause-write : goal.returns-in-Err-clause-write
returns-in-Err-clause-write g c = refusal_write c.args.name.now _ c.in-Err.fault c.refused.result c.refused.ensures.tells

pub returns-in-Err-clause-usage : goal.returns-in-Err-clause-usage
returns-in-Err-clause-usage g c = refusal_usage c.args.name.now _ c.in-Err.fault c.refused.result c.refused.ensures.tells

pub returns-in-Err-clause-disk : goal.returns-in-Err-clause-disk
returns-in-Err-clause-disk g c = refusal_disk c.args.name.now _ c.in-Err.fault c.refused.result _ _ _ _ c.refused.ensures.tells c.in-Err.ensures.cause
