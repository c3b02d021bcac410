use Rattle.wh_io.proofs.Crashed.{fresh_is_left}
use Rattle.wh_io.proofs.mem_disk.MemDisk.after_crash.Goals as goal

pub returns-clause-left : goal.returns-clause-left
returns-clause-left c = fresh_is_left c.args.fill _ _ c.args.torn c.args.self.now _ _ c.fresh.result c.in_ok-content.ensures c.fresh.ensures
