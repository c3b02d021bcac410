use Rattle.std.proofs.Common.{subst}
use Rattle.wh_io.specs.Recorded.{Recording, Left}
use Rattle.wh_io.specs.Memory.{DiskInMemory, left_now}
use Rattle.wh_io.proofs.Syncs.{synced_within}
use Rattle.wh_io.proofs.mem_disk.MemDiskDisk.sync.Goals as goal

pub returns-clause-crash : goal.returns-clause-crash
returns-clause-crash c = λ image left.
    let start = c.self.inside.start.items in
    let after_sync = subst (λ (r : Recording). Left start r.calls image) c.sync.ensures left in
    subst (λ (d : DiskInMemory). left_now d image) c.self.view_is (synced_within c.is_ok.result start c.self.inside.history.calls image after_sync)
