-- How a disk in memory is kept: its content stands beside the record that gives it.
use Rattle.std.specs.Prelude.{◌≡◌, ◌+◌, ◌≤◌, vec_len, vec_capacity}
use Rattle.wh_io.specs.declared.mem_disk.MemDisk.TheInside.{Inside}
use Rattle.wh_io.specs.Recorded.{played}
use Rattle.wh_io.specs.Memory.{DiskInMemory}

-- what a disk in memory is seen as
abbrev pub disk_of : Inside → DiskInMemory
disk_of disk = record { start = disk.start.items; recording = disk.history; plan = disk.plan; reads = disk.reads; room = disk.room; calls = disk.calls }

-- the content is the one that the recorded calls give, and there is memory for the room that is left
pub record IsKept (disk : Inside) : Type 0 where
  pub played_is : disk.content.items ≡ played disk.start.items disk.history.calls
  pub fits : vec_len disk.content + disk.history.room ≤ vec_capacity disk.content
