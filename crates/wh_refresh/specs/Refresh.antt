-- What the lines of one change come to, over what a store holds.
use Rattle.std.specs.Prelude.{◌≡◌, ℕ, ◌+◌, ◌-◌, ◌^◌, ◌==◌, Bool, true, false, if◌then◌else◌, List, Option, None, Some, Result, Ok, Err}
use Rattle.wh_base.specs.declared.value.Delta.{Delta}
use Rattle.wh_check.specs.Check.{source_deltas, sources_after}
use Rattle.wh_fit.specs.Differences.{differences}
use Rattle.wh_schema.specs.declared.broken.Broken as broken
use Rattle.wh_schema.specs.Changes.{Line}
use Rattle.wh_schema.specs.Constraints.{broken}
use Rattle.wh_schema.specs.Warehouse.{stored}
use Rattle.wh_store.specs.declared.warehouse.NetChange.{NetChange}
use Rattle.wh_store.specs.Commit.{change_body, is_past_limit}
use Rattle.wh_store.specs.Image.{Image, first_over}
use Rattle.wh_refresh.specs.declared.fault.RefreshFault.{RefreshFault}
use Rattle.wh_refresh.specs.declared.fault.RefreshFault.TheVariants as fault

-- the rows that each stored table loses and gains on the way to what is stored of the changed sources
abbrev pub stored_changes : Image → List Line → List Delta
stored_changes i lines = differences i.tables (stored i.spec (sources_after i lines))

-- the change with the next number
abbrev pub next_body : Image → List Line → List ℕ
next_body i lines = change_body (i.seq + 1) (stored_changes i lines)

-- the number of changes, and then the file, are within their limits
abbrev pub numbered : Image → List Line → Result (List Delta) RefreshFault
numbered i lines =
    if i.seq == 2 ^ 64 - 1 then Err fault.SequenceLimit
    else if is_past_limit i.end (next_body i lines) then Err fault.FileLimit
    else Ok (stored_changes i lines)

-- no stored table has more than 4,000,000 rows then
abbrev pub sized : Image → List Line → Option ℕ → Result (List Delta) RefreshFault
sized i lines None = numbered i lines
sized i lines (Some k) = Err (fault.RowLimit k)

-- the changed sources break no constraint
abbrev pub checked : Image → List Line → Option broken.Broken → Result (List Delta) RefreshFault
checked i lines None = sized i lines (first_over (stored i.spec (sources_after i lines)))
checked i lines (Some b) = Err (fault.Broken b)

-- What the lines come to: the change of the stored tables, or the first thing that refuses it.
abbrev pub refreshed : Image → List Line → Result (List Delta) RefreshFault
refreshed i lines = checked i lines (broken i.spec (sources_after i lines))

-- what refreshing answers; a disk fails only where the change was accepted
abbrev pub IsRefreshed : Image → List Line → Result NetChange RefreshFault → Type 0
IsRefreshed i lines (Ok net) = (refreshed i lines ≡ Ok net.stored) × (net.source ≡ source_deltas i lines)
IsRefreshed i lines (Err fault.DiskFault) = refreshed i lines ≡ Ok (stored_changes i lines)
IsRefreshed i lines (Err fault.NoMemory) = Unit {0}
IsRefreshed i lines (Err other) = refreshed i lines ≡ Err other

abbrev pub is_disk_fault : {T : Type 0} → Result T RefreshFault → Bool
is_disk_fault (Ok x) = false
is_disk_fault (Err fault.DiskFault) = true
is_disk_fault (Err other) = false

-- a claim of a refusal or of want of memory, which touched nothing
abbrev pub Refuses : {T : Type 0} → Result T RefreshFault → Type 0 → Type 0
Refuses (Ok x) P = Unit {0}
Refuses (Err fault.DiskFault) P = Unit {0}
Refuses (Err other) P = P

-- a claim of a fault of a disk
abbrev pub OnDiskFault : {T : Type 0} → Result T RefreshFault → Type 0 → Type 0
OnDiskFault (Err fault.DiskFault) P = P
OnDiskFault result P = Unit {0}
