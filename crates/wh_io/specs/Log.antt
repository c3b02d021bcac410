-- How a record keeps its calls: the bytes of all writes stand one after another in a log.
use Rattle.std.specs.Prelude.{ℕ, ◌+◌, ◌≤◌, List, [], ◌∷◌, map, reverse, length, slice_range, vec_len, vec_capacity}
use Rattle.wh_io.specs.declared.record.Call.{Call}
use Rattle.wh_io.specs.declared.record.Call.TheVariants.{Write, Cut, Sync}
use Rattle.wh_io.specs.declared.record.CallRecord.TheInside.{Inside}
use Rattle.wh_io.specs.Recorded.{Recorded, wrote, cut_off, synced, Recording}

-- what a kept call stands for
abbrev pub recorded : List ℕ → Call → Recorded
recorded log (Write at from count done) = wrote at (slice_range log from (from + count)) done
recorded log (Cut to done) = cut_off to done
recorded log (Sync done) = synced done

-- the newest call stands first
abbrev pub all_recorded : List ℕ → List Call → List Recorded
all_recorded log calls = reverse (map (recorded log) calls)

-- the call's bytes stand in the log
abbrev pub InLog : ℕ → Call → Type 0
InLog size (Write at from count done) = from + count ≤ size
InLog size (Cut to done) = Unit {0}
InLog size (Sync done) = Unit {0}

-- so do those of all calls
abbrev pub AllInLog : ℕ → List Call → Type 0
AllInLog size [] = Unit {0}
AllInLog size (call ∷ calls) = InLog size call × AllInLog size calls

-- what a record is seen as
abbrev pub recording_of : Inside → Recording
recording_of record_ = record { calls = all_recorded record_.log.items record_.calls.items; room = record_.room; spare = record_.spare }

-- the bytes of all calls stand in the log, and there is memory for the room that is left
pub record IsRecord (kept : Inside) : Type 0 where
  pub in_log : AllInLog (length kept.log.items) kept.calls.items
  pub log_fits : vec_len kept.log + kept.room ≤ vec_capacity kept.log
  pub calls_fit : vec_len kept.calls + kept.spare ≤ vec_capacity kept.calls
