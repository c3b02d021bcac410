-- The devices in memory, as contracts see them.
use Rattle.std.specs.Prelude.{ℕ, nat_le, nat_lt, ◌+◌, ◌-◌, ◌^◌, min, Bool, ◌==◌, not, ◌&&◌, if◌then◌else◌, List, [], Option, position, slice_get, option_and_then, length, ◌∷◌}
use Rattle.std.specs.List.{list_any}
use Rattle.wh_io.specs.Recorded.{Recording, played, torn, Left, LeftSince, wrote, Recorded}
use Rattle.std.specs.Option.{option_map}
use Rattle.std.specs.Str.{bytes_eq}
use Rattle.wh_base.specs.RoomyText.{RoomyText}

-- the numbers of the calls that are to fail, the calls so far and the faults so far
pub record Plan : Type 0 where
  pub fails : List ℕ
  pub calls : ℕ
  pub faults : ℕ

-- the number of the call under way, the first being 1
abbrev pub call_number : Plan → ℕ
call_number plan = min (plan.calls + 1) (2 ^ 64 - 1)

-- a call goes well where its number is not listed and it fits
abbrev pub goes_well : Plan → Bool → Bool
goes_well plan fits = not (list_any (λ number. number == call_number plan) plan.fails) && fits

-- the plan after a call that fits or not
abbrev pub after_call : Plan → Bool → Plan
after_call plan fits = record { fails = plan.fails; calls = call_number plan; faults = if goes_well plan fits then plan.faults else min (plan.faults + 1) (2 ^ 64 - 1) }

-- files in memory: their names, their texts in the same order, and which calls fail
pub record FilesInMemory : Type 0 where
  pub names : List (List ℕ)
  pub contents : List RoomyText
  pub plan : Plan

-- the text under a name, at the place where the name stands first
abbrev pub text_of : FilesInMemory → List ℕ → Option RoomyText
text_of files name = option_and_then (λ i. slice_get files.contents i) (position (λ held. bytes_eq held name) files.names)

-- what stands under a name
abbrev pub content_of : FilesInMemory → List ℕ → Option (List ℕ)
content_of files name = option_map (λ text. text.bytes) (text_of files name)

-- a sink in memory
pub record SinkInMemory : Type 0 where
  pub taken : List ℕ
  -- the most bytes that a call takes, and how many all calls may still take
  pub most : ℕ
  pub room : ℕ
  pub plan : Plan

-- a disk in memory: its content is what the recorded calls make of the one that it began with
pub record DiskInMemory : Type 0 where
  -- the content when it was made, or opened after a crash
  pub start : List ℕ
  pub recording : Recording
  pub plan : Plan
  pub reads : ℕ
  -- the bytes and the calls that it was made with room for
  pub room : ℕ
  pub calls : ℕ

-- a disk with this content, of which nothing is pending
abbrev pub fresh_disk : List ℕ → ℕ → ℕ → List ℕ → DiskInMemory
fresh_disk content room calls fails = record {
  start = content;
  recording = record { calls = []; room = room; spare = calls };
  plan = record { fails = fails; calls = 0; faults = 0 };
  reads = 0;
  room = room;
  calls = calls;
}

-- the content
abbrev pub content_now : DiskInMemory → List ℕ
content_now disk = played disk.start disk.recording.calls

-- what a crash now may leave
abbrev pub left_now : DiskInMemory → List ℕ → Type 0
left_now disk c = Left disk.start disk.recording.calls c

-- what a crash since the t-th recorded call may have left
abbrev pub left_since : DiskInMemory → ℕ → List ℕ → Type 0
left_since disk t c = LeftSince disk.start disk.recording.calls t c

-- the content after a crash that tears all that is pending, or nothing
abbrev pub crashed_content : ℕ → Bool → DiskInMemory → List ℕ
crashed_content fill is_torn disk = if is_torn then torn fill disk.start disk.recording.calls else content_now disk

-- a call with so many bytes is within the room
abbrev pub has_room : DiskInMemory → ℕ → Bool
has_room disk count = nat_le count disk.recording.room && nat_lt 0 disk.recording.spare

-- the record after a write, which uses the room of its bytes
abbrev pub after_write : DiskInMemory → ℕ → List ℕ → Bool → Recording
after_write disk at bytes done =
    if has_room disk (length bytes)
    then record { calls = wrote at bytes done ∷ disk.recording.calls; room = disk.recording.room - length bytes; spare = disk.recording.spare - 1 }
    else disk.recording

-- the record after a cut or a sync
abbrev pub after_note : DiskInMemory → Recorded → Recording
after_note disk call =
    if has_room disk 0
    then record { calls = call ∷ disk.recording.calls; room = disk.recording.room; spare = disk.recording.spare - 1 }
    else disk.recording
