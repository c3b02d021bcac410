-- How the counter is created.
use Rattle.std.specs.Prelude.{◌≡◌, ◌⊎◌, ℕ, ◌<◌, List, [], ◌∷◌, Option, IfSome, Result, Ok, Err, codes}
use Rattle.std.specs.Option.{option_map}
use Rattle.wh_io.specs.Crash.{IsSettled, LeavesOnly}
use Rattle.wh_io.specs.Disk.{Torn, written}
use Rattle.wh_io.specs.Sink.{gained, GainsPrefix}
use Rattle.wh_runs.specs.declared.creating.NotMade.{NotMade}
use Rattle.wh_runs.specs.declared.creating.NotMade.TheVariants.{CreatedBefore, WriteFault, DiskFault}
use Rattle.wh_runs.specs.Counter.{Refusal, created_before, count_in}
use Rattle.wh_runs.specs.Disks.{Form, Disks, Tells, Rests}
use Rattle.wh_runs.specs.Opens.{AreUnwritten}
use Rattle.wh_runs.specs.Outcome.{Contents, Finish, done, refused, write_fault, disk_fault}

-- how a run of it ends
abbrev pub create_finish : Result (Unit {0}) NotMade → Finish (Unit {0}) Refusal
create_finish (Ok made) = done tt
create_finish (Err CreatedBefore) = refused created_before
create_finish (Err WriteFault) = write_fault
create_finish (Err DiskFault) = disk_fault

-- the line is told, or a first part of it, or nothing is
abbrev pub TellsLine : Option (List ℕ) → Option (List ℕ) → Result (Unit {0}) NotMade → Type 0
TellsLine before after (Ok made) = after ≡ gained before (codes "created\n")
TellsLine before after (Err WriteFault) = GainsPrefix before after (codes "created\n")
TellsLine before after (Err other) = after ≡ before

-- a byte was written into a file with nothing pending, or is being written
abbrev pub WritesByte : {D : Type 0} → Form D → D → D → Type 0
WritesByte form before after = IsSettled (form.content before) (form.images before)
    → IfSome (form.content before) (λ bytes. LeavesOnly form.moment form.images_since before after (Torn 0 1 bytes))

-- it was, and nothing is pending
pub record HasByte {D : Type 0} (form : Form D) (before after : D) : Type 0 where
  pub content : form.content after ≡ option_map (λ bytes. written bytes 0 (1 ∷ [])) (form.content before)
  pub settled : IsSettled (form.content after) (form.images after)

-- Both files were settled and found empty, and then the first one was written.
pub record WritesFirst {D : Type 0} (form : Form D) (before after : Disks D) : Type 0 where
  pub mid : Disks D
  pub opened : AreUnwritten form before mid
  pub none : (c : Contents) → Tells form before c → count_in c ≡ 0
  pub rests : (c : Contents) → Tells form before c → Rests form mid c
  pub second : after.second ≡ mid.second
  pub first : (c : Contents) → Tells form before c → LeavesOnly form.moment form.images_since mid.first after.first (Torn 0 1 c.first)

-- the first file has its byte, and nothing is pending
abbrev pub HasFirst : {D : Type 0} → Form D → Disks D → Disks D → Type 0
HasFirst form before after = (c : Contents) → Tells form before c → Rests form after (record { first = 1 ∷ []; second = [] })

abbrev pub IsBegun : {D : Type 0} → Form D → Disks D → Disks D → Result (Unit {0}) NotMade → Type 0
IsBegun form before after (Ok made) = WritesFirst form before after × HasFirst form before after
IsBegun form before after (Err WriteFault) = WritesFirst form before after × HasFirst form before after
IsBegun form before after (Err CreatedBefore) = AreUnwritten form before after × ((c : Contents) → Tells form before c → 0 < count_in c)
IsBegun form before after (Err DiskFault) = AreUnwritten form before after ⊎ WritesFirst form before after
