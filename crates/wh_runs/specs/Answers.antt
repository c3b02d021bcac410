-- What a run of a command answers: the contract of every command.
use Rattle.std.specs.Prelude.{◌≡◌, ◌⊎◌, ℕ, ◌+◌, ◌≤◌, Bool, true, false, List, Option, None, Some}
use Rattle.wh_io.specs.Causes.{IsCounted, IsCountedPair}
use Rattle.wh_io.specs.Files.{Held}
use Rattle.wh_runs.specs.Outcome.{Contents, Finish, done, is_refused, is_read_fault, is_write_fault, is_disk_fault}
use Rattle.wh_runs.specs.Disks.{Form, Disks, Tells, Leaves, Stands, CrashPair}
use Rattle.wh_runs.specs.Ends.{Seen, Ends, Crashes}
use Rattle.wh_runs.specs.Program.{Program, expected, IsLed}

-- a claim of the status at the end
abbrev pub OnDone : {S R : Type 0} → (S → Type 0) → Finish S R → Type 0
OnDone P (done status) = P status
OnDone P other = Unit {0}

-- both disks are as they were, and none is blamed
pub record StaysApart {F D S R : Type 0} (seen : Seen F D) (finish : Finish S R) : Type 0 where
  pub disks : seen.after.disks ≡ seen.before.disks
  pub no_disk_fault : is_disk_fault finish ≡ false

-- of each disk no more bytes were read than this, by the content of its file
abbrev pub ReadsWithin : {D : Type 0} → Form D → Option (List ℕ → ℕ) → Contents → Disks D → Disks D → Type 0
ReadsWithin form None start before after = Unit {0}
ReadsWithin form (Some limit) start before after =
    (form.reads after.first ≤ form.reads before.first + limit start.first) × (form.reads after.second ≤ form.reads before.second + limit start.second)

-- what has to be known of the disks at entry: that they tell these contents, unless the command leaves the two files alone
abbrev pub IsKnown : {D : Type 0} → Bool → Form D → Disks D → Contents → Type 0
IsKnown true form disks start = Unit {0}
IsKnown false form disks start = Tells form disks start

-- A run of a command: how it ended, and what was seen at entry and at exit. Writes may be pending on both disks at entry; all that has to be known
-- of them is that they tell their contents.
pub record Answers {F D : Type 0} (form : Form D) (program : Program) (command : program.Command) (seen : Seen F D) (finish : Finish program.Status program.Refusal) : Type 0 where
  -- one status, each fault with its cause
  pub status : OnDone (program.profile command).ends_with finish
  pub read_cause : IsCounted (is_read_fault finish) seen.before.files_faults seen.after.files_faults
  pub write_cause : IsCounted (is_write_fault finish) seen.before.out_faults seen.after.out_faults
  pub disk_cause : IsCountedPair (is_disk_fault finish) (form.faults seen.before.disks.first) (form.faults seen.after.disks.first) (form.faults seen.before.disks.second) (form.faults seen.after.disks.second)
  -- files of other names are held as before, and the object is as before where none is read
  pub held : seen.after.held ≡ seen.before.held
  pub files : (program.profile command).reads_files ≡ false → seen.after.files ≡ seen.before.files
  pub apart : (program.profile command).is_apart ≡ true → StaysApart seen finish
  pub reads : (start : Contents) → Tells form seen.before.disks start → ReadsWithin form (program.profile command).read_limit start seen.before.disks seen.after.disks
  -- a refusal changes no byte, and whatever a crash leaves is led to by changes that may be written: also where the premise fails
  pub refusal : is_refused finish ≡ true → (start : Contents) → Tells form seen.before.disks start → Stands form seen.before.disks seen.after.disks start 0
  pub led : (held : Held) (start : Contents) → seen.before.held ≡ Some held → Tells form seen.before.disks start
      → (c : Contents) → CrashPair form (program.format.active start) start seen.before.disks seen.after.disks c
      → IsLed program.format (program.profile command).manner (program.format.meaning start) (program.format.meaning c) ⊎ Leaves form seen.before.disks c
  -- what it comes to
  pub ends : (held : Held) (start : Contents) → seen.before.held ≡ Some held → IsKnown (program.profile command).is_apart form seen.before.disks start
      → (program.profile command).premise (program.format.meaning start) → Ends program.format.meaning form (expected program command held start) seen finish
  pub crash : (held : Held) (start : Contents) → seen.before.held ≡ Some held → Tells form seen.before.disks start
      → (program.profile command).premise (program.format.meaning start)
      → Crashes program.format.meaning form (program.format.active start) (expected program command held start) seen.before.disks seen.after.disks
