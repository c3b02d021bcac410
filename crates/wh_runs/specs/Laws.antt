-- What follows of every run, and of every history of runs. Each law is one over all forms of disks, all programs, and all objects that read
-- files by name.
use Rattle.std.specs.Prelude.{◌≡◌, ◌⊎◌, ℕ, ◌-◌, ◌^◌, ◌<◌, false, List, ◌∷◌, take, Some}
use Rattle.wh_io.specs.Files.{Held}
use Rattle.wh_io.specs.Sink.{gained, GainsPrefix}
use Rattle.wh_runs.specs.Outcome.{Contents, Outcome, Finish, done, refused, read_fault, no_memory, is_disk_fault, texts, contents_after, last_contents}
use Rattle.wh_runs.specs.Disks.{Form, Tells, Leaves, Rests, Keeps, CrashPair, other, part}
use Rattle.wh_runs.specs.Program.{in_place, Program, expected, steps_over, led, HaveNoChange}
use Rattle.wh_runs.specs.Ends.{Seen, RestsOn}
use Rattle.wh_runs.specs.Answers.{Answers}
use Rattle.wh_runs.specs.History.{Run, IsHistory, IsLeft, IsMade}

-- ---- one run

-- A run over files and disks that tell what they hold, where the command tells its plan.
pub record IsRunOver {F D : Type 0} (form : Form D) (program : Program) (command : program.Command) (held : Held) (start : Contents) (seen : Seen F D) (finish : Finish program.Status program.Refusal) : Type 0 where
  pub files_told : seen.before.held ≡ Some held
  pub disks_told : Tells form seen.before.disks start
  pub premise_met : (program.profile command).premise (program.format.meaning start)
  pub answers : Answers form program command seen finish

-- all was done with this status, all texts were printed, and the last contents stand
pub record IsExact {F D S R : Type 0} (form : Form D) (outcome : Outcome S R) (seen : Seen F D) (status : S) : Type 0 where
  pub finish : outcome.finish ≡ done status
  pub printed : seen.after.out ≡ gained seen.before.out (texts outcome.pieces)
  pub state : RestsOn outcome.is_apart form seen.before.disks seen.after.disks (last_contents outcome.start outcome.pieces)

-- What was done is exact.
abbrev pub DoneIsExact : (F : Type 0) {D : Type 0} → Form D → Program → Type 0
DoneIsExact F form program = (command : program.Command) (held : Held) (start : Contents) (seen : Seen F _) (status : program.Status)
    → IsRunOver form program command held start seen (done status) → IsExact form (expected program command held start) seen status

-- A refusal changes no byte, and nothing may be left that might not have been left at entry: also where the command tells no plan.
abbrev pub RefusalKeeps : (F : Type 0) {D : Type 0} → Form D → Program → Type 0
RefusalKeeps F form program = (command : program.Command) (start : Contents) (seen : Seen F _) (reason : program.Refusal)
    → Tells form seen.before.disks start → Answers form program command seen (refused reason) → Keeps form seen.before.disks seen.after.disks start

-- A command that plans no change leaves the same behind, unless a disk failed.
abbrev pub AskingKeeps : (F : Type 0) {D : Type 0} → Form D → Program → Type 0
AskingKeeps F form program = (command : program.Command) (held : Held) (start : Contents) (seen : Seen F _) (finish : Finish program.Status program.Refusal)
    → IsRunOver form program command held start seen finish → HaveNoChange (steps_over program command held (program.format.meaning start))
    → is_disk_fault finish ≡ false → Keeps form seen.before.disks seen.after.disks start

-- A command that reads no files of other names meets no fault in reading one.
abbrev pub QuietReadsNothing : (F : Type 0) {D : Type 0} → Form D → Program → Type 0
QuietReadsNothing F form program = (command : program.Command) (held : Held) (start : Contents) (seen : Seen F _) (name : List ℕ)
    → (program.profile command).reads_files ≡ false → IsRunOver form program command held start seen (read_fault name) → ⊥

-- no device failed, of which the count has not come to its end
pub record IsFaultless (before now : ℕ) : Type 0 where
  pub counts : before < 2 ^ 64 - 1
  pub same : now ≡ before

pub record HasNoFault {F D : Type 0} (form : Form D) (seen : Seen F D) : Type 0 where
  pub files : IsFaultless seen.before.files_faults seen.after.files_faults
  pub out : IsFaultless seen.before.out_faults seen.after.out_faults
  pub first : IsFaultless (form.faults seen.before.disks.first) (form.faults seen.after.disks.first)
  pub second : IsFaultless (form.faults seen.before.disks.second) (form.faults seen.after.disks.second)

-- Where no device fails a run finishes as its plan says, or for want of memory.
abbrev pub FaultlessIsPlanned : (F : Type 0) {D : Type 0} → Form D → Program → Type 0
FaultlessIsPlanned F form program = (command : program.Command) (held : Held) (start : Contents) (seen : Seen F _) (finish : Finish program.Status program.Refusal)
    → IsRunOver form program command held start seen finish → HasNoFault form seen → ((expected program command held start).finish ≡ finish) ⊎ (finish ≡ no_memory)

-- A command that writes in place leaves the bytes of the other file as they were, whatever is done of it.
abbrev pub InPlaceKeepsOther : Program → Type 0
InPlaceKeepsOther program = (command : program.Command) (held : Held) (start : Contents) (k : ℕ) → (program.profile command).manner ≡ in_place
    → (program.profile command).premise (program.format.meaning start)
    → let last = program.format.active start in part (other last) (contents_after start (expected program command held start).pieces k) ≡ part (other last) start

-- ---- crashes

-- the first k changes of a command lead to it
abbrev pub IsLedBy : (program : Program) → program.Command → Held → Contents → ℕ → Contents → Type 0
IsLedBy program command held start k c =
    let m = program.format.meaning start in
    program.format.meaning c ≡ led program.format m (take k (steps_over program command held m))

-- Whatever a crash leaves is what some first changes lead to, or might have been left at entry.
abbrev pub CrashReaches : (F : Type 0) {D : Type 0} → Form D → Program → Type 0
CrashReaches F form program = (command : program.Command) (held : Held) (start : Contents) (seen : Seen F _) (finish : Finish program.Status program.Refusal)
    → IsRunOver form program command held start seen finish
    → (c : Contents) → CrashPair form (program.format.active start) start seen.before.disks seen.after.disks c
    → ((k : ℕ) × IsLedBy program command held start k c) ⊎ Leaves form seen.before.disks c

-- some first changes lead to it, and `out` has gained no byte of a later text
pub record IsAcknowledged {F D : Type 0} (program : Program) (command : program.Command) (held : Held) (start : Contents) (seen : Seen F D) (c : Contents) : Type 0 where
  pub k : ℕ
  pub is : IsLedBy program command held start k c
  pub printed : GainsPrefix seen.before.out seen.after.out (texts (take k (expected program command held start).pieces))

-- it might have been left at entry, and nothing was printed
pub record IsUntouched {F D : Type 0} (form : Form D) (seen : Seen F D) (c : Contents) : Type 0 where
  pub left : Leaves form seen.before.disks c
  pub printed : seen.after.out ≡ seen.before.out

-- At every exit of a command on the two files, however it ended, whatever a crash leaves has each change whose text was begun.
abbrev pub KeepsAcknowledged : (F : Type 0) {D : Type 0} → Form D → Program → Type 0
KeepsAcknowledged F form program = (command : program.Command) (held : Held) (start : Contents) (seen : Seen F _) (finish : Finish program.Status program.Refusal)
    → (program.profile command).is_apart ≡ false → IsRunOver form program command held start seen finish
    → (c : Contents) → Leaves form seen.after.disks c → IsAcknowledged program command held start seen c ⊎ IsUntouched form seen c

-- ---- one run, where nothing is pending at entry

-- After a refusal nothing is pending, and each byte is as it was.
abbrev pub RefusalRests : (F : Type 0) {D : Type 0} → Form D → Program → Type 0
RefusalRests F form program = (command : program.Command) (start : Contents) (seen : Seen F _) (reason : program.Refusal)
    → Rests form seen.before.disks start → Answers form program command seen (refused reason) → Rests form seen.after.disks start

-- Whatever a crash leaves is what some first changes lead to.
abbrev pub SettledCrashReaches : (F : Type 0) {D : Type 0} → Form D → Program → Type 0
SettledCrashReaches F form program = (command : program.Command) (held : Held) (start : Contents) (seen : Seen F _) (finish : Finish program.Status program.Refusal)
    → Rests form seen.before.disks start → IsRunOver form program command held start seen finish
    → (c : Contents) → CrashPair form (program.format.active start) start seen.before.disks seen.after.disks c → (k : ℕ) × IsLedBy program command held start k c

-- At every exit whatever a crash leaves has each change whose text was begun.
abbrev pub SettledKeepsAcknowledged : (F : Type 0) {D : Type 0} → Form D → Program → Type 0
SettledKeepsAcknowledged F form program = (command : program.Command) (held : Held) (start : Contents) (seen : Seen F _) (finish : Finish program.Status program.Refusal)
    → (program.profile command).is_apart ≡ false → Rests form seen.before.disks start → IsRunOver form program command held start seen finish
    → (c : Contents) → Leaves form seen.after.disks c → IsAcknowledged program command held start seen c

-- ---- histories

-- Over any history of runs and kills that begins with two empty files: whatever may be left of the files at its end means what its runs made of
-- nothing, and what files mean that only these commands have written; the last run began on what the runs before it made, and told its plan.
--
-- Nothing is said of what stood on `out` when a crash cut a run off. No change is lost whose text was begun before: at any moment behind that
-- text the next call of a disk may fail, so some run ends there with that fault, and what may be left of it has the change.
pub record Headline (F : Type 0) {D : Type 0} (form : Form D) (program : Program) : Type 0 where
  pub left : (run : Run F D program) (older : List (Run F D program)) → IsHistory form program (run ∷ older)
      → (c : Contents) → IsLeft form run.seen.after.disks run.stop c → IsMade program (run ∷ older) (program.format.meaning c)
  pub stands : (run : Run F D program) (older : List (Run F D program)) → IsHistory form program (run ∷ older)
      → (c : Contents) → IsLeft form run.seen.after.disks run.stop c → program.stands (program.format.meaning c)
  pub start : (run : Run F D program) (older : List (Run F D program)) → IsHistory form program (run ∷ older) → IsMade program older (program.format.meaning run.start)
  pub premise : (run : Run F D program) (older : List (Run F D program)) → IsHistory form program (run ∷ older)
      → (program.profile run.command).premise (program.format.meaning run.start)
