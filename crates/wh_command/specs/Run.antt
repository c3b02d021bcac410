-- What a run of the program answers.
use Rattle.std.specs.Prelude.{◌≡◌, ℕ, ◌+◌, ◌≤◌, true, false, List, length, Option, None, Some, IfSome, IfOk, OnOk, Result, Ok, Err}
use Rattle.wh_gen.specs.Files.{case_dir, case_spec, change_names}
use Rattle.wh_io.specs.Causes.{IsCounted, IsCountedPair}
use Rattle.wh_io.specs.Files.{Held}
use Rattle.wh_store.specs.Image.{Holding}
use Rattle.wh_command.specs.declared.status.Status.{Status}
use Rattle.wh_command.specs.declared.stop.Stop.{Stop}
use Rattle.wh_command.specs.declared.stop.Stop.TheVariants.{Usage}
use Rattle.wh_command.specs.Commands.{Command, show, plan, load, refresh, query, dump, audit, report, make, is_apart, command_of, expected, expected_of, IsEndStatus}
use Rattle.wh_command.specs.Disks.{BothRest, BothLeave, CrashReaches}
use Rattle.wh_command.specs.Ends.{Ends}
use Rattle.wh_command.specs.Inputs.{IsNextFile}
use Rattle.wh_command.specs.Load.{loading, IsReadByLoad, HoldsSnapshot}
use Rattle.wh_command.specs.Make.{HoldsCase, made_files}
use Rattle.wh_command.specs.Refresh.{refresh_outcome, opened_active, IsUnderWay, WritesChanges}
use Rattle.wh_command.specs.Report.{IsReadByAudit}
use Rattle.wh_command.specs.Steps.{NamesRead, is_usage, is_store_stop, is_read_fault, is_write_fault, is_disk_fault}
use Rattle.wh_command.specs.Stop.{IsTold}

-- the file whose reading may fail, over what the store holds; of change files, the one of which `out` says that it is under way
abbrev pub IsReadBy : Command → Held → Holding → Option (List ℕ) → Option (List ℕ) → List ℕ → Type 0
IsReadBy (show spec_name dir) held start before after = IsNextFile held spec_name dir
IsReadBy (plan spec_name) held start before after = λ file. file ≡ spec_name
IsReadBy (load spec_name dir) held start before after = IsReadByLoad held spec_name dir start
IsReadBy (refresh names) held start before after = IsUnderWay names (refresh_outcome held names start).pieces before after
IsReadBy (query text) held start before after = λ file. ⊥
IsReadBy (dump word) held start before after = λ file. ⊥
IsReadBy (audit word file) held start before after = IsReadByAudit word file start
IsReadBy report held start before after = λ file. ⊥
IsReadBy (make number size) held start before after = λ file. ⊥

-- what is seen, at one moment, of the things that a command works on
pub record View (D : Type 0) : Type 0 where
  pub held : Option Held
  pub out : Option (List ℕ)
  pub first : D
  pub second : D

-- A command ended in one of the ways that its outcome allows, and a fault of reading names a file that it had come to.
pub record EndsFrom (command : Command) (held : Held) (start : Holding) (Rests : Holding → Type 0) (Leaves : Holding → Holding → Type 0) (before after : Option (List ℕ)) (finish : Result Status Stop) : Type 0 where
  pub ends : Ends (expected command held start) Rests Leaves before after finish
  pub names : NamesRead (IsReadBy command held start before after) finish

-- A command that works apart from the store leaves both disks as they were, blames none, and ends as its outcome allows whatever the
-- store holds.
pub record EndsApart {D : Type 0} (command : Command) (before after : View D) (finish : Result Status Stop) : Type 0 where
  pub no_store : is_store_stop finish ≡ false
  pub first : after.first ≡ before.first
  pub second : after.second ≡ before.second
  pub from : IfSome before.held (λ held. (start : Holding) → EndsFrom command held start (λ state. state ≡ start) (λ _ _. ⊥) before.out after.out finish)

-- What a command leaves in the files, byte by byte: after a load the first is one snapshot of what was loaded, and after change files the
-- active one has a frame more for each that was accepted; after a case was made the first is both. No load writes the second, and what
-- only asks of the store writes neither.
abbrev pub LeavesBytes : {D : Type 0} → (D → Option (List ℕ)) → Command → Held → Holding → View D → View D → Result Status Stop → Type 0
LeavesBytes content (load spec_name dir) held start before after finish = OnOk finish (HoldsSnapshot (loading held spec_name dir start) (content after.first)) × (content after.second ≡ content before.second)
LeavesBytes content (refresh names) held start before after finish = OnOk finish (WritesChanges content held names (opened_active start) before.first after.first before.second after.second)
LeavesBytes content (query text) held start before after finish = (content after.first ≡ content before.first) × (content after.second ≡ content before.second)
LeavesBytes content (dump word) held start before after finish = (content after.first ≡ content before.first) × (content after.second ≡ content before.second)
LeavesBytes content (audit word file) held start before after finish = (content after.first ≡ content before.first) × (content after.second ≡ content before.second)
LeavesBytes content report held start before after finish = (content after.first ≡ content before.first) × (content after.second ≡ content before.second)
LeavesBytes content (make number size) held start before after finish = OnOk finish (HoldsCase content (made_files number size) case_spec case_dir change_names start after.first before.second after.second)
LeavesBytes content other held start before after finish = Unit {0}

-- How a command ends: where the files tell what they hold, and nothing is pending on the disks, in one of the ways that its outcome
-- allows.
pub record EndsAs {D : Type 0} (content : D → Option (List ℕ)) (images : D → List ℕ → Type 0) (command : Command) (before after : View D) (finish : Result Status Stop) : Type 0 where
  pub no_usage : is_usage finish ≡ false
  pub done : IfOk finish (IsEndStatus command)
  pub from : IfSome before.held (λ held. (start : Holding) → BothRest content images before.first before.second start
      → EndsFrom command held start (BothRest content images after.first after.second) (BothLeave images after.first after.second) before.out after.out finish)
  pub apart : is_apart command ≡ true → EndsApart command before after finish
  pub bytes : IfSome before.held (λ held. (start : Holding) → BothRest content images before.first before.second start → LeavesBytes content command held start before after finish)

-- how words end: by Usage exactly where they name no command
abbrev pub Finishes : {D : Type 0} → (D → Option (List ℕ)) → (D → List ℕ → Type 0) → Option Command → View D → View D → Result Status Stop → Type 0
Finishes content images None before after finish = (finish ≡ Err Usage) × (after.out ≡ before.out) × (after.first ≡ before.first) × (after.second ≡ before.second)
Finishes content images (Some command) before after finish = EndsAs content images command before after finish

-- Where the files tell what they hold, and nothing was pending on the disks, a crash at any moment since entry leaves a state that some
-- first pieces of what the words come to lead to.
abbrev pub Crashes : {D : Type 0} → (D → Option (List ℕ)) → (D → List ℕ → Type 0) → (D → ℕ) → (D → ℕ → List ℕ → Type 0) → Option Command → Option Held → D → D → D → D → Type 0
Crashes content images moment images_since named held first_old first_new second_old second_new =
    IfSome held (λ files. (start : Holding) → BothRest content images first_old second_old start → CrashReaches moment images_since (expected_of named files start) first_old first_new second_old second_new)

-- Where change files are taken, no more bytes are read of a disk than its file had.
abbrev pub ReadsOnce : {D : Type 0} → (D → Option (List ℕ)) → (D → ℕ) → Option Command → D → D → D → D → Type 0
ReadsOnce content reads (Some (refresh names)) first_old first_new second_old second_new =
    IfSome (content first_old) (λ a. reads first_new ≤ reads first_old + length a) × IfSome (content second_old) (λ b. reads second_new ≤ reads second_old + length b)
ReadsOnce content reads other first_old first_new second_old second_new = Unit {0}

-- and the counts of faults, and `err`
pub record Scene (D : Type 0) : Type 0 where
  pub view : View D
  pub files_faults : ℕ
  pub out_faults : ℕ
  pub err : Option (List ℕ)
  pub err_faults : ℕ

-- the status and what stands on `err`, from how the command ended
abbrev pub Reports : {D : Type 0} → Result Status Stop → Scene D → Scene D → Status → Type 0
Reports (Ok status) before after result = (result ≡ status) × (after.err ≡ before.err) × (after.err_faults ≡ before.err_faults)
Reports (Err stop) before after result = IsTold stop before.err after.err before.err_faults after.err_faults result

-- A run of words: how it ended, the counts that rose by that, and what was told of it.
pub record Answers {D : Type 0} (content : D → Option (List ℕ)) (faults : D → ℕ) (images : D → List ℕ → Type 0) (words : List (List ℕ)) (before after : Scene D) (result : Status) : Type 0 where
  pub finish : Result Status Stop
  pub finishes : Finishes content images (command_of words) before.view after.view finish
  pub read : IsCounted (is_read_fault finish) before.files_faults after.files_faults
  pub write : IsCounted (is_write_fault finish) before.out_faults after.out_faults
  pub disk : IsCountedPair (is_disk_fault finish) (faults before.view.first) (faults after.view.first) (faults before.view.second) (faults after.view.second)
  pub reports : Reports finish before after result
